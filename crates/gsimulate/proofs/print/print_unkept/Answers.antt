use Rattle.std.proofs.Common.{subst, ◌∙◌}
use Rattle.gpkt.specs.Sending.{output_of}
use Rattle.gcmd.specs.Programs.{Prints}
use Rattle.gsimulate.proofs.print.print_unkept.Goals as goal

pub returns-clause-printed : goal.returns-clause-printed
returns-clause-printed g c =
    subst (Prints (output_of g.E.Sink.contents g.E.Sink.passed_on g.E.Sink.is_down c.args.errors.now c.print_line.new.errors))
    (c.as_slice.ensures.value ∙ c.unkept-text.ensures) c.print_line.ensures.printed
