use Rattle.std.proofs.Common.{Bool, Err, subst, sym}
use Rattle.gpkt.specs.Sending.{output_of}
use Rattle.gtcp.specs.steps.Remote.{Tells}
use Rattle.gtcp.proofs.TellingLemmas.{tells_printed}
use Rattle.gtcp.proofs.serving.tell.Goals as goal

pub returns-in-Err-clause-tells : goal.returns-in-Err-clause-tells
returns-in-Err-clause-tells g c =
    let output = output_of g.E.Sink.contents g.E.Sink.passed_on g.E.Sink.is_down c.args.errors.now c.print_fault.new.errors in
    subst (λ outcome. Tells outcome c.args.can_print c.is_ok.result output) (sym c.in-Err.is)
    (subst (λ (can : Bool). Tells (Err c.in-Err.fault) c.args.can_print can output) (sym c.is_ok.ensures.value)
    (tells_printed output c.in-Err.fault c.print_fault.result c.args.can_print c.if-can_print.true c.print_fault.ensures.printed))
