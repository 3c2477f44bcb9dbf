use Rattle.std.proofs.Common.{ap, subst}
use Rattle.gcmd.specs.Outputs.{IsSent}
use Rattle.gcmd.specs.Printing.{fault_line, printed_line}
use Rattle.gpkt.specs.Streams.{given}
use Rattle.gcmd.proofs.program.print_fault.Goals as goal

pub returns-clause-printed : goal.returns-clause-printed
unfolding fault_line
returns-clause-printed g c =
    subst (IsSent (given g.E.Sink c.args.errors.now c.print.new.errors) c.print.result) (ap printed_line c.of.ensures.row) c.print.ensures.0
