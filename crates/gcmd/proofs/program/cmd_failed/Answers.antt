use Rattle.std.proofs.Common.{refl}
use Rattle.gcmd.proofs.ProgramLemmas.{Prints-sent}
use Rattle.gcmd.proofs.program.cmd_failed.Goals as goal

pub returns-clause-exits : goal.returns-clause-exits
returns-clause-exits g c = (Prints-sent _ _ _ _ refl c.print_fault.ensures.printed, refl)
