use Rattle.std.proofs.Common.{refl}
use Rattle.gcmd.proofs.ProgramLemmas.{Prints-sent}
use Rattle.gsimulate.proofs.print.print_program.Goals as goal

pub returns-clause-printed : goal.returns-clause-printed
returns-clause-printed g c = Prints-sent _ _ _ _ refl c.print_fault.ensures.printed
