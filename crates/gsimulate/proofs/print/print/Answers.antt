use Rattle.gsimulate.proofs.LineLemmas.{prints_fault}
use Rattle.gsimulate.proofs.print.print.Goals as goal

pub returns-in-Program-clause-printed : goal.returns-in-Program-clause-printed
returns-in-Program-clause-printed g c = prints_fault _ c.args.fault.now _ c.in-Program.is c.print_program.ensures.printed

pub returns-in-Scenario-clause-printed : goal.returns-in-Scenario-clause-printed
returns-in-Scenario-clause-printed g c = prints_fault _ c.args.fault.now _ c.in-Scenario.is c.print_scenario.ensures.printed

pub returns-in-World-clause-printed : goal.returns-in-World-clause-printed
returns-in-World-clause-printed g c = prints_fault _ c.args.fault.now _ c.in-World.is c.print_world.ensures.printed

pub returns-in-Memory-clause-printed : goal.returns-in-Memory-clause-printed
returns-in-Memory-clause-printed g c = prints_fault _ c.args.fault.now _ c.in-Memory.is c.print_line.ensures.printed
