use Rattle.gsimulate.proofs.LineLemmas.{prints_no_memory, prints_scenario}
use Rattle.gsimulate.proofs.print.print_scenario.Goals as goal

pub returns-in-Scenario-clause-printed : goal.returns-in-Scenario-clause-printed
returns-in-Scenario-clause-printed g c =
    prints_scenario _ c.args.fault.now c.in-Scenario.line c.in-Scenario.is c.print_wrong_line.ensures.printed

pub returns-in-Memory-clause-printed : goal.returns-in-Memory-clause-printed
returns-in-Memory-clause-printed g c = prints_no_memory _ c.args.fault.now c.in-Memory.is c.print_line.ensures.printed
