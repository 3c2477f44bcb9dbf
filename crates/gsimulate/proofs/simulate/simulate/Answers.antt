use Rattle.std.proofs.Common.{List, refl, sym, subst}
use Rattle.gscenario.specs.declared.event.Event.{Event}
use Rattle.gsimulate.specs.steps.Simulating.{BeginsWith}
use Rattle.gsimulate.proofs.SimulationLemmas.{not_begun}
use Rattle.gsimulate.proofs.simulate.simulate.Goals as goal

pub returns-in-Ok-clause-simulates : goal.returns-in-Ok-clause-simulates
returns-in-Ok-clause-simulates g c =
    c.happen.ensures.simulates c.args.files.now
    (subst (λ (events : List (Event g.row.A.Denot)). BeginsWith c.args.files.now c.in-Ok.world events)
    (sym c.as_slice.ensures.value) c.in-Ok.ensures)

pub returns-in-Err-clause-simulates : goal.returns-in-Err-clause-simulates
returns-in-Err-clause-simulates g c =
    not_begun c.args.files.now _ c.in-Err.fault c.in-Err.fault c.in-Err.ensures refl (record { written = refl; passed_on = refl; down = refl })
