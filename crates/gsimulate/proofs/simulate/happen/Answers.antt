use Rattle.std.proofs.Common.{refl, ap, ◌∙◌}
use Rattle.gpkt.specs.Sending.{output_of}
use Rattle.gclientrepo.specs.Repos.{RepoState}
use Rattle.gworld.specs.Runs.{outcomes_before}
use Rattle.gsimulate.proofs.SimulationLemmas.{is_simulated, is_stopped, shows_same}
use Rattle.gsimulate.proofs.simulate.happen.Goals as goal

pub returns-clause-simulates : goal.returns-clause-simulates
returns-clause-simulates g c = λ files begins.
    is_stopped files
    (output_of g.W.Sink.contents g.W.Sink.passed_on g.W.Sink.is_down c.args.output.now c.args.output.now)
    c.args.running.now c.args.events.now begins
    (record {
      outcomes = outcomes_before c.in-Err.field-0;
      new = c.run.new.self.world;
      front = c.in-Err.ensures.runs;
    })
    (record { written = refl; passed_on = refl; down = refl })

pub returns-in-Ok-clause-simulates : goal.returns-in-Ok-clause-simulates
returns-in-Ok-clause-simulates g c = λ files begins.
    let output = output_of g.W.Sink.contents g.W.Sink.passed_on g.W.Sink.is_down c.args.output.now c.show.new.output in
    is_simulated files output c.args.running.now c.args.events.now begins c.in-Ok.outcomes.items c.run.new.self.world
    c.show.result c.in-Ok.ensures.runs
    (shows_same c.in-Ok.outcomes.items c.as_slice.result.now c.run.new.self.world.repo.refs c.refs.result.now output
    c.show.result c.as_slice.ensures.value
    (c.refs.ensures ∙ ap (λ (repo : RepoState g.row.A.Denot). repo.refs) c.client.ensures) c.show.ensures.shows)
