use Rattle.gtcp.proofs.remote.cmd_serve.Goals as goal

pub returns-clause-runs : goal.returns-clause-runs
returns-clause-runs g c = record {
  middle = c.serve_all-outcome.new.errors;
  outcome = c.serve_all-outcome.result;
  serves = c.serve_all-outcome.ensures.0.0;
  exits = c.finish.ensures.exits;
}
