use Rattle.gcmd.proofs.fetch.cmd_fetch.Goals as goal

pub returns-clause-runs : goal.returns-clause-runs
returns-clause-runs g c = (c.fetch_into-outcome.result.0, c.fetch_into-outcome.ensures.0.0, c.finish-status.ensures.exits)
