use Rattle.gtcp.proofs.remote.cmd_fetch_remote.Goals as goal

pub returns-clause-runs : goal.returns-clause-runs
returns-clause-runs g c = (c.fetch_remote.result, c.fetch_remote.ensures.0, c.finish.ensures.exits)
