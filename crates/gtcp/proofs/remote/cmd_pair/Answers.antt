use Rattle.gtcp.proofs.remote.cmd_pair.Goals as goal

pub returns-clause-runs : goal.returns-clause-runs
returns-clause-runs g c = (c.meet.result, c.meet.ensures.0, c.finish.ensures.exits)
