use Rattle.gtcp.proofs.remote.cmd_ls_remote.Goals as goal

pub returns-clause-runs : goal.returns-clause-runs
returns-clause-runs g c = (c.list_remote.result, c.list_remote.ensures.0, c.finish.ensures.exits)
