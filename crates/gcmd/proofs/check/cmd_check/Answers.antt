use Rattle.gcmd.proofs.check.cmd_check.Goals as goal

pub returns-clause-runs : goal.returns-clause-runs
returns-clause-runs g c = (c.check.result, c.check.ensures.0, c.finish.ensures.exits)
