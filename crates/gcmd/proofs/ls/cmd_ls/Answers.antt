use Rattle.gcmd.proofs.ls.cmd_ls.Goals as goal

pub returns-clause-runs : goal.returns-clause-runs
returns-clause-runs g c = (c.answer_one.result, c.answer_one.ensures.0, c.finish.ensures.exits)
