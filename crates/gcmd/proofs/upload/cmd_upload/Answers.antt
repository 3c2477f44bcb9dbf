use Rattle.gcmd.proofs.upload.cmd_upload.Goals as goal

pub returns-clause-runs : goal.returns-clause-runs
returns-clause-runs g c = (c.answer_all.result, c.answer_all.ensures.0, c.finish.ensures.exits)
