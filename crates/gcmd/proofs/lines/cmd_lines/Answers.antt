use Rattle.gcmd.proofs.lines.cmd_lines.Goals as goal

pub returns-clause-runs : goal.returns-clause-runs
returns-clause-runs g c = (c.show_lines.result, c.show_lines.ensures.0, c.finish.ensures.exits)
