use Rattle.gitobject.proofs.Readings.{commit_fault}
use Rattle.gitobject.proofs.links.commit_links.Goals as goal

pub returns-in_default : goal.returns-in_default
returns-in_default g c has = c.in_default.ensures.line has.0 has.2.rest has.2.names

pub returns-in-Err : goal.returns-in-Err
returns-in-Err g c = commit_fault c.args.body.now c.in-Some.line.0 c.in-Some.line.1.now c.in-Some.ensures.line c.in-Err.fault c.in-Err.ensures
