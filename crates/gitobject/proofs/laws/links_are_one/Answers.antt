use Rattle.gitobject.proofs.Readings.{links_once}
use Rattle.gitobject.proofs.laws.links_are_one.Goals as goal

pub returns : goal.returns
returns c = links_once
