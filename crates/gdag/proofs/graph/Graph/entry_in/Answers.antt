use Rattle.std.proofs.lemmas.Option.{MatchOption-at_some}
use Rattle.gdag.proofs.graph.Graph.entry_in.Goals as goal

pub returns : goal.returns
returns g c = rw c.in_ok-node.ensures (MatchOption-at_some _ _ c.unwrap.result c.unwrap.ensures c.at.ensures.at)
