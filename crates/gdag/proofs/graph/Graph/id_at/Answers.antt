use Rattle.std.proofs.Common.{refl}
use Rattle.std.proofs.lemmas.Option.{MatchOption-at_some}
use Rattle.gdag.proofs.graph.Graph.id_at.Goals as goal

pub returns : goal.returns
returns g c = rw (MatchOption-at_some _ _ c.unwrap.result c.unwrap.ensures c.at.ensures.at) refl
