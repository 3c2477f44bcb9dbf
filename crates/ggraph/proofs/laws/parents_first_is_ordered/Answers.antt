use Rattle.std.proofs.Common.{suc, take, drop}
use Rattle.ggraph.proofs.ConnectedRefsLemmas.{split_there}
use Rattle.ggraph.proofs.laws.parents_first_is_ordered.Goals as goal

pub returns : goal.returns
returns g c = λ graph refs head loadable place entry at.
    (loadable.nodes (take place graph.entries) entry (drop (suc place) graph.entries) (split_there graph.entries place entry at)).after
