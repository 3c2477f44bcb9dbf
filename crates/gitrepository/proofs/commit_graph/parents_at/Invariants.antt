use Rattle.std.proofs.Common.{◌≡◌, Some, map, take}
use Rattle.gitcommitgraph.specs.Chains.{graph_commits}
use Rattle.gitrepository.specs.Entries.{id_at}
use Rattle.gitrepository.proofs.commit_graph.parents_at.Given as goal

abbrev pub invariant-loop-position : goal.invariant-loop-position
invariant-loop-position g l =
    map (id_at (graph_commits l.commits)) (take l.position-index l.positions) ≡ map Some l.parents
