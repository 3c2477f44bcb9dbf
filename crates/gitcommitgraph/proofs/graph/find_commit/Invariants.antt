use Rattle.std.proofs.Common.{◌≡◌, ◌≢◌, All, take, length}
use Rattle.gitcommitgraph.specs.Chains.{graph_commits}
use Rattle.gitcommitgraph.proofs.graph.find_commit.Given as goal

abbrev pub invariant-loop-layer : goal.invariant-loop-layer
invariant-loop-layer g l =
    (l.start ≡ length (graph_commits (take l.layer-index l.layers)))
    × All (λ commit. commit.id ≢ l.id) (graph_commits (take l.layer-index l.layers))
