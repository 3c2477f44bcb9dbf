use Rattle.std.proofs.Common.{◌≡◌, ◌+◌, take, length}
use Rattle.gitcommitgraph.specs.Chains.{graph_commits}
use Rattle.gitcommitgraph.proofs.graph.find_layer.Given as goal

abbrev pub invariant-loop-layer : goal.invariant-loop-layer
invariant-loop-layer g l = l.position ≡ length (graph_commits (take l.layer-index l.layers)) + l.place
