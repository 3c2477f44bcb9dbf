use Rattle.std.proofs.Common.{◌≡◌, ◌++◌, drop}
use Rattle.gitcommitgraph.specs.Files.{edge_list}
use Rattle.gitcommitgraph.proofs.tables.follow.Given as goal

abbrev pub invariant-loop-edge : goal.invariant-loop-edge
invariant-loop-edge g l = l.list.items ++ edge_list (drop l.edge-index l.edges) ≡ l.initial.list.items ++ edge_list l.edges
