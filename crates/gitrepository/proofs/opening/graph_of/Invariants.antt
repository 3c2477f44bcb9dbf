use Rattle.std.proofs.Common.{◌≡◌}
use Rattle.gitcommitgraph.specs.Chains.{graph_commits}
use Rattle.gitrepository.proofs.opening.graph_of.Given as goal

abbrev pub invariant-loop-pair : goal.invariant-loop-pair
invariant-loop-pair g l = l.history.commits ≡ graph_commits l.fn.commits
