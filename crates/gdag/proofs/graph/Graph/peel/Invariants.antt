use Rattle.std.proofs.Common.{ℕ, ◌≤◌}
use Rattle.gdag.specs.Peeling.{Tags}
use Rattle.gdag.proofs.graph.Graph.peel.Given as goal

-- `at` is the current id of the chain, and `kept` is an earlier id or the same id
abbrev pub invariant-loop-steps : goal.invariant-loop-steps
invariant-loop-steps g l = Tags l.self.entries l.steps l.id l.at × ((j : ℕ) × (j ≤ l.steps) × Tags l.self.entries j l.id l.kept)
