use Rattle.std.proofs.Common.{take}
use Rattle.gdag.specs.Reach.{IsConnected}
use Rattle.gdag.specs.Selecting.{Selects}
use Rattle.gsession.proofs.asks.wants_of.Given as goal

abbrev pub invariant-loop-id : goal.invariant-loop-id
invariant-loop-id g l = Selects (λ a. ¬ (IsConnected l.repo.graph.entries a)) (take l.id-index l.id-items) l.wants.items
