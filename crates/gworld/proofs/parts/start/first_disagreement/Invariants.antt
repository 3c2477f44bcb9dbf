use Rattle.std.proofs.Common.{take, All}
use Rattle.gdag.specs.Laws.{AgreesWith}
use Rattle.gworld.proofs.parts.start.first_disagreement.Given as goal

abbrev pub invariant-loop-place : goal.invariant-loop-place
invariant-loop-place g l = All (AgreesWith l.client.entries) (take l.place l.server.entries)
