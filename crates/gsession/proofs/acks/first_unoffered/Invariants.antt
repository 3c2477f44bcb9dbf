use Rattle.std.proofs.Common.{take, All, Contains}
use Rattle.gsession.proofs.acks.first_unoffered.Given as goal

abbrev pub invariant-loop-id : goal.invariant-loop-id
invariant-loop-id g l = All (Contains l.haves) (take l.id-index l.acks)
