use Rattle.std.proofs.Common.{◌≡◌, take, map}
use Rattle.gitcommitgraph.specs.Chains.{checksum_of}
use Rattle.gitcommitgraph.proofs.layer.Layer.is_above.Given as goal

abbrev pub invariant-loop-place : goal.invariant-loop-place
invariant-loop-place g l = take l.place l.bases ≡ map checksum_of (take l.place l.layers)
