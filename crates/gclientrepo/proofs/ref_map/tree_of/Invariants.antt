use Rattle.std.proofs.Common.{◌≡◌, take}
use Rattle.gclientrepo.proofs.ref_map.tree_of.Given as goal

abbrev pub invariant-loop-pair : goal.invariant-loop-pair
invariant-loop-pair g l = l.copies.entries ≡ take l.pair-index l.refs
