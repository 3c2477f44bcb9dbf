use Rattle.std.proofs.Common.{◌≡◌, ◌++◌}
use Rattle.gclientrepo.proofs.ref_map.RefMap.into_refs.Given as goal

abbrev pub invariant-loop-name : goal.invariant-loop-name
invariant-loop-name g l = l.refs ++ l.name-iterator ≡ l.initial.name-iterator
