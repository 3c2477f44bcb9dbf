use Rattle.std.proofs.Common.{◌≡◌, ℕ, ◌<◌, false}
use Rattle.gname.specs.Names.{begins_bad_component}
use Rattle.gname.proofs.rules.check_components.Given as goal

abbrev pub invariant-loop-at : goal.invariant-loop-at
invariant-loop-at l = (k : ℕ) → k < l.at → begins_bad_component l.text k ≡ false
