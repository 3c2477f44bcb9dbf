use Rattle.std.proofs.Common.{◌≡◌, take}
use Rattle.gsession.proofs.session.copy_specs.Given as goal

abbrev pub invariant-loop-spec : goal.invariant-loop-spec
invariant-loop-spec g l = l.copies.items ≡ take l.spec-index l.specs
