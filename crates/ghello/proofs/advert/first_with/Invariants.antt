use Rattle.std.proofs.Common.{◌≡◌, drop}
use Rattle.ghello.specs.Offers.{first_with}
use Rattle.ghello.proofs.advert.first_with.Given as goal

abbrev pub invariant-loop-capability : goal.invariant-loop-capability
invariant-loop-capability g l = first_with l.key l.capabilities ≡ first_with l.key (drop l.capability-index l.capabilities)
