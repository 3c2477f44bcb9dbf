use Rattle.std.proofs.Common.{arith, ◌++◌, subst, take}
use Rattle.gitrepository.specs.Parts.{IsGoing}
use Rattle.gitrepository.proofs.PartLemmas.{given_step, long_enough}
use Rattle.gitrepository.proofs.parts.StoreParts.fill.Goals as goal

pub loop-preserved : goal.loop-preserved
loop-preserved g c =
    let filled = c.loop.filled in
    let count = c.in_ok-filled.field-0 in
    let gave = c.in_ok-filled.ensures in
    let before_it = c.loop.invariant in (
      long_enough filled count c.loop.out c.give_some.new.out _ before_it.0 gave.fits,
      omega (arith, gave.left, before_it.1),
      λ total before is. subst (IsGoing total c.give_some.new.self.outgoing)
          (given_step filled count c.loop.out c.give_some.new.out _ before before_it.0 gave.fits)
          (gave.given total (before ++ take filled c.loop.out) (before_it.2 total before is)),
    )
