use Rattle.std.proofs.Common.{◌<◌, ◌≤◌, Contains, length, subst, refl, sym, arith}
use Rattle.std.proofs.lemmas.List.{take_all}
use Rattle.std.proofs.lemmas.List.Elements.{All-get_or, All-more, Contains-get_or}
use Rattle.gitrepository.specs.steps.Arriving.{IsInIndex, IsReadEntry, IsReadObject}
use Rattle.gitrepository.proofs.LinkLemmas.{in_index, same_read}
use Rattle.gitrepository.proofs.linking.were_read.Goals as goal

pub loop-place-preserved : goal.loop-place-preserved
loop-place-preserved c =
    let pack = c.args.pack.now in let objects = c.args.objects.now in let k = c.loop-place.place in
    let object = c.index-objects-place.result in let entry = c.index-pack-place.result in
    let same = c.if-not-is_same.ensures refl in
    let inside : k < length pack = omega (arith, c.loop-place-test.true) in
    let within : k < length objects = omega (arith, inside, c.if-objects-pack.false) in (
      λ needs all. All-more (IsReadEntry needs) pack k entry inside (c.loop-place.invariant.0 needs all)
          (subst (IsReadEntry needs) c.index-pack-place.is
          (same_read needs object entry same.0 same.1
          (subst (IsReadObject needs) (sym c.index-objects-place.is) (All-get_or (IsReadObject needs) objects k object within all)))),
      All-more (IsInIndex pack) objects k object within c.loop-place.invariant.1
          (subst (IsInIndex pack) c.index-objects-place.is
          (in_index pack object entry
          (subst (Contains pack) (sym c.index-pack-place.is) (Contains-get_or pack k entry inside)) same.0 same.1)),
    )

pub returns-clause-read : goal.returns-clause-read
returns-clause-read c is needs all =
    let pack = c.args.pack.now in
    let past : length pack ≤ c.loop-place.place = omega (arith, c.loop-place-test.false) in
    rw (take_all c.loop-place.place pack past) at c.loop-place.invariant.0 needs all

pub returns-clause-indexed : goal.returns-clause-indexed
returns-clause-indexed c is =
    let objects = c.args.objects.now in
    let past : length objects ≤ c.loop-place.place = omega (arith, c.loop-place-test.false, c.if-objects-pack.false) in
    rw (take_all c.loop-place.place objects past) at c.loop-place.invariant.1
