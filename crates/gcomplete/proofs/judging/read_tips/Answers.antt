use Rattle.std.proofs.Common.{◌≤◌, length, take, subst, arith}
use Rattle.std.proofs.lemmas.List.{take_all}
use Rattle.std.proofs.lemmas.List.Elements.{All-more}
use Rattle.gcomplete.specs.Judging.{IsKept}
use Rattle.gcomplete.proofs.Kept.{all_kept_still}
use Rattle.gcomplete.proofs.judging.read_tips.Goals as goal

pub loop-id-preserved : goal.loop-id-preserved
loop-id-preserved g c =
    let tips = c.args.tips.now in let k = c.loop-id.id-index in
    let old = c.loop-id.batch.types in let new = c.read_reachable.new.batch.types in
    let P = IsKept new in
    All-more P tips k c.id-item.result c.loop-id-test.true
    (all_kept_still old new c.in_ok-read_reachable.ensures.keeps (take k tips) c.loop-id.invariant)
    (subst P c.id-item.is c.in_ok-read_reachable.ensures.kept)

pub returns : goal.returns
returns g c =
    let past : length c.args.tips.now ≤ c.loop-id.id-index = omega (arith, c.loop-id-test.false) in
    rw (take_all c.loop-id.id-index c.args.tips.now past) at c.loop-id.invariant
