use Rattle.std.proofs.Common.{◌≤◌, length, take, subst, arith}
use Rattle.std.proofs.lemmas.List.{take_all}
use Rattle.std.proofs.lemmas.List.Elements.{All-more}
use Rattle.gcomplete.specs.Judging.{IsKept}
use Rattle.gname.specs.Ids.{Id}
use Rattle.gname.specs.Names.{Name}
use Rattle.gitrepository.proofs.CheckLemmas.{refs_still}
use Rattle.gitrepository.proofs.checking.read_refs.Goals as goal

pub loop-pair-preserved : goal.loop-pair-preserved
loop-pair-preserved g c =
    let refs = c.args.refs.now in let k = c.loop-pair.pair-index in
    let old = c.loop-pair.batch.types in let new = c.read_reachable.new.batch.types in
    let P : Name × Id → Type 0 = λ ref. IsKept new ref.1 in
    All-more P refs k c.pair-item.result c.loop-pair-test.true
    (refs_still old new c.in_default.ensures.keeps (take k refs) c.loop-pair.invariant)
    (subst P c.pair-item.is c.in_default.ensures.kept)

pub returns : goal.returns
returns g c =
    let past : length c.args.refs.now ≤ c.loop-pair.pair-index = omega (arith, c.loop-pair-test.false) in
    rw (take_all c.loop-pair.pair-index c.args.refs.now past) at c.loop-pair.invariant
