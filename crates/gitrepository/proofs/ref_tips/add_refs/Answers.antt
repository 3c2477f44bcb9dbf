use Rattle.std.proofs.Common.{◌≤◌, List, ℕ, length, take, subst, arith}
use Rattle.std.proofs.lemmas.List.{take_all}
use Rattle.std.proofs.lemmas.List.Elements.{All-more}
use Rattle.gdag.specs.Graphs.{Holds}
use Rattle.gitrepository.proofs.RefLemmas.{refs_still_held}
use Rattle.gitrepository.proofs.ref_tips.add_refs.Goals as goal

pub loop-place-preserved : goal.loop-place-preserved
loop-place-preserved g c =
    let refs : List (List ℕ × List ℕ) = c.args.refs.now in let place = c.loop-place.place in
    let old = c.loop-place.graph.entries in let new = c.add_ref.new.graph.entries in
    let P : List ℕ × List ℕ → Type 0 = λ ref. Holds new ref.1 in
    All-more P refs place c.index-refs-place.result c.loop-place-test.true
    (refs_still_held old new c.add_ref.ensures.keeps (take place refs) c.loop-place.invariant)
    (subst P c.index-refs-place.is (c.in_ok-add_ref.ensures.held c.if-not-branch.false))

pub returns : goal.returns
returns g c =
    let past : length c.args.refs.now ≤ c.loop-place.place = omega (arith, c.loop-place-test.false) in
    λ is_added. rw (take_all c.loop-place.place c.args.refs.now past) at c.loop-place.invariant
