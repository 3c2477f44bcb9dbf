use Rattle.std.proofs.Common.{◌≡◌, ◌<◌, ◌≤◌, ℕ, List, length, refl, subst, sym, arith, ◌∙◌}
use Rattle.std.proofs.lemmas.Bool.{false≢true}
use Rattle.std.proofs.lemmas.List.{length-map, take_all}
use Rattle.std.specs.Map.{values_of}
use Rattle.gdag.specs.Graphs.{Holds}
use Rattle.gdag.specs.Reach.{IsConnected}
use Rattle.grefs.specs.RefLists.{RefList}
use Rattle.gclientrepo.proofs.RepoLemmas.{connected_ref, lost_ref}
use Rattle.gclientrepo.proofs.opening.first_absent.Goals as goal

pub returns-then-not-contains : goal.returns-then-not-contains
returns-then-not-contains g c =
    let entries = c.args.graph.now.entries in
    let refs = c.args.refs.now in
    let place = c.loop-place.place in
    let ref = c.index-pairs-place.result in
    let inside : place < length refs =
    subst (λ (l : RefList). place < length l) c.as_slice-pairs.ensures.refs c.loop-place-test.true in
    lost_ref entries refs place ref inside (rw (← c.as_slice-pairs.ensures.refs) (sym c.index-pairs-place.is)) c.loop-place.invariant
    (λ held. false≢true (sym c.if-not-contains.true
    ∙ c.contains.ensures.1 (subst (λ (r : List ℕ × List ℕ). Holds entries r.1) c.index-pairs-place.is held)))

pub loop-place-preserved : goal.loop-place-preserved
loop-place-preserved g c =
    let entries = c.args.graph.now.entries in
    let refs = c.args.refs.now in
    let place = c.loop-place.place in
    let ref = c.index-pairs-place.result in
    let inside : place < length refs =
    subst (λ (l : RefList). place < length l) c.as_slice-pairs.ensures.refs c.loop-place-test.true in
    let held : Holds entries ref.1 =
    subst (λ (r : List ℕ × List ℕ). Holds entries r.1) (sym c.index-pairs-place.is) (c.contains.ensures.0 c.if-not-contains.false) in
    connected_ref entries refs place ref inside (rw (← c.as_slice-pairs.ensures.refs) (sym c.index-pairs-place.is)) c.loop-place.invariant
    ((c.closed_is_connected.ensures entries).0 (c.ordered_is_closed.ensures entries c.laws.ensures.differ c.requires) ref.1 held)

pub returns : goal.returns
returns g c =
    let refs = c.args.refs.now in
    let ids = values_of refs in
    let same : length c.as_slice-pairs.result.now ≡ length refs = rw c.as_slice-pairs.ensures.refs refl in
    let long = length-map refs (λ (r : List ℕ × List ℕ). r.1) in
    let past : length ids ≤ c.loop-place.place = omega (arith, c.loop-place-test.false, same, long) in
    rw (take_all c.loop-place.place ids past) at c.loop-place.invariant
