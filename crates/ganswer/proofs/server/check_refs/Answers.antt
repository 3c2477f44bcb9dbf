use Rattle.std.proofs.Common.{ℕ, List, ◌≤◌, length, refl, subst, arith}
use Rattle.std.proofs.lemmas.List.{take_all}
use Rattle.std.proofs.lemmas.List.Elements.{All-more}
use Rattle.std.proofs.lemmas.Option.{slice_get_read}
use Rattle.gdag.specs.Graphs.{Holds}
use Rattle.ganswer.proofs.PeelLemmas.{knows_next}
use Rattle.ganswer.proofs.ServerLemmas.{dangles_at, holds_refs}
use Rattle.ganswer.proofs.server.check_refs.Goals as goal

pub returns-in-None-clause-held : goal.returns-in-None-clause-held
returns-in-None-clause-held g c =
    let ref : List ℕ × List ℕ = c.index-refs-place.result in
    dangles_at c.args.graph.now.entries c.args.refs.now c.loop-place.place ref c.loop-place-test.true c.index-refs-place.is c.loop-place.invariant.0 c.in-None.ensures

pub loop-place-preserved : goal.loop-place-preserved
loop-place-preserved g c =
    let entries = c.args.graph.now.entries in
    let refs : List (List ℕ × List ℕ) = c.args.refs.now in
    let place = c.loop-place.place in
    let ref : List ℕ × List ℕ = c.index-refs-place.result in
    let P : List ℕ × List ℕ → Type 0 = λ ref. Holds entries ref.1 in (
      All-more P refs place ref c.loop-place-test.true c.loop-place.invariant.0 (subst P c.index-refs-place.is c.in-Some.ensures.0),
      knows_next entries refs c.loop-place.peels.items c.keep_peeled.new.peels.items place ref c.in-Some.peeled c.loop-place.invariant.1
          (slice_get_read refs (length refs) place ref refl c.loop-place-test.true c.index-refs-place.is) c.in-Some.ensures.1 c.keep_peeled.ensures,
    )

pub returns-clause-held : goal.returns-clause-held
returns-clause-held g c =
    let past : length c.args.refs.now ≤ c.loop-place.place = omega (arith, c.loop-place-test.false) in
    holds_refs c.args.graph.now.entries c.args.refs.now (rw (take_all c.loop-place.place c.args.refs.now past) at c.loop-place.invariant.0)
