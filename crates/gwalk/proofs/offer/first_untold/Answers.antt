use Rattle.std.proofs.Common.{◌≡◌, ◌≤◌, ◌++◌, ◌∷◌, [], length, sym, ap, ◌∙◌, subst, length-append, arith}
use Rattle.gdag.specs.Levels.{new_ids}
use Rattle.gwalk.proofs.Offering.{all_levels, id_taken, none_told, offers_all, offers_enough, offers_next, skips_next, told_after, untold_is}
use Rattle.gwalk.proofs.Walking.{goes, lent_parents, next}
use Rattle.gwalk.proofs.offer.first_untold.Goals as goal
use Rattle.gwalk.proofs.offer.first_untold.Goals.{then-is_untold+in_ok-push, else-is_untold}

pub loop-at-init : goal.loop-at-init
loop-at-init g c = (
  rw c.new-list.ensures.items (omega arith),
  λ tips front0 back0 begun.
      (front0, back0, begun, λ commons reached others levels are marks none. c.new-list.ensures.items ∙ none),
)

pub returns-then-len-n : goal.returns-then-len-n
returns-then-len-n g c =
    λ tips front0 back0 commons others begun are marks told.
    let h = c.args.graph.now.entries in
    let law = c.levels_are_distances.ensures in
    let all = all_levels law h commons in
    let now = c.loop-at.invariant.1 tips front0 back0 begun in
    let is = now.3 commons all.0 others all.1 are marks (none_told h commons all.0 others all.1 front0 told) in
    record {
      offer = offers_enough h tips all.0 others commons all.1 c.args.n now.0 now.1 c.loop-at.list.items
          c.loop-at.tour.walk.marks.items c.loop-at.tour.walk.met.items c.loop-at.tour.walk.missing
          c.loop-at.tour.walk.parent_count c.loop-at.at now.2 is law (omega arith);
      front = now.0;
      back = now.1;
      underway = now.2;
      told = told_after h commons all.0 others all.1 now.0 c.loop-at.list.items is;
    }

pub id_at-requires : goal.id_at-requires
id_at-requires g c =
    let w = c.loop-at.invariant.1 c.requires.0 c.requires.1 c.requires.2 c.requires.3 in
    let inside = w.2.has_met.inside c.loop-at.at c.index-position.result.now (omega arith) in
    omega (arith, inside, c.index-position.ensures)

pub parents-requires : goal.parents-requires
parents-requires g c =
    let w = c.loop-at.invariant.1 c.requires.0 c.requires.1 c.requires.2 c.requires.3 in
    let inside = w.2.has_met.inside c.loop-at.at c.index-position.result.now (omega arith) in
    omega (arith, inside, c.index-position.ensures)

pub meet_all-requires-clause-has : goal.meet_all-requires-clause-has
meet_all-requires-clause-has g c =
    let w = c.loop-at.invariant.1 c.requires.0 c.requires.1 c.requires.2 c.requires.3 in
    (w.0 ++ w.1, w.2.has_met)

pub loop-at-smaller : goal.loop-at-smaller
loop-at-smaller g c =
    let w = c.loop-at.invariant.1 c.requires.0 c.requires.1 c.requires.2 c.requires.3 in
    omega (arith, w.2.has_met.few)

pub loop-at-preserved : goal.loop-at-preserved
loop-at-preserved g c =
    let h = c.args.graph.now.entries in
    let list = c.loop-at.list.items in
    let position = c.index-position.result.now in
    let small : length c.if-is_untold.list.items ≤ c.args.n =
    elim c.if-is_untold.branch [
      | then-is_untold+in_ok-push w ↦
          let grown : c.if-is_untold.list.items ≡ list ++ w.id_at.result.now ∷ [] = cc (w.in_ok-push.ensures.items) in
          let long = length-append list (w.id_at.result.now ∷ []) in
          let few = c.loop-at.invariant.0 in
          subst (λ l. length l ≤ c.args.n) (sym grown) (omega arith)
      | else-is_untold w ↦
          let kept : c.if-is_untold.list.items ≡ list = cc in
          subst (λ l. length l ≤ c.args.n) (sym kept) c.loop-at.invariant.0
    ] in (
      small,
      λ tips front0 back0 begun.
          let now = c.loop-at.invariant.1 tips front0 back0 begun in
          let n = next h tips now.0 now.1 c.loop-at.tour.walk.marks.items c.loop-at.tour.walk.met.items
          c.loop-at.tour.walk.missing c.loop-at.tour.walk.parent_count c.loop-at.at now.2 position (omega arith)
          c.index-position.ensures in
          let lent = lent_parents h n.id position c.parents.result.now n.position c.parents.ensures in
          let under = goes h tips now.0 now.1 c.loop-at.tour.walk.marks.items c.loop-at.tour.walk.met.items
          c.loop-at.tour.walk.missing c.loop-at.tour.walk.parent_count c.loop-at.at now.2 position n c.parents.result.now lent
          _ _ _ _ (c.in_ok-meet_all.ensures (now.0 ++ now.1) (now.2).has_met) in
          let front = now.0 ++ (n.mid ++ n.id ∷ []) in
          let back = n.rest ++ new_ids (now.0 ++ now.1) c.parents.result.now in (
            front,
            back,
            under,
            elim c.if-is_untold.branch [
              | then-is_untold+in_ok-push w ↦
                  let id = id_taken h n.id w.id_at.result.now position n.position w.id_at.ensures in
                  let grown : c.if-is_untold.list.items ≡ list ++ w.id_at.result.now ∷ [] =
                  cc (w.in_ok-push.ensures.items) in
                  λ commons reached others levels are marks none.
                  grown ∙ ap (λ x. list ++ x ∷ []) id
                  ∙ offers_next h tips reached others now.0 now.1 list position n
                  (now.3 commons reached others levels are marks none)
                  (untold_is h commons reached others levels c.args.known.now c.args.sent.now are marks n.id position
                  n.position ∙ sym c.is_untold.ensures ∙ w.if-is_untold.true)
              | else-is_untold w ↦
                  let kept : c.if-is_untold.list.items ≡ list = cc in
                  λ commons reached others levels are marks none.
                  kept ∙ skips_next h tips reached others now.0 now.1 list position n
                  (now.3 commons reached others levels are marks none)
                  (untold_is h commons reached others levels c.args.known.now c.args.sent.now are marks n.id position
                  n.position ∙ sym c.is_untold.ensures ∙ w.if-is_untold.false)
            ],
          ),
    )

pub returns : goal.returns
returns g c =
    λ tips front0 back0 commons others begun are marks told.
    let h = c.args.graph.now.entries in
    let law = c.levels_are_distances.ensures in
    let all = all_levels law h commons in
    let now = c.loop-at.invariant.1 tips front0 back0 begun in
    let is = now.3 commons all.0 others all.1 are marks (none_told h commons all.0 others all.1 front0 told) in
    record {
      offer = offers_all h tips all.0 others commons all.1 c.args.n now.0 now.1 c.loop-at.list.items
          c.loop-at.tour.walk.marks.items c.loop-at.tour.walk.met.items c.loop-at.tour.walk.missing
          c.loop-at.tour.walk.parent_count c.loop-at.at now.2 is (omega arith) c.loop-at.invariant.0;
      front = now.0;
      back = now.1;
      underway = now.2;
      told = told_after h commons all.0 others all.1 now.0 c.loop-at.list.items is;
    }
