-- The ids that additional common ids reach.
use Rattle.std.proofs.Common.{◌≡◌, ◌⊎◌, ◌||◌, inl, inr, ℕ, Bool, true, false, List, [], ◌++◌, get_or, Contains, All, Option, None, Some, sym, ◌∙◌, subst}
use Rattle.std.proofs.lemmas.Bool.{false≢true, or_cases, or_left, or_right}
use Rattle.std.proofs.lemmas.List.Elements.{All-weaker, Contains-append_cases, Contains-append_left, Contains-append_right}
use Rattle.std.proofs.lemmas.Option.{none-some}
use Rattle.gobject.specs.declared.node.Entry.{Entry}
use Rattle.gobject.specs.Objects.{position_of}
use Rattle.gdag.specs.Offer.{MayBeOffered}
use Rattle.gdag.specs.Reach.{Reaches, SomeReaches, here, onward}
use Rattle.gdag.proofs.IdLists.{either_way, nothing_in_nil}
use Rattle.gdag.proofs.Reaching.{node_at_none, reaches_on}
use Rattle.gwalk.specs.Marks.{ReachesPast, StopsAtMarks, further, stop_at, there}
use Rattle.gwalk.specs.Offers.{AreReached}
use Rattle.gwalk.specs.Walks.{IsWalk}
use Rattle.gwalk.proofs.LevelWalk.{met_reached, reached_met}
use Rattle.gwalk.proofs.Marking.{none_in}
use Rattle.gwalk.proofs.Stopping.{stop_position}
use Rattle.gwalk.proofs.Walking.{position_cases}

-- without common ids, no id is marked
pub none_reached : {A : Type 0} (g : List (Entry A)) → AreReached g [] []
none_reached g a p e = (λ t. absurd (false≢true (sym (none_in p) ∙ t)), λ s. nothing_in_nil s.0 s.1)

module _ {A : Type 0} (g : List (Entry A)) where
  past_reaches : (marks : List Bool) (a b : List ℕ) → ReachesPast g marks a b → Reaches g a b
  past_reaches marks a b there = here
  past_reaches marks a c (further {b = b} unmarked parent past) = onward parent (past_reaches marks b c past)

  module _ (commons : List (List ℕ)) (known : List Bool) (are : AreReached g commons known) where
    -- an id that `a` reaches is reached by a path that does not continue past marked ids, or from a common id
    reaches_or : (a b : List ℕ) → Reaches g a b → ReachesPast g known a b ⊎ SomeReaches g commons b
    reaches_or a b here = inl there
    reaches_or a c (onward {b = b} parent path) =
        elim (position_cases g a) [
          | inl e ↦ absurd (none-some parent.0 (sym (node_at_none g a e) ∙ parent.1))
          | inr w ↦ either_way (get_or known w.0 false)
              (λ t. let s = (are a w.0 w.1).0 t in inr (s.0, s.1, reaches_on g s.0 a c s.2 (onward parent path)))
              (λ f. elim (reaches_or b c path) [
                | inl past ↦ inl (further (w.0, w.1, f) parent past)
                | inr some ↦ inr some
              ])
        ]

    -- the union of the old marks and the marks of a walk from more common ids marks all ids that common ids reach
    pub more_reached : StopsAtMarks A → (more : List (List ℕ)) (reached marks : List Bool) (met : List ℕ) (lost : Option (List ℕ)) (parents : ℕ)
        → IsWalk (stop_at known g) more reached met lost parents
        → ((p : ℕ) → get_or marks p false ≡ (get_or reached p false || get_or known p false))
        → AreReached g (commons ++ more) marks
    more_reached stops more reached marks met lost parents walk is a p e =
        let x = get_or reached p false in
        let y = get_or known p false in
        let at : position_of (stop_at known g) a ≡ Some p = stop_position known g a ∙ e in
        let walked = walk.has_met.marked a p at in (
          λ t. elim (or_cases x y (sym (is p) ∙ t)) [
            | inl new ↦
                let s = met_reached (stop_at known g) more walk.ids walk.levels a (walked.0 new) in
                (s.0, Contains-append_right commons more s.0 s.1, past_reaches known s.0 a (((stops g known).0 s.0 a).0 s.2))
            | inr old ↦ (let s = (are a p e).0 old in (s.0, Contains-append_left commons more s.0 s.1, s.2))
          ],
          λ s. is p ∙ elim (Contains-append_cases commons more s.0 s.1) [
            | inl old ↦ or_right x y ((are a p e).1 (s.0, old, s.2))
            | inr new ↦ elim (reaches_or s.0 a s.2) [
              | inl past ↦ or_left x y (walked.1 (reached_met (stop_at known g) more walk.ids walk.levels a
                  (s.0, new, ((stops g known).0 s.0 a).1 past)))
              | inr some ↦ or_right x y ((are a p e).1 some)
            ]
          ],
        )

    -- an id that may not be offered may not be offered with more common ids either
    pub told_more : (sent more ids : List (List ℕ)) → All (λ a. ¬ (MayBeOffered g commons sent a)) ids
        → All (λ a. ¬ (MayBeOffered g (commons ++ more) sent a)) ids
    told_more sent more ids told =
        All-weaker (λ a. ¬ (MayBeOffered g commons sent a)) (λ a. ¬ (MayBeOffered g (commons ++ more) sent a))
        (λ a no may. no (record {
          held = may.held;
          unknown = λ s. may.unknown (s.0, Contains-append_left commons more s.0 s.1, s.2);
          unsent = may.unsent;
        })) ids told
