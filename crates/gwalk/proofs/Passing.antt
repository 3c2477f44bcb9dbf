-- The counts in a graph in which marked objects have no parents.
use Rattle.std.proofs.Common.{◌≡◌, ℕ, zero, suc, Bool, true, false, List, [], ◌∷◌, length, get_or, Some, refl, sym, ◌∙◌, subst, arith}
use Rattle.std.specs.List.{slice_get}
use Rattle.std.proofs.lemmas.Bool.{false≢true}
use Rattle.std.proofs.lemmas.List.Sums.{sum_by-cons}
use Rattle.std.proofs.lemmas.Option.{same_Some}
use Rattle.gobject.specs.declared.node.Entry.{Entry}
use Rattle.gobject.specs.Objects.{IdsDiffer}
use Rattle.gdag.specs.Reach.{SomeReaches}
use Rattle.gdag.specs.Selecting.{Selects, none, keep, skip}
use Rattle.gdag.specs.Walks.{CountsReached}
use Rattle.gdag.proofs.Choosing.{selects_same}
use Rattle.gdag.proofs.Holding.{own_position}
use Rattle.gwalk.specs.Marks.{CountsPast, IsUnmarked, SomeReachesPast, StopsAtMarks, stop_at}
use Rattle.gwalk.proofs.Reached.{past_from, past_to}
use Rattle.gwalk.proofs.Stopping.{bare_if}
use Rattle.gwalk.specs.Walks.{parents_in}

-- an entry satisfies R exactly if its position is unmarked
abbrev Marks : {A : Type 0} → (Entry A → Type 0) → List Bool → List (Entry A) → Type 0
Marks {A} R marks g = (position : ℕ) (entry : Entry A) → slice_get g position ≡ Some entry →
    (get_or marks position false ≡ false → R entry) × (get_or marks position false ≡ true → ¬ (R entry))

-- `list` has the entries of `g` that satisfy Q, and `left` those that also satisfy R; their numbers match `chosen`
record Whole {A : Type 0} (Q : List ℕ → Type 0) (R : Entry A → Type 0) (g chosen : List (Entry A)) : Type 0 where
  list : List (Entry A)
  reached : Selects (λ entry. Q entry.id) g list
  long : length chosen ≡ length list
  left : List (Entry A)
  unmarked : Selects R list left
  sum : parents_in chosen ≡ parents_in left

module _ {A : Type 0} (Q : List ℕ → Type 0) (R : Entry A → Type 0) where
  none_later : (entry : Entry A) (g : List (Entry A)) → Marks R [] (entry ∷ g) → Marks R [] g
  none_later entry g are zero = are 1
  none_later entry g are (suc position) = are (suc (suc position))

  keeps_one : (mark : Bool) (entry : Entry A) (g chosen : List (Entry A)) → (mark ≡ false → R entry) × (mark ≡ true → ¬ (R entry)) → Q entry.id → Whole Q R g chosen → Whole Q R (entry ∷ g) (bare_if mark entry ∷ chosen)
  keeps_one true entry g chosen is q rest = record {
    list = entry ∷ rest.list;
    reached = keep q rest.reached;
    long = let l = rest.long in omega arith;
    left = rest.left;
    unmarked = skip (is.1 refl) rest.unmarked;
    sum = let s = rest.sum in let c = sum_by-cons (λ (e : Entry A). length e.node.parents) (bare_if true entry) chosen in omega (arith, s, c);
  }
  keeps_one false entry g chosen is q rest = record {
    list = entry ∷ rest.list;
    reached = keep q rest.reached;
    long = let l = rest.long in omega arith;
    left = entry ∷ rest.left;
    unmarked = keep (is.0 refl) rest.unmarked;
    sum = let s = rest.sum in
        let c = sum_by-cons (λ (e : Entry A). length e.node.parents) entry chosen in
        let d = sum_by-cons (λ (e : Entry A). length e.node.parents) entry rest.left in omega (arith, s, c, d);
  }

  skips_one : (entry : Entry A) (g chosen : List (Entry A)) → ¬ (Q entry.id) → Whole Q R g chosen → Whole Q R (entry ∷ g) chosen
  skips_one entry g chosen out rest = record {
    list = rest.list;
    reached = skip out rest.reached;
    long = rest.long;
    left = rest.left;
    unmarked = rest.unmarked;
    sum = rest.sum;
  }

  nothing : Whole Q R [] []
  nothing = record { list = []; reached = none; long = refl; left = []; unmarked = none; sum = refl }

  adds : (mark : Bool) (entry : Entry A) (g rest chosen : List (Entry A)) → (mark ≡ false → R entry) ×
      (mark ≡ true → ¬ (R entry)) → ((more : List (Entry A)) → Selects (λ x. Q x.id) rest more → Whole Q R g more) →
      Selects (λ x. Q x.id) (bare_if mark entry ∷ rest) chosen → Whole Q R (entry ∷ g) chosen
  adds true entry g rest chosen is on (keep {ys = more} q s) = keeps_one true entry g more is q (on more s)
  adds true entry g rest chosen is on (skip out s) = skips_one entry g chosen out (on chosen s)
  adds false entry g rest chosen is on (keep {ys = more} q s) = keeps_one false entry g more is q (on more s)
  adds false entry g rest chosen is on (skip out s) = skips_one entry g chosen out (on chosen s)

  whole : (marks : List Bool) (g chosen : List (Entry A)) → Marks R marks g → Selects (λ entry. Q entry.id) (stop_at marks g) chosen → Whole Q R g chosen
  whole [] [] chosen are none = nothing
  whole (mark ∷ marks) [] chosen are none = nothing
  whole [] (entry ∷ g) chosen are chooses =
      adds false entry g g chosen (are 0 entry refl) (λ more. whole [] g more (none_later entry g are)) chooses
  whole (mark ∷ marks) (entry ∷ g) chosen are chooses =
      let on = λ (more : List (Entry A)). whole marks g more (λ position. are (suc position)) in
      adds mark entry g (stop_at marks g) chosen (are 0 entry refl) on chooses

module _ {A : Type 0} (g : List (Entry A)) (marks : List Bool) (differ : IdsDiffer g) where
  marks_say : Marks (λ (entry : Entry A). IsUnmarked g marks entry.id) marks g
  marks_say position entry at =
      let own = own_position g position entry differ at in (
        λ free. (position, own, free),
        λ marked left. (
            let same : left.0 ≡ position = same_Some left.0 position (sym left.1 ∙ own) in
            false≢true (sym (subst (λ (p : ℕ). get_or marks p false ≡ false) same left.2) ∙ marked)
            ),
      )

  pub counts_past : (ids : List (List ℕ)) (held parents : ℕ) → CountsReached (stop_at marks g) ids held parents → CountsPast g marks ids held parents
  counts_past ids held parents counts =
      let Q : List ℕ → Type 0 = λ a. SomeReachesPast g marks ids a in
      let chosen = selects_same (λ (entry : Entry A). SomeReaches (stop_at marks g) ids entry.id) (λ (entry : Entry A). Q entry.id) (stop_at marks g) counts.list
      (λ entry some. (some.0, some.1, past_from marks g some.0 entry.id some.2))
      (λ entry some. (some.0, some.1, past_to marks g some.0 entry.id some.2)) counts.reached in
      let w = whole Q (λ (entry : Entry A). IsUnmarked g marks entry.id) marks g counts.list marks_say chosen in
      record {
        list = w.list;
        reached = w.reached;
        held_are = counts.held_are ∙ w.long;
        left = w.left;
        unmarked = w.unmarked;
        parents_are = counts.parents_are ∙ w.sum;
      }

pub stops_at_marks : (A : Type 0) → StopsAtMarks A
stops_at_marks A g marks = (
  λ a b. (past_from marks g a b, past_to marks g a b),
  λ ids held parents differ. counts_past g marks differ ids held parents,
)
