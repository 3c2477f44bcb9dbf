-- The counts of a walk.
use Rattle.std.proofs.Common.{◌≡◌, ℕ, zero, suc, ◌+◌, ◌^◌, ◌<◌, ◌≤◌, Bool, true, false, List, [], ◌∷◌, length, get_or}
use Rattle.std.proofs.Common.{set, All, Some, replicate, refl, sym, arith}
use Rattle.std.specs.List.{slice_get}
use Rattle.std.specs.Option.{option_map}
use Rattle.std.proofs.lemmas.Bool.{false≢true}
use Rattle.std.proofs.lemmas.Option.{none-some, same_Some}
use Rattle.std.proofs.lemmas.List.Elements.{All-nil, All-cons}
use Rattle.std.proofs.lemmas.List.Sums.{sum_by-cons, sum_by-le}
use Rattle.gobject.specs.declared.node.Entry.{Entry}
use Rattle.gdag.proofs.Holding.{mapped_from}
use Rattle.gwalk.specs.Walks.{marked_entries, parents_in}

pub marked_none : {A : Type 0} (g : List (Entry A)) (n : ℕ) → marked_entries g (replicate n false) ≡ []
marked_none [] n = refl
marked_none (entry ∷ g) zero = refl
marked_none (entry ∷ g) (suc n) = marked_none g n

-- marking one more entry
pub marked_more : {A : Type 0} (g : List (Entry A)) (marks : List Bool) (p : ℕ) (entry : Entry A) → p < length marks →
    get_or marks p false ≡ false → slice_get g p ≡ Some entry →
    (length (marked_entries g (set marks p true)) ≡ length (marked_entries g marks) + 1) ×
    (parents_in (marked_entries g (set marks p true)) ≡ parents_in (marked_entries g marks) + length entry.node.parents)
marked_more [] marks p entry inside free at = absurd (none-some entry at)
marked_more (first ∷ g) [] p entry inside free at = absurd (omega arith)
marked_more (first ∷ g) (true ∷ marks) zero entry inside free at = absurd (false≢true (sym free))
marked_more {A} (first ∷ g) (false ∷ marks) zero entry inside free at =
    let c = sum_by-cons (λ (e : Entry A). length e.node.parents) first (marked_entries g marks) in
    rw (sym (same_Some first entry at)) (omega arith, omega arith)
marked_more {A} (first ∷ g) (true ∷ marks) (suc p) entry inside free at =
    let e = marked_more g marks p entry (omega arith) free at in
    let c = sum_by-cons (λ (e : Entry A). length e.node.parents) first in
    let old = c (marked_entries g marks) in let new = c (marked_entries g (set marks p true)) in
    (omega arith, omega arith)
marked_more (first ∷ g) (false ∷ marks) (suc p) entry inside free at = marked_more g marks p entry (omega arith) free at

pub marked_few : {A : Type 0} (g : List (Entry A)) (marks : List Bool) → length (marked_entries g marks) ≤ length g
marked_few [] marks = omega arith
marked_few (entry ∷ g) [] = omega arith
marked_few (entry ∷ g) (true ∷ marks) = let l = marked_few g marks in omega arith
marked_few (entry ∷ g) (false ∷ marks) = let l = marked_few g marks in omega arith

marked_all : {A : Type 0} (P : Entry A → Type 0) (g : List (Entry A)) (marks : List Bool) → ((p : ℕ) (entry : Entry A) → slice_get g p ≡ Some entry → P entry) → All P (marked_entries g marks)
marked_all P [] marks each = All-nil P
marked_all P (entry ∷ g) [] each = All-nil P
marked_all P (entry ∷ g) (true ∷ marks) each =
    All-cons P entry (marked_entries g marks) (each 0 entry refl) (marked_all P g marks (λ p. each (suc p)))
marked_all P (entry ∷ g) (false ∷ marks) each = marked_all P g marks (λ p. each (suc p))

-- the number of counted parents, with the parents of one more entry, does not overflow
pub counts_fit : {A : Type 0} (g : List (Entry A)) (marks : List Bool) (parents p : ℕ) (more : List (List ℕ)) → parents ≡ parents_in (marked_entries g marks) → p < length marks → get_or marks p false ≡ false → option_map (λ entry. entry.node.parents) (slice_get g p) ≡ Some more → length g ≤ 1048576 → ((q : ℕ) (entry : Entry A) → slice_get g q ≡ Some entry → length entry.node.parents ≤ 64) → parents + length more < 2 ^ 64
counts_fit {A} g marks parents p more are inside free is small narrow =
    let w = mapped_from (λ (entry : Entry A). entry.node.parents) (slice_get g p) more is in
    let e = marked_more g marks p w.0 inside free w.1 in
    let all = marked_all (λ (entry : Entry A). length entry.node.parents ≤ 64) g (set marks p true) narrow in
    let few = sum_by-le (λ (entry : Entry A). length entry.node.parents) 64 (marked_entries g (set marks p true)) all in
    let l = marked_few g (set marks p true) in
    rw (sym w.2) (omega arith)
