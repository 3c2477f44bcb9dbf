-- The graph in which marked objects have no parents.
use Rattle.std.proofs.Common.{◌≡◌, ℕ, zero, suc, ◌<◌, ◌≤◌, Bool, true, false, cond, List, [], ◌∷◌, length, get_or, All, Option, Some, None, refl, sym, ap, ◌∙◌, subst, arith}
use Rattle.std.specs.List.{position_or_len, slice_get}
use Rattle.std.specs.Option.{option_map}
use Rattle.gobject.specs.declared.node.Entry.{Entry}
use Rattle.gobject.specs.Objects.{has_id, position_of, entry_of, node_of, IsShaped}
use Rattle.gdag.proofs.Growing.{all_standing}
use Rattle.gdag.proofs.Holding.{mapped_from}
use Rattle.gwalk.proofs.Positions.{entry_there}
use Rattle.gwalk.specs.Marks.{stop_at}
use Rattle.gwalk.proofs.Marking.{none_in}

-- an entry whose node has no parents
abbrev pub bare : {A : Type 0} → Entry A → Entry A
bare entry = entry_of entry.id (node_of entry.node.kind [])

abbrev pub bare_if : {A : Type 0} → Bool → Entry A → Entry A
bare_if mark entry = cond mark (bare entry) entry

pub stop_length : {A : Type 0} (marks : List Bool) (g : List (Entry A)) → length (stop_at marks g) ≡ length g
stop_length [] g = refl
stop_length (mark ∷ marks) [] = refl
stop_length (mark ∷ marks) (entry ∷ g) = let e = stop_length marks g in omega (arith, e)

same_test : {A : Type 0} (mark : Bool) (a : List ℕ) (entry : Entry A) → has_id a (bare_if mark entry) ≡ has_id a entry
same_test true a entry = refl
same_test false a entry = refl

stop_position_of : {A : Type 0} (marks : List Bool) (g : List (Entry A)) (a : List ℕ) → position_or_len (has_id a) (stop_at marks g) ≡ position_or_len (has_id a) g
stop_position_of [] g a = refl
stop_position_of (mark ∷ marks) [] a = refl
stop_position_of (mark ∷ marks) (entry ∷ g) a =
    let e = stop_position_of marks g a in
    rw (same_test mark a entry, e) refl

pub stop_position : {A : Type 0} (marks : List Bool) (g : List (Entry A)) (a : List ℕ) → position_of (stop_at marks g) a ≡ position_of g a
stop_position marks g a = rw (stop_position_of marks g a, stop_length marks g) refl

same_entry : {A : Type 0} (o : Option (Entry A)) (mark : Bool) → mark ≡ false → o ≡ option_map (bare_if mark) o
same_entry None mark e = refl
same_entry (Some entry) mark e = rw e refl

pub stop_slice : {A : Type 0} (marks : List Bool) (g : List (Entry A)) (p : ℕ) → slice_get (stop_at marks g) p ≡ option_map (bare_if (get_or marks p false)) (slice_get g p)
stop_slice [] g p = same_entry (slice_get g p) (get_or [] p false) (none_in p)
stop_slice (mark ∷ marks) [] p = refl
stop_slice (mark ∷ marks) (entry ∷ g) zero = refl
stop_slice (mark ∷ marks) (entry ∷ g) (suc p) = stop_slice marks g p

narrow_if : {A : Type 0} (mark : Bool) (entry : Entry A) → length entry.node.parents ≤ 64 → length (bare_if mark entry).node.parents ≤ 64
narrow_if true entry few = omega arith
narrow_if false entry few = few

-- the entry at a position of `stop_at marks g` is the entry of `g` at this position, or that entry without parents
pub stopped_entry : {A : Type 0} (marks : List Bool) (g : List (Entry A)) (p : ℕ) (entry : Entry A) → slice_get (stop_at marks g) p ≡ Some entry → (whole : Entry A) × (slice_get g p ≡ Some whole) × (bare_if (get_or marks p false) whole ≡ entry)
stopped_entry marks g p entry at = mapped_from (bare_if (get_or marks p false)) (slice_get g p) entry (sym (stop_slice marks g p) ∙ at)

pub stop_narrow : {A : Type 0} (marks : List Bool) (g : List (Entry A)) → All (λ entry. IsShaped entry.node) g → (p : ℕ) (entry : Entry A) → slice_get (stop_at marks g) p ≡ Some entry → length entry.node.parents ≤ 64
stop_narrow {A} marks g shaped p entry at =
    let w = stopped_entry marks g p entry at in
    subst (λ (e : Entry A). length e.node.parents ≤ 64) w.2 (narrow_if (get_or marks p false) w.0 (all_standing (λ (e : Entry A). IsShaped e.node) g p w.0 w.1 shaped).few)

-- ---- the parents that a look-up returns

pub lends_none : {A : Type 0} (marks : List Bool) (g : List (Entry A)) (p : ℕ) → get_or marks p false ≡ true → p < length g → option_map (λ (entry : Entry A). entry.node.parents) (slice_get (stop_at marks g) p) ≡ Some []
lends_none marks g p marked inside = rw (stop_slice marks g p, marked, (entry_there g p inside).1) refl

pub lends_all : {A : Type 0} (marks : List Bool) (g : List (Entry A)) (p : ℕ) (parents : List (List ℕ)) → get_or marks p false ≡ false → option_map (λ (entry : Entry A). entry.node.parents) (slice_get g p) ≡ Some parents → option_map (λ (entry : Entry A). entry.node.parents) (slice_get (stop_at marks g) p) ≡ Some parents
lends_all {A} marks g p parents free are =
    let w = mapped_from (λ (entry : Entry A). entry.node.parents) (slice_get g p) parents are in
    rw (stop_slice marks g p, free, w.1) (ap Some w.2)
