-- The order of the entries of a pack index.
use Rattle.std.proofs.Common.{◌≡◌, ◌≢◌, ℕ, zero, suc, ◌+◌, ◌<◌, ◌≤◌, true, false, Bool, not, IsTrue, List, [], ◌∷◌, length, get_or, map, All, Err, ◌⊎◌, inl, inr, refl, sym, ap, ◌∙◌, arith, rules}
use Rattle.std.specs.Cmp.{IsStrictWeakOrder, IsTotalOrder}
use Rattle.std.specs.Cmp.Rules.{comparing}
use Rattle.std.specs.List.{HoldsAt, IsAllAdjacentAnswer}
use Rattle.std.specs.List.Sorted.{IsBinarySearchResult, IsSortedByKey}
use Rattle.std.specs.Ordering.{is_gt, is_lt, ordering_index, ordering_reverse, ordering_then}
use Rattle.std.specs.declared.cmp.Ordering.{Ordering}
use Rattle.std.specs.declared.cmp.Ordering.TheVariants.{Less, Equal, Greater}
use Rattle.std.proofs.lemmas.Bool.{false≢true}
use Rattle.std.proofs.lemmas.List.{length-map}
use Rattle.std.proofs.lemmas.List.Elements.{All-map}
use Rattle.std.proofs.lemmas.List.Sorted.{ranks_by, searchable_from_sorted}
use Rattle.std.proofs.lemmas.Map.Lookups.{exact_bytes}
use Rattle.gitobject.specs.declared.types.ObjectType.TheVariants.{Blob}
use Rattle.gname.specs.Ids.{Id, id_cmp}
use Rattle.gitpack.specs.Indexes.{HasText, Indexed, IsIndexed, IsLine, entry_id, index_of, line_of, object_id}
use Rattle.gitpack.specs.declared.index.IndexEntry.{IndexEntry}
use Rattle.gitpack.specs.declared.indexing.IndexedEntry.{IndexedEntry}

not_true : (b : Bool) → true ≡ not b → b ≡ false
not_true true h = cc
not_true false h = refl

pub sorted_from_adjacent : (entries : List IndexEntry) (r : Bool) → IsTrue r → IsAllAdjacentAnswer (λ x y b. b ≡ not (is_lt (id_cmp y.id x.id))) entries r → IsSortedByKey entry_id id_cmp entries
sorted_from_adjacent entries true is h = λ k d low high. not_true (is_lt (id_cmp (entry_id (get_or entries (k + 1) d)) (entry_id (get_or entries k d)))) (h k d high)
sorted_from_adjacent entries false is h = cc

no_line : IndexEntry
no_line = record { id = []; crc = 0; offset = 0 }

pub adjacent_from_sorted : (entries : List IndexEntry) (r : Bool) → IsAllAdjacentAnswer (λ x y b. b ≡ not (is_lt (id_cmp y.id x.id))) entries r → IsSortedByKey entry_id id_cmp entries → IsTrue r
adjacent_from_sorted entries true h sorted = refl
adjacent_from_sorted entries false h sorted =
    let k = h.0 in
    let up = sorted k no_line (omega arith) h.1 in
    let down = h.2 no_line in
    absurd (false≢true (down ∙ ap not up))

-- ---- equal ids

ids_ordered : IsTotalOrder id_cmp
ids_ordered = search (comparing, rules)

then_equal : (o p : Ordering) → ordering_then o p ≡ Equal → p ≡ Equal
then_equal Less p h = cc
then_equal Equal p h = h
then_equal Greater p h = cc

pub same_ids : (a b : Id) → id_cmp a b ≡ Equal → a ≡ b
same_ids a b h = exact_bytes a b (then_equal _ _ h)

own_reverse : (o : Ordering) → o ≡ ordering_reverse o → o ≡ Equal
own_reverse Less h = cc
own_reverse Equal h = refl
own_reverse Greater h = cc

pub id_is_itself : (a b : Id) → a ≡ b → id_cmp a b ≡ Equal
id_is_itself a b is = ap (λ c. id_cmp a c) (sym is) ∙ own_reverse (id_cmp a a) (ids_ordered.antisymm a a)

-- ---- a binary search

not_both : {o : Ordering} (p : Ordering) → o ≡ Equal → o ≡ p → (p ≡ Equal → ⊥) → ⊥
not_both p equal is differ = differ (sym is ∙ equal)

lt_is_less : (o : Ordering) → IsTrue (is_lt o) → o ≡ Less
lt_is_less Less h = refl
lt_is_less Equal h = cc
lt_is_less Greater h = cc

gt_is_greater : (o : Ordering) → IsTrue (is_gt o) → o ≡ Greater
gt_is_greater Less h = cc
gt_is_greater Equal h = cc
gt_is_greater Greater h = refl

lt_or_ge : (k n : ℕ) → (k < n) ⊎ (n ≤ k)
lt_or_ge k zero = inr (omega arith)
lt_or_ge zero (suc n) = inl (omega arith)
lt_or_ge (suc k) (suc n) = elim (lt_or_ge k n) [ inl below ↦ inl (omega (arith, below)) | inr above ↦ inr (omega (arith, above)) ]

module _ {X : Type 0} (key : X → Id) (entries : List X) (id : Id) (place : ℕ) where
  pub found_id : HoldsAt (λ e. id_cmp (key e) id ≡ Equal) entries place → HoldsAt (λ e. key e ≡ id) entries place
  found_id h d = same_ids (key (get_or entries place d)) id (h d)

  pub no_id : IsSortedByKey key id_cmp entries → place ≤ length entries → IsBinarySearchResult (λ e. id_cmp (key e) id) entries (Err place) → All (λ e. key e ≢ id) entries
  no_id sorted inside parted k d in_list same =
      let parts = parted (searchable_from_sorted ids_ordered key entries id sorted) in
      let equal = id_is_itself (key (get_or entries k d)) id same in
      elim (lt_or_ge k place) [
        | inl below ↦ let less = parts.0 k d (omega arith) below in not_both Less equal less (λ h. cc)
        | inr above ↦ let more = parts.1 k d above in_list in not_both Greater equal more (λ h. cc)
      ]

  -- the key at `place` is less than the id, and the key at the next place is greater
  pub no_id_between : (next : ℕ) → IsSortedByKey key id_cmp entries → next ≤ place + 1 → place < length entries
      → HoldsAt (λ e. IsTrue (is_lt (id_cmp (key e) id))) entries place → HoldsAt (λ e. IsTrue (is_gt (id_cmp (key e) id))) entries next → All (λ e. key e ≢ id) entries
  no_id_between next sorted near inside less greater k d in_list same =
      let rises = searchable_from_sorted ids_ordered key entries id sorted in
      let equal = ap ordering_index (id_is_itself (key (get_or entries k d)) id same) in
      elim (lt_or_ge place k) [
        | inl above ↦ let up = rises next k d (omega (arith, near, above)) in_list in
            let high = ap ordering_index (gt_is_greater _ (greater d)) in omega (arith, up, high, equal)
        | inr below ↦ let up = rises k place d below inside in
            let low = ap ordering_index (lt_is_less _ (less d)) in omega (arith, up, low, equal)
      ]

pub object_order : IsStrictWeakOrder (λ x y. is_lt (id_cmp (object_id x) (object_id y)))
object_order = ranks_by ids_ordered object_id

-- ---- the index of a pack

no_object : IndexedEntry
no_object = record { entry = no_line; kind = Blob }

line_at : (objects : List IndexedEntry) (k : ℕ) (d : IndexEntry) (e : IndexedEntry) → k < length objects → get_or (map line_of objects) k d ≡ line_of (get_or objects k e)
line_at [] k d e inside = absurd (omega (arith, inside))
line_at (o ∷ objects) zero d e inside = refl
line_at (o ∷ objects) (suc k) d e inside = line_at objects k d e (omega (arith, inside))

sorted_lines : (objects : List IndexedEntry) → IsSortedByKey object_id id_cmp objects → IsSortedByKey entry_id id_cmp (map line_of objects)
sorted_lines objects sorted = λ k d low high.
    let more : k + 1 < length objects = omega (arith, high, length-map objects line_of) in
    let next = line_at objects (k + 1) d no_object more in
    let here = line_at objects k d no_object (omega (arith, more)) in
    ap (λ e. is_lt (id_cmp (entry_id e) (entry_id (get_or (map line_of objects) k d)))) next
    ∙ ap (λ e. is_lt (id_cmp (entry_id (line_of (get_or objects (k + 1) no_object))) (entry_id e))) here
    ∙ sorted k no_object low more

pub has_text : (pack : Indexed) → IsIndexed pack → HasText (index_of pack)
has_text pack is = record {
  entries = record {
    lines = All-map IsLine line_of pack.entries is.objects.lines;
    sorted = sorted_lines pack.entries is.objects.sorted;
    few = let few = is.objects.few in omega (arith, few, length-map pack.entries line_of);
  };
  checksum = is.checksum;
}
