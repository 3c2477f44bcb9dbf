-- Ascending ids, and the fan-out table.
use Rattle.std.proofs.Common.{◌≡◌, ◌≢◌, ℕ, zero, suc, ◌+◌, ◌-◌, ◌<◌, ◌≤◌, true, false, Bool, cond, IsTrue, List, [], ◌∷◌, length, drop, get_or, nat_le, All, Err, inl, inr, refl, sym, ap, subst, ◌∙◌, count_by, slice_range, arith, ◌↔◌}
use Rattle.std.specs.List.{HoldsAt, IsAllAdjacentAnswer}
use Rattle.std.specs.List.Sorted.{IsBinarySearchResult, IsPartitionedBy, IsPartitionPoint, IsSortedBy}
use Rattle.std.specs.Ordering.{is_lt, nat_cmp, ordering_reverse, ordering_then}
use Rattle.std.specs.Cmp.Lexicographic.{slice_cmp}
use Rattle.std.specs.declared.cmp.Ordering.{Ordering}
use Rattle.std.specs.declared.cmp.Ordering.TheVariants.{Less, Equal, Greater}
use Rattle.std.proofs.lemmas.Bool.{cases_lt, false≢true, le-leb, leb-true}
use Rattle.std.proofs.lemmas.Bool.Decides.{nat_tests}
use Rattle.std.proofs.lemmas.Cmp.{by_ranked, nat_list_cmp_total, ranked, tied_itself}
use Rattle.std.proofs.lemmas.List.{get_or-drop, get_or-take, get_or_default, length-drop, length-take-le}
use Rattle.std.proofs.lemmas.List.Sorted.{IsNonDecreasingBy-from_all_adjacent, IsPartitionedBy-leb, searchable_from_sorted}
use Rattle.std.proofs.lemmas.List.Sums.{count_by-le-length, sum_by-cons}
use Rattle.std.proofs.lemmas.Map.Lookups.{exact_bytes}
use Rattle.gname.specs.Ids.{Id}
use Rattle.gitcommitgraph.specs.Files.{IsAscending, number}
use Rattle.gitcommitgraph.specs.Texts.{begins_within}
use Rattle.gitcommitgraph.specs.steps.Rows.{IsRising, row_offset}
use Rattle.gitcommitgraph.specs.steps.Tables.{AreBetween}

-- ---- the result of `is_sorted_by`

pub rising_decides : (rows : List (List ℕ)) (r : Bool) → IsAllAdjacentAnswer (λ x y b. b ≡ nat_le (row_offset x) (row_offset y)) rows r → IsTrue r ↔ IsRising rows
rising_decides rows true h = (λ _. λ k d inside. leb-true (row_offset (get_or rows k d)) (row_offset (get_or rows (k + 1) d)) (sym (h k d inside)), λ _. refl)
rising_decides rows false h = (λ is. absurd (false≢true is), λ up. absurd (false≢true (h.2 [] ∙ le-leb (row_offset (get_or rows h.0 [])) (row_offset (get_or rows (h.0 + 1) [])) (up h.0 [] h.1))))

lt_is_less : (o : Ordering) → is_lt o ≡ true → o ≡ Less
lt_is_less Less h = refl
lt_is_less Equal h = cc
lt_is_less Greater h = cc

pub ascending_decides : (ids : List Id) (r : Bool) → IsAllAdjacentAnswer (λ x y b. b ≡ is_lt (slice_cmp nat_cmp x y)) ids r → IsTrue r ↔ IsAscending ids
ascending_decides ids true h = (λ _. λ k d inside. lt_is_less (slice_cmp nat_cmp (get_or ids k d) (get_or ids (k + 1) d)) (sym (h k d inside)), λ _. refl)
ascending_decides ids false h = (λ is. absurd (false≢true is), λ up. absurd (false≢true (h.2 [] ∙ ap is_lt (up h.0 [] h.1))))

-- ---- the first bytes of ascending ids

byte_rises : (a b : ℕ) (o : Ordering) → ordering_then (nat_cmp a b) o ≡ Less → a ≤ b
byte_rises a b o h = by_ranked (a < b) (a ≡ b) (b < a) (nat_cmp a b) (ranked a b (nat_cmp a b) refl)
    (λ is below. omega (arith, below))
    (λ is same. omega (arith, same))
    (λ is above. let e : ordering_then (nat_cmp a b) o ≡ Greater = ap (λ p. ordering_then p o) is in cc)

first_rises : (x y : List ℕ) → slice_cmp nat_cmp x y ≡ Less → get_or x 0 0 ≤ get_or y 0 0
first_rises [] y h = omega arith
first_rises (a ∷ x) [] h = cc
first_rises (a ∷ x) (b ∷ y) h = byte_rises a b (slice_cmp nat_cmp x y) h

pub parted : (byte : ℕ) (ids : List Id) → IsAscending ids → IsPartitionedBy (begins_within byte) ids
parted byte ids up =
    IsPartitionedBy-leb (λ id. get_or id 0 0) ids byte
    (IsNonDecreasingBy-from_all_adjacent (λ id. get_or id 0 0) ids (λ k d inside. first_rises (get_or ids k d) (get_or ids (k + 1) d) (up k d inside)))

-- ---- the partition point of a test, which is the number of elements that satisfy the test

module _ {X : Type 0} (p : X → Bool) where
  tail_parted : (x : X) (xs : List X) → IsPartitionedBy p (x ∷ xs) → IsPartitionedBy p xs
  tail_parted x xs h i j d low high passes = h (suc i) (suc j) d (omega (arith, low)) (omega (arith, high)) passes

  counted_case : (x : X) (xs : List X) (b : Bool) → p x ≡ b → IsPartitionedBy p (x ∷ xs)
      → IsPartitionPoint (λ y. p y ≡ true) (λ y. p y ≡ false) xs (count_by p xs)
      → IsPartitionPoint (λ y. p y ≡ true) (λ y. p y ≡ false) (x ∷ xs) (cond b 1 0 + count_by p xs)
  counted_case x xs true is h split = (
    λ k d low high. elim k as (λ k. k < 1 + count_by p xs → p (get_or (x ∷ xs) k d) ≡ true) [
      | zero ↦ λ inside. is
      | suc j ↦ λ inside. split.0 j d (omega arith) (omega (arith, inside))
    ] high,
    λ k d low high. elim k as (λ k. 1 + count_by p xs ≤ k → k < suc (length xs) → p (get_or (x ∷ xs) k d) ≡ false) [
      | zero ↦ λ from inside. absurd (omega (arith, from))
      | suc j ↦ λ from inside. split.1 j d (omega (arith, from)) (omega (arith, inside))
    ] low high,
  )
  counted_case x xs false is h split =
      let none : count_by p xs ≤ 0 = elim (cases_lt 0 (count_by p xs)) [
        | inl some ↦ absurd (false≢true (sym is ∙ h 0 1 x (omega arith) (let few = count_by-le-length p xs in omega (arith, some, few)) (split.0 0 x (omega arith) some)))
        | inr zero_at ↦ zero_at
      ] in (
        λ k d low high. absurd (omega (arith, none, high)),
        λ k d low high. elim k as (λ k. k < suc (length xs) → p (get_or (x ∷ xs) k d) ≡ false) [
          | zero ↦ λ inside. is
          | suc j ↦ λ inside. split.1 j d (omega (arith, none)) (omega (arith, inside))
        ] high,
      )

  pub counted : (xs : List X) → IsPartitionedBy p xs → IsPartitionPoint (λ y. p y ≡ true) (λ y. p y ≡ false) xs (count_by p xs)
  counted [] h = (λ k d low high. absurd (omega (arith, high)), λ k d low high. absurd (omega (arith, high)))
  counted (x ∷ xs) h =
      subst (λ n. IsPartitionPoint (λ y. p y ≡ true) (λ y. p y ≡ false) (x ∷ xs) n) (sym (sum_by-cons (λ y. cond (p y) 1 0) x xs))
      (counted_case x xs (p x) refl h (counted xs (tail_parted x xs h)))

-- conversely, a partition point of the ids is the number of ids that satisfy `p`
pub counts : (p : Id → Bool) (ids : List Id) (place : ℕ) → IsPartitionedBy p ids → IsPartitionPoint (λ y. p y ≡ true) (λ y. p y ≡ false) ids place → place ≤ length ids
    → place ≡ count_by p ids
counts p ids place h at inside =
    let split = counted p ids h in
    let few = count_by-le-length p ids in
    elim (cases_lt place (count_by p ids)) [
      | inl below ↦ absurd (false≢true (sym (at.1 place [] (omega arith) (omega (arith, below, few))) ∙ split.0 place [] (omega arith) below))
      | inr above ↦ elim (cases_lt (count_by p ids) place) [
        | inl below ↦ absurd (false≢true (sym (split.1 (count_by p ids) [] (omega arith) (omega (arith, below, inside))) ∙ at.0 (count_by p ids) [] (omega arith) below))
        | inr same ↦ omega (arith, above, same)
      ]
    ]

-- ---- the ids that begin with a byte

passes_low : (byte n : ℕ) → nat_le n byte ≡ true → n ≤ byte
passes_low byte n h = leb-true n byte h

fails_high : (byte n : ℕ) → nat_le n byte ≡ false → byte < n
fails_high byte n h = grind (arith, nat_tests)

module _ (byte : ℕ) (ids : List Id) (up : IsAscending ids) where
  above : (k : ℕ) (d : Id) → count_by (begins_within byte) ids ≤ k → k < length ids → byte < get_or (get_or ids k d) 0 0
  above k d low high = fails_high byte _ ((counted (begins_within byte) ids (parted byte ids up)).1 k d low high)

  below : (k : ℕ) (d : Id) → k < count_by (begins_within byte) ids → get_or (get_or ids k d) 0 0 ≤ byte
  below k d high = passes_low byte _ ((counted (begins_within byte) ids (parted byte ids up)).0 k d (omega arith) high)

-- the range of ids that can begin with `byte`: the ids before `start` begin with a lower byte, and the ids from `end`
-- on begin with a higher byte
between : (byte : ℕ) (ids : List Id) (start end : ℕ) → start ≤ length ids → end ≤ length ids
    → ((k : ℕ) (d : Id) → k < start → get_or (get_or ids k d) 0 0 < byte)
    → ((k : ℕ) (d : Id) → end ≤ k → k < length ids → byte < get_or (get_or ids k d) 0 0)
    → AreBetween byte ids start end
between byte ids start end first last low high = record {
  ordered = elim (cases_lt end start) [
    | inl crossed ↦
        let less = low end [] crossed in
        let more = high end [] (omega arith) (omega (arith, crossed, first)) in
        absurd (omega (arith, less, more))
    | inr fine ↦ fine
  ];
  inside = last;
  before = low;
  after = high;
}

pub between_first : (byte : ℕ) (ids : List Id) (end : ℕ) → IsAscending ids → byte ≡ 0 → end ≡ count_by (begins_within byte) ids → AreBetween byte ids 0 end
between_first byte ids end up first last =
    between byte ids 0 end (omega arith) (let few = count_by-le-length (begins_within byte) ids in omega (arith, last, few))
    (λ k d h. absurd (omega (arith, h)))
    (λ k d h inside. above byte ids up k d (omega (arith, last, h)) inside)

pub between_both : (byte : ℕ) (ids : List Id) (start end : ℕ) → IsAscending ids → 0 < byte → start ≡ count_by (begins_within (byte - 1)) ids → end ≡ count_by (begins_within byte) ids
    → AreBetween byte ids start end
between_both byte ids start end up some first last =
    between byte ids start end
    (let few = count_by-le-length (begins_within (byte - 1)) ids in omega (arith, first, few))
    (let few = count_by-le-length (begins_within byte) ids in omega (arith, last, few))
    (λ k d h. let low = below (byte - 1) ids up k d (omega (arith, first, h)) in omega (arith, low, some))
    (λ k d h inside. above byte ids up k d (omega (arith, last, h)) inside)

-- ---- a search among ascending ids

back_is_greater : (a b : Id) → slice_cmp nat_cmp a b ≡ Less → is_lt (slice_cmp nat_cmp b a) ≡ false
back_is_greater a b h = ap is_lt (nat_list_cmp_total.antisymm b a ∙ ap ordering_reverse h)

sorted : (ids : List Id) → IsAscending ids → IsSortedBy (λ a b. is_lt (slice_cmp nat_cmp a b)) ids
sorted ids up k d low high = back_is_greater (get_or ids k d) (get_or ids (k + 1) d) (up k d high)

pub found_id : (ids : List Id) (id : Id) (place : ℕ) → HoldsAt (λ other. slice_cmp nat_cmp other id ≡ Equal) ids place → HoldsAt (λ other. other ≡ id) ids place
found_id ids id place h d = exact_bytes (get_or ids place d) id (h d)

not_both : {o : Ordering} (q : Ordering) → o ≡ Equal → o ≡ q → (q ≡ Equal → ⊥) → ⊥
not_both q equal is differ = differ (sym is ∙ equal)

is_itself : (a b : Id) → a ≡ b → slice_cmp nat_cmp a b ≡ Equal
is_itself a b same = ap (λ c. slice_cmp nat_cmp a c) (sym same) ∙ tied_itself nat_list_cmp_total a

pub no_id : (ids : List Id) (id : Id) (place : ℕ) → IsAscending ids → IsBinarySearchResult (λ other. slice_cmp nat_cmp other id) ids (Err place) → All (λ other. other ≢ id) ids
no_id ids id place up search_result k d inside same =
    let parts = search_result (searchable_from_sorted nat_list_cmp_total (λ other. other) ids id (sorted ids up)) in
    let equal = is_itself (get_or ids k d) id same in
    elim (cases_lt k place) [
      | inl lower ↦ not_both Less equal (parts.0 k d (omega arith) lower) (λ h. cc)
      | inr higher ↦ not_both Greater equal (parts.1 k d higher inside) (λ h. cc)
    ]

-- ---- a search in a range of ascending ids

module _ (ids : List Id) (start end : ℕ) (part : List Id) (cut : part ≡ slice_range ids start end) (ordered : start ≤ end) (inside : end ≤ length ids) where
  part_long : length part ≡ end - start
  part_long =
      let rest = length-drop start ids in
      ap length cut ∙ length-take-le (end - start) (drop start ids) (omega (arith, rest, ordered, inside))

  part_at : (k : ℕ) (d : Id) → k < end - start → get_or part k d ≡ get_or ids (start + k) d
  part_at k d h = ap (λ l. get_or l k d) cut ∙ get_or-take (end - start) (drop start ids) k d h ∙ get_or-drop start ids k d

  pub ascending_part : IsAscending ids → IsAscending part
  ascending_part up k d in_part =
      let long = part_long in
      let one = part_at k d (omega (arith, long, in_part)) in
      let other = part_at (k + 1) d (omega (arith, long, in_part)) in
      let next : start + (k + 1) ≡ (start + k) + 1 = omega arith in
      ap (λ a. slice_cmp nat_cmp a (get_or part (k + 1) d)) one
      ∙ ap (λ b. slice_cmp nat_cmp (get_or ids (start + k) d) b) (other ∙ ap (λ n. get_or ids n d) next)
      ∙ up (start + k) d (omega (arith, long, in_part, ordered, inside))

  pub found_in_part : (id : Id) (place : ℕ) → place < length part → HoldsAt (λ other. other ≡ id) part place
      → (start + place < length ids) × HoldsAt (λ other. other ≡ id) ids (start + place)
  found_in_part id place in_part found =
      let long = part_long in (
        omega (arith, long, in_part, ordered, inside),
        λ d. sym (part_at place d (omega (arith, long, in_part))) ∙ found d,
      )

  pub missing_in_part : (id : Id) → All (λ other. other ≢ id) part
      → ((k : ℕ) (d : Id) → k < start → get_or (get_or ids k d) 0 0 < get_or id 0 0)
      → ((k : ℕ) (d : Id) → end ≤ k → k < length ids → get_or id 0 0 < get_or (get_or ids k d) 0 0)
      → All (λ other. other ≢ id) ids
  missing_in_part id none low high k d in_ids same =
      let long = part_long in
      let first = ap (λ x. get_or x 0 0) same in
      elim (cases_lt k start) [
        | inl before ↦ let less = low k d before in absurd (omega (arith, first, less))
        | inr from ↦ elim (cases_lt k end) [
          | inl within ↦
              let at = part_at (k - start) d (omega (arith, from, within)) in
              let back : start + (k - start) ≡ k = omega (arith, from) in
              none (k - start) d (omega (arith, from, within, long)) (at ∙ ap (λ n. get_or ids n d) back ∙ same)
          | inr after ↦ let more = high k d after in_ids in absurd (omega (arith, first, more))
        ]
      ]

-- ---- the fan-out table up to one more byte

pub fan_more : (rows : List (List ℕ)) (ids : List Id) (byte : ℕ) → byte < length rows → number (get_or rows byte []) ≡ count_by (begins_within byte) ids
    → ((b : ℕ) (d : List ℕ) → b < byte → number (get_or rows b d) ≡ count_by (begins_within b) ids)
    → (b : ℕ) (d : List ℕ) → b < byte + 1 → number (get_or rows b d) ≡ count_by (begins_within b) ids
fan_more rows ids byte inside here before b d h =
    elim (cases_lt b byte) [
      | inl low ↦ before b d low
      | inr high ↦
          let same : b ≡ byte = omega (arith, high, h) in
          ap (λ n. number (get_or rows n d)) same ∙ ap number (get_or_default rows byte d [] inside) ∙ here ∙ ap (λ n. count_by (begins_within n) ids) (sym same)
    ]
