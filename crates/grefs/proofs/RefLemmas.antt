-- Refs in order: the result of a search, and the effect of an edit at the position that was found.
use Rattle.std.proofs.Common.{ap₂, ◌≡◌, ◌≢◌, ℕ, zero, suc, ◌<◌, ◌≤◌, List, [], ◌∷◌, ◌++◌, length, get_or, set, Bool, true, false, cond, Option, Some, None, Result, Ok, Err, MatchResult, ◌⊎◌, inl, inr, ◌+◌, refl, sym, ◌∙◌, ap, subst, arith, take, drop, ◌-◌}
use Rattle.std.proofs.lemmas.List.Elements.{All-append, All-contains_itself, All-head, All-tail, All-weaker, All-take, All-drop, All-cons, All-set, All-nil}
use Rattle.std.proofs.lemmas.Cmp.{nat_list_cmp_total, alike_right}
use Rattle.std.proofs.lemmas.List.{length-set, length-append}
use Rattle.std.proofs.lemmas.List.Edits.{length-insert}
use Rattle.std.proofs.lemmas.Map.Keys.{sorted_head, sorted_tail}
use Rattle.std.proofs.lemmas.Map.Lookups.{exact_bytes}
use Rattle.std.proofs.lemmas.Map.Text.{is_eq-slice_cmp}
use Rattle.std.proofs.lemmas.Option.{same_Some}
use Rattle.std.proofs.lemmas.Slice.Eq.{bytes_eq-Decides}
use Rattle.std.specs.Cmp.Lexicographic.{slice_cmp}
use Rattle.std.specs.List.{All, AllByRecursion, AllWithin, Contains, insert, find, slice_get}
use Rattle.std.specs.List.Sorted.{IsStrictlySortedBy, IsNonDecreasingBy, IsBinarySearchResult, IsSearchInRange}
use Rattle.std.specs.Map.{keys_of}
use Rattle.std.specs.Option.{option_map}
use Rattle.std.specs.Ordering.{nat_cmp, is_eq, is_lt, ordering_reverse, ordering_index}
use Rattle.std.specs.Str.{bytes_eq}
use Rattle.std.specs.declared.cmp.Ordering.{Ordering}
use Rattle.std.specs.declared.cmp.Ordering.TheVariants.{Less, Equal, Greater}
use Rattle.gname.specs.Names.{head_name}
use Rattle.grefs.specs.Laws.{RefsComeInOrder}
use Rattle.grefs.specs.RefLists.{RefList, has_name, ref_at, AreBelow, IsBelowRefs, IsRefs, SetsRef, max_refs}
use Rattle.grefs.specs.steps.RefPlaces.{IsFound, IsGap}

abbrev pub order : List ℕ → List ℕ → Ordering
order = slice_cmp nat_cmp

-- ---- two names

pub flipped : (x y : List ℕ) → order x y ≡ Less → order y x ≡ Greater
flipped x y h = nat_list_cmp_total.antisymm y x ∙ ap ordering_reverse h

unflipped : (x y : List ℕ) → order x y ≡ Greater → order y x ≡ Less
unflipped x y h = nat_list_cmp_total.antisymm y x ∙ ap ordering_reverse h

lower_differs : (x y : List ℕ) → order x y ≡ Less → bytes_eq x y ≡ false
lower_differs x y h = sym (is_eq-slice_cmp x y) ∙ ap is_eq h

higher_differs : (x y : List ℕ) → order x y ≡ Less → bytes_eq y x ≡ false
higher_differs x y h = sym (is_eq-slice_cmp y x) ∙ ap is_eq (flipped x y h)

bytes_eq-itself : (x : List ℕ) → bytes_eq x x ≡ true
bytes_eq-itself x = (bytes_eq-Decides x x).1 refl

pub other_false : (x y : List ℕ) (b : Bool) → bytes_eq x y ≡ b → y ≢ x → b ≡ false
other_false x y true h differs = absurd (differs (sym ((bytes_eq-Decides x y).0 h)))
other_false x y false h differs = refl

-- ---- look-ups

option_map-cond : {X Y : Type 0} → (f : X → Y) (b : Bool) (x : X) (o : Option X) → option_map f (cond b (Some x) o) ≡ cond b (Some (f x)) (option_map f o)
option_map-cond f true x o = refl
option_map-cond f false x o = refl

pub ref_at-cons : (ref : List ℕ × List ℕ) (refs : RefList) (name : List ℕ) → ref_at (ref ∷ refs) name ≡ cond (bytes_eq ref.0 name) (Some ref.1) (ref_at refs name)
ref_at-cons ref refs name = option_map-cond (λ (r : List ℕ × List ℕ). r.1) (bytes_eq ref.0 name) ref (find (has_name name) refs)

pub ref_at-skip : (ref : List ℕ × List ℕ) (refs : RefList) (name : List ℕ) → bytes_eq ref.0 name ≡ false → ref_at (ref ∷ refs) name ≡ ref_at refs name
ref_at-skip ref refs name h = rw h refl

pub ref_at-hit : (ref : List ℕ × List ℕ) (refs : RefList) (name : List ℕ) → bytes_eq ref.0 name ≡ true → ref_at (ref ∷ refs) name ≡ Some ref.1
ref_at-hit ref refs name h = rw h refl

-- HEAD is not a ref name below refs/
head_not_below : IsBelowRefs head_name → ⊥
head_not_below h = let below = h.below in cc

pub ref_at-head : (refs : RefList) → All (λ ref. IsBelowRefs ref.0) refs → ref_at refs head_name ≡ None
ref_at-head [] all = refl
ref_at-head (ref ∷ refs) all =
    let P : List ℕ × List ℕ → Type 0 = λ r. IsBelowRefs r.0 in
    ref_at-skip ref refs head_name
    (other_false ref.0 head_name (bytes_eq ref.0 head_name) refl (λ same. head_not_below (subst IsBelowRefs (sym same) (All-head P ref refs all))))
    ∙ ref_at-head refs (All-tail P ref refs all)

-- ---- order

pub above_lower : (low high : List ℕ) (keys : List (List ℕ)) → order low high ≡ Less → AllByRecursion (λ y. order high y ≡ Less) keys → AllByRecursion (λ y. order low y ≡ Less) keys
above_lower low high [] h all = tt
above_lower low high (key ∷ keys) h all = (nat_list_cmp_total.trans low high key h all.0, above_lower low high keys h all.1)

sorted_cons : (key : List ℕ) (keys : List (List ℕ)) → AllByRecursion (λ y. order key y ≡ Less) keys → IsStrictlySortedBy order keys → IsStrictlySortedBy order (key ∷ keys)
unfolding IsStrictlySortedBy
sorted_cons key keys all sorted = (all, sorted)

sorted_none : IsStrictlySortedBy order []
unfolding IsStrictlySortedBy
sorted_none = tt

pub none_above : (refs : RefList) (name : List ℕ) → AllByRecursion (λ y. order name y ≡ Less) (keys_of refs) → ref_at refs name ≡ None
none_above [] name all = refl
none_above (ref ∷ refs) name all = ref_at-skip ref refs name (higher_differs name ref.0 all.0) ∙ none_above refs name all.1

-- lists of refs with equal look-ups are equal

abbrev AreAlike : RefList → RefList → Type 0
AreAlike a b = (name : List ℕ) → ref_at a name ≡ ref_at b name

-- if `others` has no ref with the name of `ref`, the look-ups of this name in both lists differ
unlike : (ref : List ℕ × List ℕ) (refs others : RefList) → ref_at others ref.0 ≡ None → ref_at (ref ∷ refs) ref.0 ≡ ref_at others ref.0 → ⊥
unlike ref refs others none same = let there = ref_at-hit ref refs ref.0 (bytes_eq-itself ref.0) in let clash = sym there ∙ same ∙ none in cc

alike_tails : (x : List ℕ × List ℕ) (a b : RefList) (y : List ℕ × List ℕ) → x.0 ≡ y.0 → IsStrictlySortedBy order (keys_of (x ∷ a)) → IsStrictlySortedBy order (keys_of (y ∷ b))
    → AreAlike (x ∷ a) (y ∷ b) → AreAlike a b
alike_tails x a b y one here there alike name = at_name (bytes_eq x.0 name) refl
  where
    at_name : (found : Bool) → bytes_eq x.0 name ≡ found → ref_at a name ≡ ref_at b name
    at_name true h =
        let is : x.0 ≡ name = (bytes_eq-Decides x.0 name).0 h in
        let no_a = none_above a x.0 (sorted_head order x.0 (keys_of a) here) in
        let no_b = none_above b y.0 (sorted_head order y.0 (keys_of b) there) in
        let at_a : ref_at a name ≡ None = subst (λ (n : List ℕ). ref_at a n ≡ None) is no_a in
        let at_b : ref_at b name ≡ None = subst (λ (n : List ℕ). ref_at b n ≡ None) (sym one ∙ is) no_b in
        at_a ∙ sym at_b
    at_name false h =
        let other : bytes_eq y.0 name ≡ false = subst (λ (n : List ℕ). bytes_eq n name ≡ false) one h in
        sym (ref_at-skip x a name h) ∙ alike name ∙ ref_at-skip y b name other

alike_heads : (x : List ℕ × List ℕ) (a b : RefList) (y : List ℕ × List ℕ) → x.0 ≡ y.0 → AreAlike (x ∷ a) (y ∷ b) → x ≡ y
alike_heads x a b y one alike =
    let here = ref_at-hit x a x.0 (bytes_eq-itself x.0) in
    let there = ref_at-hit y b x.0 ((bytes_eq-Decides y.0 x.0).1 (sym one)) in
    let ids : x.1 ≡ y.1 = same_Some x.1 y.1 (sym here ∙ alike x.0 ∙ there) in
    ap₂ (λ (name id : List ℕ). (name, id)) one ids

alike_met : (x : List ℕ × List ℕ) (a b : RefList) (y : List ℕ × List ℕ) (o : Ordering) → order x.0 y.0 ≡ o → IsStrictlySortedBy order (keys_of (x ∷ a))
    → IsStrictlySortedBy order (keys_of (y ∷ b)) → AreAlike (x ∷ a) (y ∷ b) → (AreAlike a b → a ≡ b) → x ∷ a ≡ y ∷ b
alike_met x a b y Less h here there alike tails =
    let none = none_above (y ∷ b) x.0 (h, above_lower x.0 y.0 (keys_of b) h (sorted_head order y.0 (keys_of b) there)) in
    absurd (unlike x a (y ∷ b) none (alike x.0))
alike_met x a b y Greater h here there alike tails =
    let below = unflipped x.0 y.0 h in
    let none = none_above (x ∷ a) y.0 (below, above_lower y.0 x.0 (keys_of a) below (sorted_head order x.0 (keys_of a) here)) in
    absurd (unlike y b (x ∷ a) none (sym (alike y.0)))
alike_met x a b y Equal h here there alike tails =
    let one : x.0 ≡ y.0 = (bytes_eq-Decides x.0 y.0).0 (sym (is_eq-slice_cmp x.0 y.0) ∙ ap is_eq h) in
    ap₂ (λ (ref : List ℕ × List ℕ) (refs : RefList). ref ∷ refs) (alike_heads x a b y one alike) (tails (alike_tails x a b y one here there alike))

pub alike_same : (a b : RefList) → IsStrictlySortedBy order (keys_of a) → IsStrictlySortedBy order (keys_of b) → AreAlike a b → a ≡ b
alike_same [] [] here there alike = refl
alike_same [] (y ∷ b) here there alike = absurd (unlike y b [] refl (sym (alike y.0)))
alike_same (x ∷ a) [] here there alike = absurd (unlike x a [] refl (alike x.0))
alike_same (x ∷ a) (y ∷ b) here there alike =
    alike_met x a b y (order x.0 y.0) refl here there alike
    (λ tails. alike_same a b (sorted_tail order x.0 (keys_of a) here) (sorted_tail order y.0 (keys_of b) there) tails)

-- ---- look-ups after a search

pub ref_at-gap : (refs : RefList) (name : List ℕ) (place : ℕ) → IsStrictlySortedBy order (keys_of refs) → IsGap refs name place → ref_at refs name ≡ None
ref_at-gap [] name zero sorted gap = refl
ref_at-gap [] name (suc place) sorted gap = absurd gap
ref_at-gap (ref ∷ refs) name zero sorted gap = none_above (ref ∷ refs) name (gap, above_lower name ref.0 (keys_of refs) gap (sorted_head order ref.0 (keys_of refs) sorted))
ref_at-gap (ref ∷ refs) name (suc place) sorted gap = ref_at-skip ref refs name (lower_differs ref.0 name gap.0) ∙ ref_at-gap refs name place (sorted_tail order ref.0 (keys_of refs) sorted) gap.1

pub ref_at-found : (refs : RefList) (name : List ℕ) (place : ℕ) (d : List ℕ × List ℕ) → IsFound refs name place → ref_at refs name ≡ Some (get_or refs place d).1
ref_at-found [] name place d found = absurd found
ref_at-found (ref ∷ refs) name zero d found = ref_at-hit ref refs name ((bytes_eq-Decides ref.0 name).1 found)
ref_at-found (ref ∷ refs) name (suc place) d found = ref_at-skip ref refs name (lower_differs ref.0 name found.0) ∙ ref_at-found refs name place d found.1

pub found_inside : (refs : RefList) (name : List ℕ) (place : ℕ) → IsFound refs name place → place < length refs
found_inside [] name place found = absurd found
found_inside (ref ∷ refs) name zero found = omega arith
found_inside (ref ∷ refs) name (suc place) found = omega (arith, found_inside refs name place found.1)

pub gap_inside : (refs : RefList) (name : List ℕ) (place : ℕ) → IsGap refs name place → place ≤ length refs
gap_inside [] name zero gap = omega arith
gap_inside [] name (suc place) gap = absurd gap
gap_inside (ref ∷ refs) name zero gap = omega arith
gap_inside (ref ∷ refs) name (suc place) gap = omega (arith, gap_inside refs name place gap.1)

-- ---- a new ref in a gap

all_insert : (P : List ℕ → Type 0) (refs : RefList) (place : ℕ) (ref : List ℕ × List ℕ) → P ref.0 → AllByRecursion P (keys_of refs) → AllByRecursion P (keys_of (insert refs place ref))
all_insert P refs zero ref this all = (this, all)
all_insert P [] (suc place) ref this all = (this, tt)
all_insert P (first ∷ refs) (suc place) ref this all = (all.0, all_insert P refs place ref this all.1)

sorted_insert : (refs : RefList) (name id : List ℕ) (place : ℕ) → IsStrictlySortedBy order (keys_of refs) → IsGap refs name place → IsStrictlySortedBy order (keys_of (insert refs place (name, id)))
sorted_insert [] name id zero sorted gap = sorted_cons name [] tt sorted_none
sorted_insert [] name id (suc place) sorted gap = absurd gap
sorted_insert (ref ∷ refs) name id zero sorted gap = sorted_cons name (ref.0 ∷ keys_of refs) (gap, above_lower name ref.0 (keys_of refs) gap (sorted_head order ref.0 (keys_of refs) sorted)) sorted
sorted_insert (ref ∷ refs) name id (suc place) sorted gap =
    sorted_cons ref.0 (keys_of (insert refs place (name, id)))
    (all_insert (λ y. order ref.0 y ≡ Less) refs place (name, id) gap.0 (sorted_head order ref.0 (keys_of refs) sorted))
    (sorted_insert refs name id place (sorted_tail order ref.0 (keys_of refs) sorted) gap.1)

swapped : {X : Type 0} → (a b : Bool) (x y z : X) → (a ≡ true → b ≡ true → ⊥) → cond a x (cond b y z) ≡ cond b y (cond a x z)
swapped true true x y z h = absurd (h refl refl)
swapped true false x y z h = refl
swapped false b x y z h = refl

merged : {X : Type 0} → (a : Bool) (x y z : X) → cond a x z ≡ cond a x (cond a y z)
merged true x y z = refl
merged false x y z = refl

not_both : (x y z : List ℕ) → bytes_eq x y ≡ false → bytes_eq x z ≡ true → bytes_eq y z ≡ true → ⊥
not_both x y z differ xz yz =
    let same : x ≡ y = (bytes_eq-Decides x z).0 xz ∙ sym ((bytes_eq-Decides y z).0 yz) in
    let fact = (bytes_eq-Decides x y).1 same in
    let clash : true ≡ false = sym fact ∙ differ in cc

-- after a set, a look-up of `name` returns `id`, and every other look-up returns the same result as before
abbrev Reads : RefList → RefList → List ℕ → List ℕ → Type 0
Reads old new name id = (other : List ℕ) → ref_at new other ≡ cond (bytes_eq name other) (Some id) (ref_at old other)

reads_insert : (refs : RefList) (name id : List ℕ) (place : ℕ) → IsGap refs name place → Reads refs (insert refs place (name, id)) name id
reads_insert refs name id zero gap other = ref_at-cons (name, id) refs other
reads_insert [] name id (suc place) gap other = absurd gap
reads_insert (ref ∷ refs) name id (suc place) gap other =
    ref_at-cons ref (insert refs place (name, id)) other
    ∙ ap (λ o. cond (bytes_eq ref.0 other) (Some ref.1) o) (reads_insert refs name id place gap.1 other)
    ∙ swapped (bytes_eq ref.0 other) (bytes_eq name other) (Some ref.1) (Some id) (ref_at refs other) (not_both ref.0 name other (lower_differs ref.0 name gap.0))
    ∙ ap (λ o. cond (bytes_eq name other) (Some id) o) (sym (ref_at-cons ref refs other))

reads_set : (refs : RefList) (name id : List ℕ) (place : ℕ) → IsFound refs name place → Reads refs (set refs place (name, id)) name id
reads_set [] name id place found other = absurd found
reads_set (ref ∷ refs) name id zero found other =
    ref_at-cons (name, id) refs other
    ∙ merged (bytes_eq name other) (Some id) (Some ref.1) (ref_at refs other)
    ∙ ap (λ o. cond (bytes_eq name other) (Some id) o) (ap (λ (n : List ℕ). cond (bytes_eq n other) (Some ref.1) (ref_at refs other)) (sym found) ∙ sym (ref_at-cons ref refs other))
reads_set (ref ∷ refs) name id (suc place) found other =
    ref_at-cons ref (set refs place (name, id)) other
    ∙ ap (λ o. cond (bytes_eq ref.0 other) (Some ref.1) o) (reads_set refs name id place found.1 other)
    ∙ swapped (bytes_eq ref.0 other) (bytes_eq name other) (Some ref.1) (Some id) (ref_at refs other) (not_both ref.0 name other (lower_differs ref.0 name found.0))
    ∙ ap (λ o. cond (bytes_eq name other) (Some id) o) (sym (ref_at-cons ref refs other))

-- the ref is the one that was set, or a ref of the old list
abbrev OneOr : RefList → List ℕ → List ℕ → List ℕ × List ℕ → Type 0
OneOr old name id ref = (ref ≡ (name, id)) ⊎ Contains old ref

old_or : (old : RefList) (name id : List ℕ) → All (OneOr old name id) old
old_or old name id =
    let some : (ref : List ℕ × List ℕ) → Contains old ref → OneOr old name id ref = λ ref h. inr h in
    All-weaker (Contains old) (OneOr old name id) some old (All-contains_itself old)

sets_from_reads : (old new : RefList) (name id : List ℕ) → Reads old new name id → All (OneOr old name id) new
    → (ref_at old name ≡ None → length new ≡ length old + 1) → (ref_at old name ≢ None → length new ≡ length old) → SetsRef old new name id
sets_from_reads old new name id reads each one_more as_many = record {
  each = each;
  one_more = one_more;
  as_many = as_many;
  this_name = reads name ∙ ap (λ b. cond b (Some id) (ref_at old name)) (bytes_eq-itself name);
  others = λ other differs. reads other ∙ ap (λ b. cond b (Some id) (ref_at old other)) (other_false name other (bytes_eq name other) refl differs);
}

pub sets_insert : (refs : RefList) (name id : List ℕ) (place : ℕ) → IsRefs refs → IsGap refs name place → SetsRef refs (insert refs place (name, id)) name id
sets_insert refs name id place valid gap =
    let P : List ℕ × List ℕ → Type 0 = OneOr refs name id in
    let each = All-append P (take place refs) ((name, id) ∷ drop place refs) (All-take P place refs (old_or refs name id))
    (All-cons P (name, id) (drop place refs) (inl refl) (All-drop P place refs (old_or refs name id))) in
    sets_from_reads refs (insert refs place (name, id)) name id (reads_insert refs name id place gap) each
    (λ new. length-insert refs place (name, id) (gap_inside refs name place gap))
    (λ held. absurd (held (ref_at-gap refs name place valid.ascending gap)))

pub sets_set : (refs : RefList) (name id : List ℕ) (place : ℕ) → IsFound refs name place → SetsRef refs (set refs place (name, id)) name id
sets_set refs name id place found =
    let there = ref_at-found refs name place (name, id) found in
    sets_from_reads refs (set refs place (name, id)) name id (reads_set refs name id place found)
    (All-set (OneOr refs name id) refs place (name, id) (inl refl) (old_or refs name id))
    (λ new. (let clash = sym there ∙ new in cc))
    (λ held. length-set refs place (name, id))

keys_set : (refs : RefList) (name id : List ℕ) (place : ℕ) → IsFound refs name place → keys_of (set refs place (name, id)) ≡ keys_of refs
keys_set [] name id place found = absurd found
keys_set (ref ∷ refs) name id zero found = ap (λ key. key ∷ keys_of refs) (sym found)
keys_set (ref ∷ refs) name id (suc place) found = ap (λ keys. ref.0 ∷ keys) (keys_set refs name id place found.1)

-- an edited list of refs is valid

pub refs_insert : (refs : RefList) (name id : List ℕ) (place : ℕ) → IsRefs refs → IsBelowRefs name → length refs < max_refs → IsGap refs name place → IsRefs (insert refs place (name, id))
refs_insert refs name id place valid this room gap = record {
  names = All-append (λ ref. IsBelowRefs ref.0) (take place refs) ((name, id) ∷ drop place refs)
      (All-take (λ ref. IsBelowRefs ref.0) place refs valid.names)
      (All-cons (λ ref. IsBelowRefs ref.0) (name, id) (drop place refs) this (All-drop (λ ref. IsBelowRefs ref.0) place refs valid.names));
  ascending = sorted_insert refs name id place valid.ascending gap;
  few = omega (arith, length-insert refs place (name, id) (gap_inside refs name place gap));
}

pub refs_set : (refs : RefList) (name id : List ℕ) (place : ℕ) → IsRefs refs → IsBelowRefs name → IsFound refs name place → IsRefs (set refs place (name, id))
refs_set refs name id place valid this found = record {
  names = All-set (λ ref. IsBelowRefs ref.0) refs place (name, id) this valid.names;
  ascending = subst (IsStrictlySortedBy order) (sym (keys_set refs name id place found)) valid.ascending;
  few = rw (length-set refs place (name, id)) valid.few;
}

-- ---- a binary search

at_key : (P : List ℕ → Type 0) (refs : RefList) → AllByRecursion P (keys_of refs) → (j : ℕ) (d : List ℕ × List ℕ) → j < length refs → P (get_or refs j d).0
at_key P [] all j d lt = absurd (omega arith)
at_key P (ref ∷ refs) all zero d lt = all.0
at_key P (ref ∷ refs) all (suc j) d lt = at_key P refs all.1 j d (omega arith)

index_small : (o : Ordering) → ordering_index o ≤ 2
index_small Less = omega arith
index_small _ = omega arith

rises : (low high name : List ℕ) (o : Ordering) → order high name ≡ o → order low high ≡ Less → ordering_index (order low name) ≤ ordering_index o
rises low high name Less h below = rw (nat_list_cmp_total.trans low high name below h) (omega arith)
rises low high name Equal h below = rw (sym (alike_right nat_list_cmp_total high name low h) ∙ below) (omega arith)
rises low high name Greater h below = index_small (order low name)

pub comparisons_rise : (name : List ℕ) (refs : RefList) → IsStrictlySortedBy order (keys_of refs) → IsNonDecreasingBy (λ ref. ordering_index (order ref.0 name)) refs
comparisons_rise name [] sorted i j d le lt = absurd (omega arith)
comparisons_rise name (ref ∷ refs) sorted zero zero d le lt = omega arith
comparisons_rise name (ref ∷ refs) sorted zero (suc j) d le lt =
    let below = at_key (λ y. order ref.0 y ≡ Less) refs (sorted_head order ref.0 (keys_of refs) sorted) j d (omega arith) in
    rises ref.0 (get_or refs j d).0 name (order (get_or refs j d).0 name) refl below
comparisons_rise name (ref ∷ refs) sorted (suc i) zero d le lt = absurd (omega arith)
comparisons_rise name (ref ∷ refs) sorted (suc i) (suc j) d le lt = comparisons_rise name refs (sorted_tail order ref.0 (keys_of refs) sorted) i j d (omega arith) (omega arith)

found_holds : (P : List ℕ → Type 0) (refs : RefList) (name : List ℕ) (place : ℕ) → IsFound refs name place → AllByRecursion P (keys_of refs) → P name
found_holds P [] name place found all = absurd found
found_holds P (ref ∷ refs) name zero found all = subst P found all.0
found_holds P (ref ∷ refs) name (suc place) found all = found_holds P refs name place found.1 all.1

searched_ok : (name : List ℕ) (refs : RefList) → IsStrictlySortedBy order (keys_of refs) → (place : ℕ) → place < length refs → ((d : List ℕ × List ℕ) → order (get_or refs place d).0 name ≡ Equal) → IsFound refs name place
searched_ok name [] sorted place lt equal = absurd (omega arith)
searched_ok name (ref ∷ refs) sorted zero lt equal = exact_bytes ref.0 name (equal ref)
searched_ok name (ref ∷ refs) sorted (suc place) lt equal =
    let rest = searched_ok name refs (sorted_tail order ref.0 (keys_of refs) sorted) place (omega arith) equal in
    (found_holds (λ y. order ref.0 y ≡ Less) refs name place rest (sorted_head order ref.0 (keys_of refs) sorted), rest)

searched_err : (name : List ℕ) (refs : RefList) (place : ℕ) → place ≤ length refs → AllWithin (λ ref. order ref.0 name ≡ Less) refs 0 place → AllWithin (λ ref. order ref.0 name ≡ Greater) refs place (length refs) → IsGap refs name place
searched_err name [] zero le low high = tt
searched_err name [] (suc place) le low high = absurd (omega arith)
searched_err name (ref ∷ refs) zero le low high = unflipped ref.0 name (high 0 ref (omega arith) (omega arith))
searched_err name (ref ∷ refs) (suc place) le low high =
    (low 0 ref (omega arith) (omega arith), searched_err name refs place (omega arith) (λ k d lo hi. low (suc k) d (omega arith) (omega arith)) (λ k d lo hi. high (suc k) d (omega arith) (omega arith)))

pub searched : (name : List ℕ) (refs : RefList) → IsStrictlySortedBy order (keys_of refs) → (r : Result ℕ ℕ) → IsSearchInRange r (length refs) → IsBinarySearchResult (λ ref. order ref.0 name) refs r → MatchResult r (IsFound refs name) (IsGap refs name)
searched name refs sorted (Ok place) inside equal = searched_ok name refs sorted place inside equal
searched name refs sorted (Err place) inside parted =
    let parts = parted (comparisons_rise name refs sorted) in
    searched_err name refs place inside parts.0 parts.1

pub refs_none : IsRefs []
refs_none = record { names = All-nil (λ (ref : List ℕ × List ℕ). IsBelowRefs ref.0); ascending = sorted_none; few = omega arith }

-- ---- a ref that sorts after all others

pub gap_last : (refs : RefList) (name : List ℕ) → AreBelow refs name → IsGap refs name (length refs)
gap_last [] name below = tt
gap_last (ref ∷ refs) name below = (below.0, gap_last refs name below.1)

insert_last : (refs : RefList) (ref : List ℕ × List ℕ) → insert refs (length refs) ref ≡ refs ++ ref ∷ []
insert_last [] ref = refl
insert_last (first ∷ refs) ref = ap (λ (l : RefList). first ∷ l) (insert_last refs ref)

pub refs_push : (refs : RefList) (ref : List ℕ × List ℕ) → IsRefs refs → IsBelowRefs ref.0 → AreBelow refs ref.0 → length refs < max_refs → IsRefs (refs ++ ref ∷ [])
refs_push refs ref valid name below room =
    subst IsRefs (insert_last refs ref) (refs_insert refs ref.0 ref.1 (length refs) valid name room (gap_last refs ref.0 below))

tail_last : (ref second : List ℕ × List ℕ) (refs : RefList) (last : List ℕ × List ℕ) → slice_get (ref ∷ (second ∷ refs)) (length (ref ∷ (second ∷ refs)) - 1) ≡ Some last → slice_get (second ∷ refs) (length (second ∷ refs) - 1) ≡ Some last
tail_last ref second refs last here =
    let e : suc (suc (length refs)) - 1 ≡ suc (suc (length refs) - 1) = omega arith in
    subst (λ n. slice_get (ref ∷ (second ∷ refs)) n ≡ Some last) e here

-- if the last name sorts before a name, all names of the list sort before this name
last_below : (refs : RefList) (last : List ℕ × List ℕ) (name : List ℕ) → slice_get refs (length refs - 1) ≡ Some last → IsStrictlySortedBy order (keys_of refs) → order last.0 name ≡ Less → AreBelow refs name
last_below [] last name here sorted below = tt
last_below (ref ∷ []) last name here sorted below = (subst (λ (r : List ℕ × List ℕ). order r.0 name ≡ Less) (sym (same_Some ref last here)) below, tt)
last_below (ref ∷ (second ∷ refs)) last name here sorted below =
    let rest = last_below (second ∷ refs) last name (tail_last ref second refs last here) (sorted_tail order ref.0 (keys_of (second ∷ refs)) sorted) below in
    let next = (sorted_head order ref.0 (keys_of (second ∷ refs)) sorted).0 in
    (nat_list_cmp_total.trans ref.0 second.0 name next rest.0, rest)

below_last : (refs : RefList) (last : List ℕ × List ℕ) (name : List ℕ) → slice_get refs (length refs - 1) ≡ Some last → AreBelow refs name → order last.0 name ≡ Less
below_last [] last name here below = cc
below_last (ref ∷ []) last name here below = subst (λ (r : List ℕ × List ℕ). order r.0 name ≡ Less) (same_Some ref last here) below.0
below_last (ref ∷ (second ∷ refs)) last name here below = below_last (second ∷ refs) last name (tail_last ref second refs last here) below.1

lower_less : (o : Ordering) → is_lt o ≡ true → o ≡ Less
lower_less Less h = refl
lower_less _ h = cc

-- the comparison of the last name with a name decides whether all names sort before it
pub last_decides : (refs : RefList) (last : List ℕ × List ℕ) (name : List ℕ) (r : Bool) → slice_get refs (length refs - 1) ≡ Some last → IsRefs refs → r ≡ is_lt (order last.0 name) → (r ≡ true → AreBelow refs name) × (AreBelow refs name → r ≡ true)
last_decides refs last name r here valid e = (
  λ yes_lower. last_below refs last name here valid.ascending (lower_less (order last.0 name) (sym e ∙ yes_lower)),
  λ below. e ∙ ap is_lt (below_last refs last name here below),
)

-- ---- each ref could be appended to the refs before it

name_at : (front : RefList) (x : List ℕ × List ℕ) (back : RefList) → All (λ ref. IsBelowRefs ref.0) (front ++ x ∷ back) → IsBelowRefs x.0
name_at [] x back all = All-head (λ (ref : List ℕ × List ℕ). IsBelowRefs ref.0) x back all
name_at (y ∷ front) x back all = name_at front x back (All-tail (λ (ref : List ℕ × List ℕ). IsBelowRefs ref.0) y (front ++ x ∷ back) all)

key_at : (P : List ℕ → Type 0) (front : RefList) (x : List ℕ × List ℕ) (back : RefList) → AllByRecursion P (keys_of (front ++ x ∷ back)) → P x.0
key_at P [] x back all = all.0
key_at P (y ∷ front) x back all = key_at P front x back all.1

above_front : (front : RefList) (x : List ℕ × List ℕ) (back : RefList) → IsStrictlySortedBy order (keys_of (front ++ x ∷ back)) → AreBelow front x.0
above_front [] x back sorted = tt
above_front (y ∷ front) x back sorted = (
  key_at (λ (k : List ℕ). order y.0 k ≡ Less) front x back (sorted_head order y.0 (keys_of (front ++ x ∷ back)) sorted),
  above_front front x back (sorted_tail order y.0 (keys_of (front ++ x ∷ back)) sorted),
)

pub refs_come_in_order : RefsComeInOrder
refs_come_in_order front ref back refs = record {
  below = name_at front ref back refs.names;
  above = above_front front ref back refs.ascending;
  room = let few = refs.few in omega (arith, length-append front (ref ∷ back), few);
}
