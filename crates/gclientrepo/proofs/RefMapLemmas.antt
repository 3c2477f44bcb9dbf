-- Refs in a map, in the order of their names.
use Rattle.std.proofs.Common.{◌≡◌, ◌≢◌, ◌⊎◌, inl, inr, ℕ, ◌+◌, ◌<◌, Bool, true, false, cond, if◌then◌else◌, ◌≤◌, List, [], ◌∷◌, ◌++◌, length, take, drop, get_or, All, Contains, Option, None, Some, nat_lt, refl, sym, ap, ◌∙◌, subst, arith}
use Rattle.std.proofs.lemmas.Bool.{ltb-false, ltb-true}
use Rattle.std.proofs.lemmas.Cmp.{nat_list_eq_equiv}
use Rattle.std.proofs.lemmas.List.{drop_more, take-append-drop, take_more}
use Rattle.std.proofs.lemmas.List.Elements.{All-cons, All-contains, All-contains_itself, All-nil, All-weaker}
use Rattle.std.proofs.lemmas.Map.Lookups.{exact_bytes}
use Rattle.std.proofs.lemmas.Map.Text.{is_eq-slice_cmp}
use Rattle.std.proofs.lemmas.Option.{none-some}
use Rattle.std.specs.BTreeMap.{insert_entry, is_at}
use Rattle.std.specs.List.{find}
use Rattle.std.specs.Map.{lookup}
use Rattle.std.specs.Option.{is_some, option_map}
use Rattle.std.specs.Ordering.{is_eq, match_ordering}
use Rattle.std.specs.Str.{bytes_eq}
use Rattle.std.specs.declared.cmp.Ordering.{Ordering}
use Rattle.std.specs.declared.cmp.Ordering.TheVariants.{Less, Equal, Greater}
use Rattle.grefs.specs.Laws.{RefsComeInOrder}
use Rattle.grefs.specs.RefLists.{AreBelow, CannotSet, IsBelowRefs, IsRefs, RefList, SetsRef, has_name, max_refs, ref_at}
use Rattle.grefs.proofs.RefLemmas.{flipped, order, other_false}
use Rattle.gdag.proofs.IdLists.{contains_head, contains_tail, either_way}

-- ---- look-ups

same_test : (name key : List ℕ) → is_eq (order name key) ≡ bytes_eq key name
same_test name key = is_eq-slice_cmp name key ∙ nat_list_eq_equiv.symm name key

at_step : (same : Bool) (ref : List ℕ × List ℕ) (found : Option (List ℕ × List ℕ)) (rest : Option (List ℕ)) → rest ≡ option_map (λ (r : List ℕ × List ℕ). r.1) found
    → cond same (Some ref.1) rest ≡ option_map (λ (r : List ℕ × List ℕ). r.1) (cond same (Some ref) found)
at_step true ref found rest is = refl
at_step false ref found rest is = is

-- a look-up in the map returns the same id as a look-up in the list of refs
pub lookup_ref : (refs : RefList) (name : List ℕ) → lookup (is_at (order name)) refs ≡ ref_at refs name
lookup_ref [] name = refl
lookup_ref (ref ∷ refs) name =
    ap (λ (b : Bool). cond b (Some ref.1) (lookup (is_at (order name)) refs)) (same_test name ref.0)
    ∙ at_step (bytes_eq ref.0 name) ref (find (has_name name) refs) (lookup (is_at (order name)) refs) (lookup_ref refs name)

pub at_other : (name other : List ℕ) → other ≢ name → is_at (order name) other ≡ false
at_other name other differs = is_eq-slice_cmp name other ∙ other_false name other (bytes_eq name other) refl differs

-- ---- setting a name to an id

abbrev Either : List ℕ → List ℕ → RefList → List ℕ × List ℕ → Type 0
Either name id old ref = (ref ≡ (name, id)) ⊎ Contains old ref

either_more : (name id : List ℕ) (ref : List ℕ × List ℕ) (refs new : RefList) → All (Either name id refs) new → All (Either name id (ref ∷ refs)) new
either_more name id ref refs new each =
    All-weaker (Either name id refs) (Either name id (ref ∷ refs)) (λ r either. elim either [ inl is ↦ inl is | inr there ↦ inr (contains_tail ref refs r there) ]) new each

each_old : (name id : List ℕ) (refs : RefList) → All (Either name id refs) refs
each_old name id refs = All-weaker (Contains refs) (Either name id refs) (λ r there. inr there) refs (All-contains_itself refs)

each_step : (name id : List ℕ) (ref : List ℕ × List ℕ) (refs : RefList) (o : Ordering) → order name ref.0 ≡ o → All (Either name id refs) (insert_entry order refs name id)
    → All (Either name id (ref ∷ refs)) (match_ordering o ((name, id) ∷ ref ∷ refs) ((ref.0, id) ∷ refs) (ref ∷ insert_entry order refs name id))
each_step name id ref refs Less is rest = All-cons (Either name id (ref ∷ refs)) (name, id) (ref ∷ refs) (inl refl) (each_old name id (ref ∷ refs))
each_step name id ref refs Equal is rest =
    All-cons (Either name id (ref ∷ refs)) (ref.0, id) refs (inl (ap (λ (n : List ℕ). (n, id)) (sym (exact_bytes name ref.0 is))))
    (either_more name id ref refs refs (each_old name id refs))
each_step name id ref refs Greater is rest =
    All-cons (Either name id (ref ∷ refs)) ref (insert_entry order refs name id) (inr (contains_head ref refs)) (either_more name id ref refs (insert_entry order refs name id) rest)

-- after a ref is set, each ref is this ref or an old ref
pub each_set : (refs : RefList) (name id : List ℕ) → All (Either name id refs) (insert_entry order refs name id)
each_set [] name id = All-cons (Either name id []) (name, id) [] (inl refl) (All-nil (Either name id []))
each_set (ref ∷ refs) name id = each_step name id ref refs (order name ref.0) refl (each_set refs name id)

-- after a ref is set, all names are below refs/
pub names_set : (refs : RefList) (name id : List ℕ) → All (λ ref. IsBelowRefs ref.0) refs → IsBelowRefs name → All (λ ref. IsBelowRefs ref.0) (insert_entry order refs name id)
names_set refs name id below is =
    let P : List ℕ × List ℕ → Type 0 = λ ref. IsBelowRefs ref.0 in
    All-weaker (Either name id refs) P
    (λ ref either. elim either [ inl same ↦ subst P (sym same) is | inr there ↦ All-contains P refs ref below there ]) (insert_entry order refs name id) (each_set refs name id)

-- ---- a name that sorts after all others

pub set_last : (refs : RefList) (name id : List ℕ) → AreBelow refs name → insert_entry order refs name id ≡ refs ++ (name, id) ∷ []
set_last [] name id below = refl
set_last (ref ∷ refs) name id below =
    ap (λ (o : Ordering). match_ordering o ((name, id) ∷ ref ∷ refs) ((ref.0, id) ∷ refs) (ref ∷ insert_entry order refs name id)) (flipped ref.0 name below.0)
    ∙ ap (λ (l : RefList). ref ∷ l) (set_last refs name id below.1)

-- inserting the next ref of a sorted list appends this ref
pub copied_more : RefsComeInOrder → (refs : RefList) (place : ℕ) (ref : List ℕ × List ℕ) → IsRefs refs → place < length refs → get_or refs place ref ≡ ref
    → insert_entry order (take place refs) ref.0 ref.1 ≡ take (place + 1) refs
copied_more law refs place ref are inside is =
    let parts : refs ≡ take place refs ++ ref ∷ drop (place + 1) refs =
    sym (take-append-drop place refs) ∙ ap (λ (l : RefList). take place refs ++ l) (drop_more refs place ref inside ∙ ap (λ (r : List ℕ × List ℕ). r ∷ drop (place + 1) refs) is) in
    let below = (law (take place refs) ref (drop (place + 1) refs) (subst IsRefs parts are)).above in
    set_last (take place refs) ref.0 ref.1 below ∙ sym (take_more refs place ref inside ∙ ap (λ (r : List ℕ × List ℕ). take place refs ++ r ∷ []) is)

-- ---- the number of refs

-- the number of refs that setting a ref adds: 1 if a look-up finds no id, otherwise 0
abbrev pub more_where : Option (List ℕ) → ℕ
more_where found = if is_some found then 0 else 1

grown : (found : Option (List ℕ)) → more_where found ≤ 1
grown None = omega arith
grown (Some id) = omega arith

count_there : (found : Option (List ℕ)) → found ≢ None → more_where found ≡ 0
count_there None some = absurd (some refl)
count_there (Some id) some = refl

-- the new list has one more ref if the name is new, otherwise as many refs as the old list
abbrev pub CountsSet : RefList → List ℕ → RefList → Type 0
CountsSet old name new = length new ≡ length old + more_where (lookup (is_at (order name)) old)

-- if a name can be set, the name already has a ref, or there is room for one more ref
pub room_for : (old : RefList) (name : List ℕ) (there : Option (List ℕ)) → ref_at old name ≡ there → ¬ (CannotSet old name)
    → length old ≤ max_refs → (length old < max_refs) ⊎ (ref_at old name ≢ None)
room_for old name (Some id) is can few = inr (λ none. none-some id (sym none ∙ is))
room_for old name None is can few =
    either_way (nat_lt (length old) max_refs) (λ low. inl (ltb-true (length old) max_refs low))
    (λ connected. absurd (can (inr (is, (let least = ltb-false (length old) max_refs connected in omega (arith, least, few))))))

pub few_set : (old new : RefList) (name : List ℕ) → (length old < max_refs) ⊎ (ref_at old name ≢ None) → length old ≤ max_refs → CountsSet old name new → length new ≤ max_refs
few_set old new name (inl low) few count = let one = grown (lookup (is_at (order name)) old) in omega (arith, low, one, count)
few_set old new name (inr there) few count =
    let none = count_there (lookup (is_at (order name)) old) (λ no. there (sym (lookup_ref old name) ∙ no)) in
    omega (arith, few, none, count)

-- an insertion into the map sets the ref with this name, and changes no other ref
pub is_set : (old new : RefList) (name id : List ℕ) → new ≡ insert_entry order old name id → lookup (is_at (order name)) new ≡ Some id
    → ((other : List ℕ) → is_at (order name) other ≡ false → lookup (is_at (order other)) new ≡ lookup (is_at (order other)) old) → CountsSet old name new → SetsRef old new name id
is_set old new name id is at others count = record {
  this_name = sym (lookup_ref new name) ∙ at;
  others = λ other differs. sym (lookup_ref new other) ∙ others other (at_other name other differs) ∙ lookup_ref old other;
  each = subst (All (Either name id old)) (sym is) (each_set old name id);
  one_more = λ none. (
      let one : more_where (lookup (is_at (order name)) old) ≡ 1 = ap more_where (lookup_ref old name ∙ none) in
      omega (arith, one, count)
      );
  as_many = λ there. (
      let none = count_there (lookup (is_at (order name)) old) (λ no. there (sym (lookup_ref old name) ∙ no)) in
      omega (arith, none, count)
      );
}
