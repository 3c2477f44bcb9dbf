-- Requested ref updates, and the pairs of the map that stores them.
use Rattle.std.proofs.Common.{◌≡◌, ◌≢◌, ◌||◌, ◌≤◌, ℕ, Bool, true, false, cond, if◌then◌else◌, nat_eq, List, [], ◌∷◌, ◌++◌, length, map, get_or, Option, None, Some, refl, sym, ap, ◌∙◌, arith}
use Rattle.std.proofs.lemmas.Bool.{false≢true}
use Rattle.std.proofs.lemmas.Cmp.{nat_list_eq_equiv}
use Rattle.std.proofs.lemmas.List.{length-map, map-append}
use Rattle.std.proofs.lemmas.List.Folds.{list_any_at}
use Rattle.std.proofs.lemmas.List.Quantifiers.{all_pairs_push}
use Rattle.std.proofs.lemmas.Option.{slice_get-map}
use Rattle.std.proofs.lemmas.Slice.Eq.{bytes_eq-Decides}
use Rattle.std.specs.Borrow.{Bor}
use Rattle.std.specs.Cmp.Lexicographic.{pointwise}
use Rattle.std.specs.List.{slice_get}
use Rattle.std.specs.Map.{lookup, values_of}
use Rattle.std.specs.Map.Iter.{deref_pair}
use Rattle.std.specs.Option.{is_some, option_map, MatchOption}
use Rattle.std.specs.Str.{bytes_eq}
use Rattle.indexmap.specs.IndexMap.{IndexMap, insert_entry}
use Rattle.indexmap.proofs.CallerLemmas.{insert_entry-new}
use Rattle.gdag.proofs.Pairs.{past}
use Rattle.gclientrepo.specs.Asks.{NamesDiffer, ask_of_aim, asked_ids, asks_of, is_asked, with_ask}
use Rattle.gclientrepo.specs.declared.ask.Ask.{Ask}
use Rattle.gclientrepo.specs.declared.asks.Aim.{Aim}

-- an option without a value is `None`
none_there : {X : Type 0} (found : Option X) → is_some found ≡ false → found ≡ None
none_there None absent = refl
none_there (Some x) absent = absurd (false≢true (sym absent))

asked_step : (same : Bool) (aim : Aim) (found : Option Aim) (rest : Bool) → is_some found ≡ rest → is_some (cond same (Some aim) found) ≡ (same || rest)
asked_step true aim found rest is = refl
asked_step false aim found rest is = is

module _ (A : Type 0) where
  abbrev asks_here : List (List ℕ × Aim) → List (Ask A)
  asks_here pairs = asks_of pairs

  -- a look-up in the map finds a name exactly if an update of the ref with this name is requested
  pub asked_pairs : (pairs : List (List ℕ × Aim)) (name : List ℕ) → is_some (lookup (pointwise nat_eq name) pairs) ≡ is_asked (asks_here pairs) name
  asked_pairs [] name = refl
  asked_pairs (pair ∷ pairs) name =
      ap (λ (b : Bool). is_some (cond b (Some pair.1) (lookup (pointwise nat_eq name) pairs))) (nat_list_eq_equiv.symm name pair.0)
      ∙ asked_step (pointwise nat_eq pair.0 name) pair.1 (lookup (pointwise nat_eq name) pairs) (is_asked (asks_here pairs) name) (asked_pairs pairs name)

  -- inserting a pair with a new name appends a requested update
  pub pushed_asks : {S : Type 0} (m : IndexMap (List ℕ) Aim S) (new : List (List ℕ × Aim)) (name : List ℕ) (aim : Aim) → is_asked (asks_here m.entries) name ≡ false
      → new ≡ insert_entry (pointwise nat_eq) m.entries name aim → asks_here new ≡ asks_here m.entries ++ ask_of_aim (name, aim) ∷ []
  pushed_asks m new name aim absent is =
      ap asks_here (is ∙ insert_entry-new (pointwise nat_eq) m name aim (none_there (lookup (pointwise nat_eq name) m.entries) (asked_pairs m.entries name ∙ absent)))
      ∙ map-append (λ (pair : List ℕ × Aim). ask_of_aim pair) m.entries ((name, aim) ∷ [])

  -- adding a requested update of a ref for which the list has no update yet
  pub with_ask_new : (asks : List (Ask A)) (ask : Ask A) → is_asked asks ask.name ≡ false → with_ask asks ask ≡ asks ++ ask ∷ []
  with_ask_new asks ask absent = ap (λ (b : Bool). if b then asks else asks ++ ask ∷ []) absent

  pub with_ask_there : (asks : List (Ask A)) (ask : Ask A) → is_asked asks ask.name ≡ true → with_ask asks ask ≡ asks
  with_ask_there asks ask there = ap (λ (b : Bool). if b then asks else asks ++ ask ∷ []) there

  pub differ_push : (asks : List (Ask A)) (ask : Ask A) → NamesDiffer asks → is_asked asks ask.name ≡ false → NamesDiffer (asks ++ ask ∷ [])
  differ_push asks ask differ absent =
      all_pairs_push (λ (a b : Ask A). a.name ≢ b.name) asks ask differ
      (λ k d low. λ same.
      false≢true (sym absent ∙ list_any_at (λ (a : Ask A). bytes_eq a.name ask.name) asks k d low ((bytes_eq-Decides (get_or asks k d).name ask.name).1 same)))

  -- the result of a look-up by position
  pub at_place : (pairs : List (List ℕ × Aim)) (k : ℕ) (found : Option (Bor (List ℕ) × Bor Aim)) → option_map deref_pair found ≡ slice_get pairs k
      → MatchOption found (length (asks_here pairs) ≤ k) (λ pair. slice_get (asks_here pairs) k ≡ Some (ask_of_aim (pair.0.now, pair.1.now)))
  at_place pairs k None is = let n = length-map pairs (λ (pair : List ℕ × Aim). ask_of_aim {A = A} pair) in let h = past pairs k is in omega arith
  at_place pairs k (Some pair) is = slice_get-map (λ (p : List ℕ × Aim). ask_of_aim {A = A} p) pairs k ∙ ap (option_map (λ (p : List ℕ × Aim). ask_of_aim {A = A} p)) (sym is)

  -- the ids in the map are the new ids of the requested updates
  pub ids_pairs : (pairs : List (List ℕ × Aim)) → map (λ aim. aim.id) (values_of pairs) ≡ asked_ids (asks_here pairs)
  ids_pairs [] = refl
  ids_pairs (pair ∷ pairs) = ap (λ (ids : List (List ℕ)). pair.1.id ∷ ids) (ids_pairs pairs)
