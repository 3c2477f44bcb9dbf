-- Settling one requested update after another.
use Rattle.std.proofs.Common.{◌≡◌, ◌≢◌, inl, inr, ℕ, ◌+◌, ◌<◌, Bool, true, false, cond, List, [], ◌∷◌, ◌++◌, length, take, get_or, map, All, Contains, count_by, Option, None, Some, refl, sym, ap, ◌∙◌, subst, arith}
use Rattle.std.proofs.lemmas.List.{get_or_default, get_or-map, get_or-take, length-map, length-take}
use Rattle.std.proofs.lemmas.List.Elements.{All-contains, All-map, All-more, All-nil, All-push}
use Rattle.std.proofs.lemmas.List.Sums.{count_by_more_yes, sum_by_push, sum_by-take-le}
use Rattle.std.specs.List.{AllZip}
use Rattle.std.specs.Option.{is_none}
use Rattle.gname.specs.Names.{head_name}
use Rattle.gname.proofs.ListLemmas.{All-parts}
use Rattle.gobject.specs.declared.node.Entry.{Entry}
use Rattle.grefs.specs.RefLists.{RefList, CannotSet, SetsRef, ref_at}
use Rattle.gclientrepo.specs.Settling.{CannotSettle, IsUpdate, MayMove, NamesDiffer, asked_ids, is_new}
use Rattle.gclientrepo.specs.declared.ask.Ask.{Ask}
use Rattle.gclientrepo.specs.declared.ask.RefUpdate.{RefUpdate}
use Rattle.gclientrepo.specs.declared.ask.RefUpdate.TheVariants.{Moved, Same, NotForward}
use Rattle.gclientrepo.specs.steps.Settling.{HasSettled, Sets}

-- appending one more element to each of two lists
pub zip_push : {X Y : Type 0} (R : X → Y → Type 0) (xs : List X) (ys : List Y) (x : X) (y : Y) → AllZip R xs ys → R x y → AllZip R (xs ++ x ∷ []) (ys ++ y ∷ [])
zip_push R [] [] x y all is = (is, tt)
zip_push R [] (b ∷ ys) x y all is = absurd all
zip_push R (a ∷ xs) [] x y all is = absurd all
zip_push R (a ∷ xs) (b ∷ ys) x y all is = (all.0, zip_push R xs ys x y all.1 is)

-- a ref that has an id is not new
not_new : (there : Option (List ℕ)) → there ≢ None → is_none there ≡ false
not_new None some = absurd (some refl)
not_new (Some id) some = refl

module _ {A : Type 0} where
  -- an empty list of requested updates is settled if the refs are unchanged
  pub settles_none : (g : List (Entry A)) (old : RefList) → HasSettled g old [] [] old
  settles_none g old = record {
    settles = record { each = tt; asked = All-nil (λ (ask : Ask A). MayMove g old ask → ref_at old ask.name ≡ Some ask.id); others = λ name all. refl };
    count = omega arith;
  }

  -- the updates of `front` are for other refs than the update `ask`
  abbrev Differ : List (Ask A) → Ask A → Type 0
  Differ front ask = All (λ other. other.name ≢ ask.name) front

  -- the ref of the next update still has its old id
  unmoved : (g : List (Entry A)) (old : RefList) (front : List (Ask A)) (updates : List RefUpdate) (before : RefList) (ask : Ask A)
      → HasSettled g old front updates before → Differ front ask → ref_at before ask.name ≡ ref_at old ask.name
  unmoved g old front updates before ask settled differ = settled.settles.others ask.name (λ k d low may. differ k d low)

  -- the number of updates of new refs, with one more update
  count_next : (old : RefList) (front : List (Ask A)) (ask : Ask A) (b : Bool) → is_new old ask ≡ b
      → count_by (is_new old) (front ++ ask ∷ []) ≡ count_by (is_new old) front + cond b 1 0
  count_next old front ask b is = sum_by_push (λ (a : Ask A). cond (is_new old a) 1 0) front ask ∙ ap (λ (c : Bool). count_by (is_new old) front + cond c 1 0) is

  -- the number of refs after one more ref is set
  count_set : (old before after : RefList) (front : List (Ask A)) (ask : Ask A) (there : Option (List ℕ)) → ref_at old ask.name ≡ there → ref_at before ask.name ≡ there
      → SetsRef before after ask.name ask.id → length before ≡ length old + count_by (is_new old) front
      → length after ≡ length old + count_by (is_new old) (front ++ ask ∷ [])
  count_set old before after front ask None was is sets count =
      let one = sets.one_more is in
      let next = count_next old front ask true (ap is_none was) in
      omega (arith, one, next, count)
  count_set old before after front ask (Some id) was is sets count =
      let same = sets.as_many (λ none. (cc (sym is ∙ none))) in
      let next = count_next old front ask false (ap is_none was) in
      omega (arith, same, next, count)

  settles_move : (g : List (Entry A)) (old : RefList) (front : List (Ask A)) (updates : List RefUpdate) (before after : RefList) (ask : Ask A)
      → HasSettled g old front updates before → Differ front ask → IsUpdate g old ask Moved → SetsRef before after ask.name ask.id
      → HasSettled g old (front ++ ask ∷ []) (updates ++ Moved ∷ []) after
  settles_move g old front updates before after ask settled differ update sets =
      let Stands : Ask A → Type 0 = λ a. MayMove g old a → ref_at after a.name ≡ Some a.id in
      record {
        settles = record {
          each = zip_push (IsUpdate g old) front updates ask Moved settled.settles.each update;
          asked = All-push Stands front ask (λ k d low may. sets.others _ (differ k d low) ∙ settled.settles.asked k d low may) (λ may. sets.this_name);
          others = λ name stay.
              let parts = All-parts (λ (a : Ask A). MayMove g old a → a.name ≢ name) front ask stay in
              sets.others name (λ same. parts.1 update.1 (sym same)) ∙ settled.settles.others name parts.0;
        };
        count = count_set old before after front ask (ref_at old ask.name) refl (unmoved g old front updates before ask settled differ) sets settled.count;
      }

  -- settling an update that does not move its ref
  settles_stay : (g : List (Entry A)) (old : RefList) (front : List (Ask A)) (updates : List RefUpdate) (before : RefList) (ask : Ask A) (update : RefUpdate)
      → HasSettled g old front updates before → IsUpdate g old ask update → (MayMove g old ask → ref_at before ask.name ≡ Some ask.id) → is_new old ask ≡ false
      → HasSettled g old (front ++ ask ∷ []) (updates ++ update ∷ []) before
  settles_stay g old front updates before ask update settled is stands known = record {
    settles = record {
      each = zip_push (IsUpdate g old) front updates ask update settled.settles.each is;
      asked = All-push (λ (a : Ask A). MayMove g old a → ref_at before a.name ≡ Some a.id) front ask settled.settles.asked stands;
      others = λ name stay. settled.settles.others name (All-parts (λ (a : Ask A). MayMove g old a → a.name ≢ name) front ask stay).0;
    };
    count = (let next = count_next old front ask false known in let count = settled.count in omega (arith, next, count));
  }

  pub settles_more : (g : List (Entry A)) (old : RefList) (front : List (Ask A)) (updates : List RefUpdate) (before after : RefList) (ask : Ask A) (update : RefUpdate)
      → HasSettled g old front updates before → Differ front ask → IsUpdate g old ask update → Sets update before ask after
      → HasSettled g old (front ++ ask ∷ []) (updates ++ update ∷ []) after
  settles_more g old front updates before after ask Moved settled differ is sets = settles_move g old front updates before after ask settled differ is sets
  settles_more g old front updates before after ask Same settled differ is sets =
      subst (HasSettled g old (front ++ ask ∷ []) (updates ++ Same ∷ [])) (sym sets)
      (settles_stay g old front updates before ask Same settled is (λ may. unmoved g old front updates before ask settled differ ∙ is) (ap is_none is))
  settles_more g old front updates before after ask NotForward settled differ is sets =
      subst (HasSettled g old (front ++ ask ∷ []) (updates ++ NotForward ∷ [])) (sym sets)
      (settles_stay g old front updates before ask NotForward settled is (λ may. absurd (is.1 may)) (not_new (ref_at old ask.name) (λ none. is.1 (inl none))))

  -- the updates before a requested update are for other refs
  pub differ_before : (asks : List (Ask A)) (place : ℕ) (ask : Ask A) → NamesDiffer asks → place < length asks → get_or asks place ask ≡ ask → Differ (take place asks) ask
  differ_before asks place ask differ inside is k d low =
      let long = length-take place asks in
      let before : k < place = omega (arith, low, long) in
      let there : get_or asks place d ≡ ask = get_or_default asks place d ask inside ∙ is in
      λ same. differ k place d before inside (ap (λ (a : Ask A). a.name) (sym (get_or-take place asks k d before)) ∙ same ∙ ap (λ (a : Ask A). a.name) (sym there))

  -- if a requested update is for HEAD, HEAD is one of the names in the list
  pub head_at : (asks : List (Ask A)) (place : ℕ) (ask : Ask A) → place < length asks → get_or asks place ask ≡ ask → ask.name ≡ head_name → Contains (map (λ a. a.name) asks) head_name
  head_at asks place ask inside is head =
      let name : Ask A → List ℕ = λ a. a.name in
      (place, (let same = length-map asks name in omega (arith, inside, same)), get_or-map name asks place ask head_name inside ∙ ap name is ∙ head)

  -- no requested update is for HEAD
  abbrev pub NoHead : List (Ask A) → Type 0
  NoHead asks = All (λ ask. ask.name ≢ head_name) asks

  pub no_head_more : (asks : List (Ask A)) (place : ℕ) (ask : Ask A) → place < length asks → get_or asks place ask ≡ ask → NoHead (take place asks) → ask.name ≢ head_name
      → NoHead (take (place + 1) asks)
  no_head_more asks place ask inside is none differs =
      let Other : Ask A → Type 0 = λ a. a.name ≢ head_name in
      All-more Other asks place ask inside none (subst Other (sym is) differs)

  pub no_head_there : (asks : List (Ask A)) → NoHead asks → ¬ (Contains (map (λ a. a.name) asks) head_name)
  no_head_there asks none there =
      let Other : List ℕ → Type 0 = λ name. name ≢ head_name in
      All-contains Other (map (λ (a : Ask A). a.name) asks) head_name (All-map Other (λ (a : Ask A). a.name) asks none) there refl

  -- the new id of a requested update is one of the new ids of the list
  pub asked_there : (asks : List (Ask A)) (place : ℕ) (ask : Ask A) → place < length asks → get_or asks place ask ≡ ask → Contains (asked_ids asks) ask.id
  asked_there asks place ask inside is =
      let id : Ask A → List ℕ = λ a. a.id in
      (place, (let same = length-map asks id in omega (arith, inside, same)), get_or-map id asks place ask ask.id inside ∙ ap id is)

  -- if the ref of an update can't be set, the requested updates can't be settled
  pub cannot_settle : (g : List (Entry A)) (old : RefList) (asks : List (Ask A)) (place : ℕ) (updates : List RefUpdate) (before : RefList) (ask : Ask A)
      → NamesDiffer asks → place < length asks → get_or asks place ask ≡ ask → HasSettled g old (take place asks) updates before → CannotSet before ask.name → CannotSettle old asks
  cannot_settle g old asks place updates before ask differ inside is settled (inl head) =
      inl (head_at asks place ask inside is head)
  cannot_settle g old asks place updates before ask differ inside is settled (inr connected) =
      let new : is_new old ask ≡ true = ap is_none (sym (unmoved g old (take place asks) updates before ask settled (differ_before asks place ask differ inside is)) ∙ connected.0) in
      let next = count_by_more_yes (is_new old) asks place ask inside (ap (is_new old) is ∙ new) in
      let all = sum_by-take-le (λ (a : Ask A). cond (is_new old a) 1 0) asks (place + 1) in
      let count = settled.count in
      inr (omega (arith, next, all, count, connected.1))
