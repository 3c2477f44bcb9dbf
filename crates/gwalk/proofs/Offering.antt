-- The ids to offer among the ids that a walk from the tips has visited, selected by marks.
use Rattle.std.proofs.Common.{◌≡◌, ◌↔◌, inl, inr, ℕ, zero, suc, ◌≤◌, Bool, true, false, ◌&&◌, not, cond, List, [], ◌∷◌, ◌++◌, length, get_or, take, filter, is_some, All, Contains, Option, Some, refl, sym, subst, ap, ap₂, ◌∙◌, arith, append_assoc, append-nil, take_all}
use Rattle.std.proofs.Math.Seq.{take-append_seam}
use Rattle.std.specs.List.{slice_get}
use Rattle.std.specs.Option.{option_map}
use Rattle.std.proofs.lemmas.List.Elements.{All-head, All-tail, Contains-append_left, Contains-append_right, Contains-get_or, filter-append}
use Rattle.gobject.specs.declared.node.Entry.{Entry}
use Rattle.gobject.specs.Objects.{node_at, position_of}
use Rattle.gdag.specs.Levels.{is_in, new_ids, parents_of_each, level, levels_below, AreLevels}
use Rattle.gdag.specs.Laws.{LevelsAreDistances}
use Rattle.gdag.specs.Offer.{IsOffer, MayBeOffered}
use Rattle.gwalk.specs.Offers.{AreReached, IsUnderway, IsWalked}
use Rattle.gwalk.specs.Walks.{HasMet, places}
use Rattle.gwalk.specs.steps.Offers.{HasMarks}
use Rattle.gdag.proofs.IdLists.{either_way, contains_cases, contains_from_in, contains_head, contains_tail, in_from_contains, nothing_in_nil, absent_from_in}
use Rattle.gdag.proofs.Reaching.{node_at_none, held_at_position}
use Rattle.gwalk.proofs.LevelWalk.{met_reached, reached_met}
use Rattle.gdag.proofs.Choosing.{filter_selects}
use Rattle.std.proofs.lemmas.Bool.{and_parts, and_from, not-true, not_from_false, false_from_ne_true}
use Rattle.gwalk.proofs.Looking.{new_same}
use Rattle.gwalk.proofs.Reached.{found_at}
use Rattle.gwalk.proofs.Walking.{IsNext, ends_levels, none_left, placed}

-- ---- the test of an id, for a list `reached` of all ids that a common id reaches

abbrev pub is_untold : {A : Type 0} → List (Entry A) → List (List ℕ) → List (List ℕ) → List ℕ → Bool
is_untold g reached sent a = is_some (node_at g a) && (not (is_in reached a) && not (is_in sent a))

module _ {A : Type 0} (g : List (Entry A)) (commons reached sent : List (List ℕ)) (levels : AreLevels g commons reached) where
  untold_from : (a : List ℕ) → is_untold g reached sent a ≡ true → MayBeOffered g commons sent a
  untold_from a e =
      let parts = and_parts (is_some (node_at g a)) _ e in
      let both = and_parts (not (is_in reached a)) _ parts.1 in
      record {
        held = parts.0;
        unknown = λ reach. absent_from_in reached a (not-true _ both.0) (reached_met g commons reached levels a reach);
        unsent = absent_from_in sent a (not-true _ both.1);
      }

  untold_to : (a : List ℕ) → MayBeOffered g commons sent a → is_untold g reached sent a ≡ true
  untold_to a untold =
      let known = λ (e : is_in reached a ≡ true). untold.unknown
      (met_reached g commons reached levels a (contains_from_in reached a e)) in
      let given = λ (e : is_in sent a ≡ true). untold.unsent (contains_from_in sent a e) in
      and_from _ _ untold.held
      (and_from _ _ (not_from_false _ (false_from_ne_true _ known)) (not_from_false _ (false_from_ne_true _ given)))

  pub offer_by_filter : (tips ids : List (List ℕ)) → AreLevels g tips ids → (n : ℕ) (list : List (List ℕ)) → list ≡ take n (filter (is_untold g reached sent) ids) → IsOffer g tips commons sent n list
  offer_by_filter tips ids all n list e = record {
    ids = ids;
    levels = all;
    choice = filter (is_untold g reached sent) ids;
    chosen = filter_selects (MayBeOffered g commons sent) (is_untold g reached sent) untold_from untold_to ids;
    first = e;
  }

  -- if none of the ids may be offered, the test selects none of them
  pub none_told : (ids : List (List ℕ)) → All (λ a. ¬ (MayBeOffered g commons sent a)) ids → [] ≡ filter (is_untold g reached sent) ids
  none_told [] told = refl
  none_told (b ∷ bs) told =
      let P : List ℕ → Type 0 = λ a. ¬ (MayBeOffered g commons sent a) in
      let no : is_untold g reached sent b ≡ false = false_from_ne_true _ (λ e. All-head P b bs told (untold_from b e)) in
      rw no (none_told bs (All-tail P b bs told))

  kept : (ids : List (List ℕ)) (a : List ℕ) → Contains ids a → is_untold g reached sent a ≡ true → Contains (filter (is_untold g reached sent) ids) a
  kept [] a there e = nothing_in_nil a there
  kept (b ∷ bs) a there e =
      let T = is_untold g reached sent in
      elim (contains_cases b bs a there) [
        | inl same ↦
            subst (λ (x : List ℕ). Contains (filter T (x ∷ bs)) a) (sym same)
            (subst (λ (c : Bool). Contains (cond c (a ∷ filter T bs) (filter T bs)) a) (sym e) (contains_head a (filter T bs)))
        | inr later ↦
            let k = kept bs a later e in
            let P : Bool → Type 0 = λ c. Contains (cond c (b ∷ filter T bs) (filter T bs)) a in
            either_way (T b) (λ t. subst P (sym t) (contains_tail b (filter T bs) a k)) (λ f. subst P (sym f) k)
      ]

  -- after the selected ids are sent, none of the ids may be offered
  pub told_after : (ids list : List (List ℕ)) → list ≡ filter (is_untold g reached sent) ids → All (λ a. ¬ (MayBeOffered g commons (sent ++ list) a)) ids
  told_after ids list is = λ k d low may.
      let a = get_or ids k d in
      let before : MayBeOffered g commons sent a =
      record { held = may.held; unknown = may.unknown; unsent = λ c. may.unsent (Contains-append_left sent list a c) } in
      let there = kept ids a (Contains-get_or ids k d low) (untold_to a before) in
      may.unsent (Contains-append_right sent list a (subst (λ (l : List (List ℕ)). Contains l a) (sym is) there))

-- ---- the test by marks

same_bool : (b : Bool) (ids : List (List ℕ)) (a : List ℕ) → (b ≡ true) ↔ Contains ids a → b ≡ is_in ids a
same_bool true ids a h = sym (in_from_contains ids a (h.0 refl))
same_bool false ids a h = either_way (is_in ids a) (λ e. h.1 (contains_from_in ids a e) ∙ sym e) (λ e. sym e)

pub untold_is : {A : Type 0} (g : List (Entry A)) (commons reached others : List (List ℕ)) → AreLevels g commons reached → (known sent : List Bool) → AreReached g commons known → HasMarks g others sent → (a : List ℕ) (p : ℕ) → position_of g a ≡ Some p → is_untold g reached others a ≡ (not (get_or known p false) && not (get_or sent p false))
untold_is g commons reached others levels known sent are marks a p e =
    let held : is_some (node_at g a) ≡ true = held_at_position g a p e in
    let one : get_or known p false ≡ is_in reached a =
    same_bool (get_or known p false) reached a
    (λ t. reached_met g commons reached levels a ((are a p e).0 t), λ c. (are a p e).1 (met_reached g commons reached levels a c)) in
    let other : get_or sent p false ≡ is_in others a = same_bool (get_or sent p false) others a (marks a p e) in
    rw (held, one, other) refl

-- the marks of a walk that has met exactly the given ids are the marks of these ids
pub sent_marks : {A : Type 0} (g : List (Entry A)) (ids : List (List ℕ)) (marks : List Bool) (met : List ℕ) (lost : Option (List ℕ)) (parents : ℕ) → HasMet g (new_ids [] ids) marks met lost parents → HasMarks g ids marks
sent_marks g ids marks met lost parents h a p e =
    (λ t. (new_same ids a).0 ((h.marked a p e).0 t), λ c. (h.marked a p e).1 ((new_same ids a).1 c))

-- ids that the graph does not contain are not offered
none_untold : {A : Type 0} (g : List (Entry A)) (reached others ids : List (List ℕ)) → places g ids ≡ [] → filter (is_untold g reached others) ids ≡ []
none_untold g reached others [] none = refl
none_untold g reached others (b ∷ bs) none =
    let r = placed g b bs (position_of g b) refl none in
    let absent = node_at_none g b r.0 in
    let later = none_untold g reached others bs r.1 in
    rw absent later

-- ---- the ids to offer after one more id is visited

module _ {A : Type 0} (g : List (Entry A)) (tips reached others : List (List ℕ)) where
  taken : (front back : List (List ℕ)) (x : ℕ) (n : IsNext g tips front back x) (list one : List (List ℕ)) →
      list ≡ filter (is_untold g reached others) front → filter (is_untold g reached others) (n.id ∷ []) ≡ one →
      list ++ one ≡ filter (is_untold g reached others) (front ++ (n.mid ++ n.id ∷ []))
  taken front back x n list one is last =
      let T = is_untold g reached others in
      let split = filter-append T front (n.mid ++ n.id ∷ []) in
      rw (split, filter-append T n.mid (n.id ∷ []), none_untold g reached others n.mid n.absent)
      (ap₂ (λ k l. k ++ l) is (sym last))

  pub offers_next : (front back list : List (List ℕ)) (x : ℕ) (n : IsNext g tips front back x) → list ≡ filter (is_untold g reached others) front → is_untold g reached others n.id ≡ true → list ++ n.id ∷ [] ≡ filter (is_untold g reached others) (front ++ (n.mid ++ n.id ∷ []))
  offers_next front back list x n is t =
      taken front back x n list (n.id ∷ []) is (ap (λ b. cond b (n.id ∷ []) []) t)

  pub skips_next : (front back list : List (List ℕ)) (x : ℕ) (n : IsNext g tips front back x) → list ≡ filter (is_untold g reached others) front → is_untold g reached others n.id ≡ false → list ≡ filter (is_untold g reached others) (front ++ (n.mid ++ n.id ∷ []))
  skips_next front back list x n is f =
      sym (append-nil list) ∙ taken front back x n list [] is (ap (λ b. cond b (n.id ∷ []) []) f)

  -- the ids of more levels begin with the ids of fewer levels
  pub levels_more : (i j : ℕ) → (count : ℕ) × (i ≤ count) × (more : List (List ℕ)) × (levels_below g tips count ≡ levels_below g tips j ++ more)
  levels_more zero j = (j, omega arith, [], sym (append-nil (levels_below g tips j)))
  levels_more (suc i) j =
      let n = levels_more i j in
      let whole = ap (λ l. l ++ level g tips n.0) n.3 ∙ (simp append_assoc) in
      (suc n.0, omega (arith, n.1), n.2 ++ level g tips n.0, whole)

  -- the list of all levels begins with the ids that a walk has met
  begins_levels : LevelsAreDistances A → (ids : List (List ℕ)) (at : ℕ) → IsWalked g tips ids at → (count : ℕ) × (rest : List (List ℕ)) × (levels_below g tips count ≡ ids ++ rest) × (level g tips count ≡ [])
  begins_levels law ids at w =
      let end = (law g tips).ends in
      let n = levels_more end.0 (suc (suc w.k)) in
      let rest = new_ids ids (parents_of_each g w.rest) ++ n.2 in
      (n.0, rest, n.3 ∙ ap (λ l. l ++ n.2) (sym w.ahead) ∙ (simp append_assoc), (law g tips).stays end.0 n.0 n.1 end.1)

  module _ (commons : List (List ℕ)) (levels : AreLevels g commons reached) (n : ℕ) (front back list : List (List ℕ)) (marks : List Bool) (met : List ℕ) (lost : Option (List ℕ)) (parents at : ℕ) (now : IsUnderway g tips front back marks met lost parents at) (is : list ≡ filter (is_untold g reached others) front) where
    -- the offer has the requested number of ids
    pub offers_enough : LevelsAreDistances A → length list ≡ n → IsOffer g tips commons others n list
    offers_enough law enough =
        let w = begins_levels law (front ++ back) (length front) now.walked in
        let T = is_untold g reached others in
        let parts : filter T (levels_below g tips w.0) ≡ list ++ filter T (back ++ w.1) =
        ap (filter T) (w.2 ∙ (simp append_assoc)) ∙ filter-append T front (back ++ w.1) ∙ ap (λ l. l ++ filter T (back ++ w.1)) (sym is) in
        let cut : take n (filter T (levels_below g tips w.0)) ≡ list =
        ap (take n) parts ∙ ap (λ k. take k (list ++ filter T (back ++ w.1))) (sym enough) ∙ take-append_seam list (filter T (back ++ w.1)) in
        offer_by_filter g commons reached others levels tips (levels_below g tips w.0) record { count = w.0; joined = refl; last = w.3 } n list (sym cut)

    -- all ids were visited
    pub offers_all : length met ≤ at → length list ≤ n → IsOffer g tips commons others n list
    offers_all end few =
        let T = is_untold g reached others in
        let all = ends_levels g tips front back marks met lost parents at now end in
        let none = none_left g tips front back marks met lost parents at now end in
        let whole : filter T (front ++ back) ≡ list =
        filter-append T front back ∙ ap₂ (λ k l. k ++ l) (sym is) (none_untold g reached others back none) ∙ append-nil list in
        let cut : take n (filter T (front ++ back)) ≡ list = ap (take n) whole ∙ take_all n list few in
        offer_by_filter g commons reached others levels tips (front ++ back) all n list (sym cut)

-- the ids of all levels
pub all_levels : {A : Type 0} → LevelsAreDistances A → (g : List (Entry A)) (tips : List (List ℕ)) → (ids : List (List ℕ)) × AreLevels g tips ids
all_levels law g tips =
    let end = (law g tips).ends in (levels_below g tips end.0, record { count = end.0; joined = refl; last = end.1 })

-- the id that is found at the position of an id is that id
pub id_taken : {A : Type 0} (g : List (Entry A)) (a b : List ℕ) (p : ℕ) → position_of g a ≡ Some p → option_map (λ (entry : Entry A). entry.id) (slice_get g p) ≡ Some b → b ≡ a
id_taken {A} g a b p e is =
    let h = found_at g a p e in
    let both : Some b ≡ Some a = sym is ∙ ap (option_map (λ (entry : Entry A). entry.id)) h.1 ∙ ap Some h.2 in cc
