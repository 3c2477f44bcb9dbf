-- A walk that searches for some ids.
use Rattle.std.proofs.Common.{◌≡◌, inl, inr, ◌↔◌, ℕ, suc, ◌+◌, ◌≤◌, Bool, true, false, not, List, [], ◌∷◌, ◌++◌, length, get_or, filter, is_some, All, Contains, Option, Some, None, refl, sym, ap, ◌∙◌, subst, append_assoc}
use Rattle.std.specs.List.{Any}
use Rattle.std.proofs.lemmas.Bool.{false≢true}
use Rattle.std.proofs.lemmas.Option.{none-some, same_Some}
use Rattle.std.proofs.lemmas.List.Elements.{Contains-append_left, Contains-append_right, Contains-append_cases, Contains-push_cases}
use Rattle.gobject.specs.declared.node.Entry.{Entry}
use Rattle.gobject.specs.Objects.{node_at, position_of}
use Rattle.gdag.specs.Reach.{Reaches, SomeReaches}
use Rattle.gdag.specs.Levels.{new_ids, parents_of, parents_of_each}
use Rattle.gwalk.specs.steps.Common.{AreGoals, ids_at}
use Rattle.gwalk.specs.Walks.{HasMet, places}
use Rattle.gdag.proofs.IdLists.{nothing_in_nil, new_ids-from, new_ids-has, contains_head, contains_cases, only_one, with_new}
use Rattle.gdag.proofs.LevelLaws.{parent_from}
use Rattle.gdag.proofs.LevelReach.{in_reached}
use Rattle.gdag.proofs.Reaching.{node_at_none, held_at_position, reaches_parent}
use Rattle.gwalk.specs.Offers.{IsUnderway, IsWalked}
use Rattle.gwalk.proofs.LevelWalk.{reached_met}
use Rattle.gdag.proofs.Choosing.{filter_selects, select_from, select_has}
use Rattle.gwalk.proofs.Reached.{found_at}
use Rattle.gwalk.proofs.Walking.{IsNext, none_left, ends_levels, position_cases, placed}

-- ---- the goals

pub new_same : (ids : List (List ℕ)) (a : List ℕ) → Contains (new_ids [] ids) a ↔ Contains ids a
new_same ids a = (λ c. (new_ids-from [] ids a c).0, λ c. new_ids-has [] ids a c (λ k. nothing_in_nil a k))

absent_test : {X : Type 0} (o : Option X) → not (is_some o) ≡ true → o ≡ None
absent_test None e = refl
absent_test (Some x) e = absurd (false≢true e)

pub goals_are : {A : Type 0} (g : List (Entry A)) (ids : List (List ℕ)) (marks : List Bool) (met : List ℕ) (lost : Option (List ℕ)) (parents : ℕ) (absent : List (List ℕ)) → HasMet g (new_ids [] ids) marks met lost parents → absent ≡ filter (λ a. not (is_some (node_at g a))) ids → AreGoals g ids marks absent
goals_are g ids marks met lost parents absent h is =
    let none : List ℕ → Type 0 = λ b. node_at g b ≡ None in
    let test : List ℕ → Bool = λ b. not (is_some (node_at g b)) in
    let chosen = filter_selects none test (λ b. absent_test (node_at g b)) (λ b e. rw e refl) ids in
    record {
      long = h.long;
      marked = λ a p e.
          let same = new_same ids a in let m = h.marked a p e in (λ t. same.0 (m.0 t), λ c. m.1 (same.1 c));
      others = λ a. (
        λ c. (let r = select_from none chosen a (rw is at c) in (r.1, r.0)),
        λ k. rw is (select_has none chosen a k.1 k.0),
      );
    }

-- ---- the ids that an unfinished walk has met

pub walked_reached : {A : Type 0} (g : List (Entry A)) (starts ids : List (List ℕ)) (at : ℕ) → IsWalked g starts ids at → (a : List ℕ) → Contains ids a → SomeReaches g starts a
walked_reached g starts ids at w a c =
    in_reached g starts (suc (suc w.k)) a
    (subst (λ (l : List (List ℕ)). Contains l a) w.ahead (Contains-append_left ids (new_ids ids (parents_of_each g w.rest)) a c))

pub any_of : {X : Type 0} (P : X → Type 0) (xs : List X) (x : X) → Contains xs x → P x → Any P xs
any_of P xs x c p = (c.0, x, c.1, c.2, p)

unplaced : {A : Type 0} (g : List (Entry A)) (ids : List (List ℕ)) (a : List ℕ) (p : ℕ) → Contains ids a → position_of g a ≡ Some p → places g ids ≡ [] → ⊥
unplaced g [] a p c e none = nothing_in_nil a c
unplaced g (b ∷ bs) a p c e none =
    let r = placed g b bs (position_of g b) refl none in
    elim (contains_cases b bs a c) [
      | inl same ↦ none-some p (sym r.0 ∙ ap (position_of g) same ∙ e)
      | inr later ↦ unplaced g bs a p later e r.1
    ]

-- ---- the walk: no visited id is a goal, and no met id outside the graph is a goal

pub record IsLooking {A : Type 0} (g : List (Entry A)) (start : List ℕ) (goals : List Bool) (absent front back : List (List ℕ)) (marks : List Bool) (met : List ℕ) (lost : Option (List ℕ)) (parents at : ℕ) : Type 0 where
  pub underway : IsUnderway g (start ∷ []) front back marks met lost parents at
  pub passed : (a : List ℕ) (p : ℕ) → Contains front a → position_of g a ≡ Some p → get_or goals p false ≡ true → ⊥
  pub others : (a : List ℕ) → Contains (front ++ back) a → node_at g a ≡ None → Contains absent a → ⊥

module _ {A : Type 0} (g : List (Entry A)) (start : List ℕ) (goals : List Bool) (absent : List (List ℕ)) where
  pub looks : (marks : List Bool) (met : List ℕ) (lost : Option (List ℕ)) (parents : ℕ) → IsUnderway g (start ∷ []) [] (with_new [] (start ∷ [])) marks met lost parents 0 → ¬ (Contains absent start) → IsLooking g start goals absent [] (with_new [] (start ∷ [])) marks met lost parents 0
  looks marks met lost parents under out = record {
    underway = under;
    passed = λ a p c e t. nothing_in_nil a c;
    others = λ a c none k.
        out (subst (λ (x : List ℕ). Contains absent x) (only_one start a ((new_same (start ∷ []) a).0 c)) k);
  }

  module _ (front back : List (List ℕ)) (marks : List Bool) (met : List ℕ) (lost : Option (List ℕ)) (parents at : ℕ) (now : IsLooking g start goals absent front back marks met lost parents at) where
    pub looked_reached : (a : List ℕ) → Contains (front ++ back) a → Reaches g start a
    looked_reached a c =
        let s = walked_reached g (start ∷ []) (front ++ back) (length front) (now.underway).walked a c in
        subst (λ (x : List ℕ). Reaches g x a) (only_one start s.0 s.1) s.2

    module _ (x : ℕ) (n : IsNext g (start ∷ []) front back x) where
      next_met : Contains (front ++ back) n.id
      next_met =
          subst (λ (l : List (List ℕ)). Contains (front ++ l) n.id) (sym n.parts)
          (Contains-append_right front (n.mid ++ n.id ∷ n.rest) n.id (Contains-append_right n.mid (n.id ∷ n.rest) n.id (contains_head n.id n.rest)))

      -- the next id is a goal
      pub found : (ids : List (List ℕ)) → AreGoals g ids goals absent → get_or goals x false ≡ true → Any (Reaches g start) ids
      found ids are t = any_of (Reaches g start) ids n.id ((are.marked n.id x n.position).0 t) (looked_reached n.id next_met)

      -- a parent of the next id is a goal that the graph does not contain
      pub found_absent : (ids more : List (List ℕ)) → AreGoals g ids goals absent → more ≡ parents_of g n.id → Any (Contains absent) more → Any (Reaches g start) ids
      found_absent ids more are lent (k, b, inside, is, c) =
          let among : Contains more b = (k, inside, is) in
          let parent = parent_from g n.id b (subst (λ (l : List (List ℕ)). Contains l b) lent among) in
          any_of (Reaches g start) ids b ((are.others b).0 c).0 (reaches_parent g start n.id b (looked_reached n.id next_met) parent)

      pub looks_on : (more : List (List ℕ)) → get_or goals x false ≡ false → ¬ (Any (Contains absent) more) → (marks2 : List Bool) (met2 : List ℕ) (lost2 : Option (List ℕ)) (parents2 : ℕ) → IsUnderway g (start ∷ []) (front ++ (n.mid ++ n.id ∷ [])) (n.rest ++ new_ids (front ++ back) more) marks2 met2 lost2 parents2 (at + 1) → IsLooking g start goals absent (front ++ (n.mid ++ n.id ∷ [])) (n.rest ++ new_ids (front ++ back) more) marks2 met2 lost2 parents2 (at + 1)
      looks_on more free apart marks2 met2 lost2 parents2 under =
          let whole : with_new (front ++ back) more ≡ (front ++ (n.mid ++ n.id ∷ [])) ++ (n.rest ++ new_ids (front ++ back) more) =
          ap (λ l. l ++ new_ids (front ++ back) more) (ap (λ l. front ++ l) n.parts) ∙ (simp append_assoc) in
          record {
            underway = under;
            passed = λ a p c e t.
                elim (Contains-append_cases front (n.mid ++ n.id ∷ []) a c) [
                  | inl before ↦ now.passed a p before e t
                  | inr after ↦ elim (Contains-push_cases n.mid n.id a after) [
                    | inl between ↦ no_position a p between e
                    | inr same ↦
                        let position : x ≡ p = same_Some x p (sym n.position ∙ ap (position_of g) same ∙ e) in
                        false≢true (sym free ∙ ap (λ i. get_or goals i false) position ∙ t)
                  ]
                ];
            others = λ a c none k.
                elim (Contains-append_cases (front ++ back) (new_ids (front ++ back) more) a (subst (λ (l : List (List ℕ)). Contains l a) (sym whole) c)) [
                  | inl before ↦ now.others a before none k
                  | inr new ↦ apart (any_of (Contains absent) more a (new_ids-from (front ++ back) more a new).0 k)
                ];
          }
        where
          no_position : (a : List ℕ) (p : ℕ) → Contains n.mid a → position_of g a ≡ Some p → ⊥
          no_position a p c e = unplaced g n.mid a p c e n.absent

    -- if all ids were visited and none is a goal, the walk reaches no goal
    pub looks_ends : length met ≤ at → (ids : List (List ℕ)) → AreGoals g ids goals absent → Any (Reaches g start) ids →
        ⊥
    looks_ends end ids are (k, b, inside, is, r) =
        let under = now.underway in
        let none = none_left g (start ∷ []) front back marks met lost parents at under end in
        let levels = ends_levels g (start ∷ []) front back marks met lost parents at under end in
        let goal : Contains ids b = (k, inside, is) in
        let c = reached_met g (start ∷ []) (front ++ back) levels b (start, contains_head start [], r) in
        elim (position_cases g b) [
          | inl e ↦ now.others b c (node_at_none g b e) ((are.others b).1 (goal, node_at_none g b e))
          | inr w ↦ elim (Contains-append_cases front back b c) [
            | inl before ↦ now.passed b w.0 before w.1 ((are.marked b w.0 w.1).1 goal)
            | inr after ↦ unplaced g back b w.0 after w.1 none
          ]
        ]

-- ---- the ids at the positions of some ids

pub ids_at_positions : {A : Type 0} (g : List (Entry A)) (ids : List (List ℕ)) → ids_at g (places g ids) ≡ filter (λ a. is_some (node_at g a)) ids
ids_at_positions g [] = refl
ids_at_positions {A} g (b ∷ bs) =
    let later = ids_at_positions g bs in
    elim (position_cases g b) [
      | inl e ↦ rw (e, node_at_none g b e) later
      | inr w ↦
          let h = found_at g b w.0 w.1 in
          let held : is_some (node_at g b) ≡ true = held_at_position g b w.0 w.1 in
          rw (w.1, h.1, h.2, held) (ap (λ l. b ∷ l) later)
    ]

pub none_any : {X : Type 0} (P : X → Type 0) (xs : List X) → All (λ x. ¬ (P x)) xs → Any P xs → ⊥
none_any P xs never (k, x, inside, is, p) = never k x inside (subst P (sym is) p)
