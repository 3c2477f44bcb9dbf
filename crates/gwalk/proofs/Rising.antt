-- The invariant of a pass up, and the final state of the pass.
use Rattle.std.proofs.Common.{◌≡◌, ◌⊎◌, inl, inr, ◌↔◌, ℕ, ◌+◌, ◌<◌, ◌≤◌, Bool, true, false, List, [], ◌∷◌, length, get_or, set, replicate, Contains, Some, None, refl, sym, ap, ◌∙◌, subst, arith}
use Rattle.std.specs.List.{slice_get, Any, IsAnyAnswer}
use Rattle.std.specs.Option.{option_map}
use Rattle.std.specs.Str.{bytes_eq}
use Rattle.std.proofs.lemmas.List.{length-set, length-replicate}
use Rattle.std.proofs.lemmas.List.Elements.{contains_decides, Decides-contains}
use Rattle.std.proofs.lemmas.Slice.Eq.{bytes_eq-Decides}
use Rattle.std.proofs.lemmas.Option.{none-some}
use Rattle.std.proofs.lemmas.Bool.{cases_eq}
use Rattle.gobject.specs.declared.node.Entry.{Entry}
use Rattle.gobject.specs.Objects.{position_of}
use Rattle.gdag.specs.Reach.{Reaches, here, onward}
use Rattle.gwalk.specs.steps.Passes.{IsEdge, IsInOrder, IsPositionOf, IsReachingAt, MarksAll, HasMarked, MarksReaching}
use Rattle.gwalk.specs.steps.Passes.{is_marked}
use Rattle.gdag.proofs.Holding.{own_position}
use Rattle.gdag.proofs.Reaching.{position_same, position_of_node}
use Rattle.gdag.proofs.IdLists.{only_one}
use Rattle.gwalk.proofs.Positions.{entry_there}
use Rattle.gwalk.proofs.Positions.{HasParentsFirst, parents_first, edge_position, position_edge, edge_down, set_cases, set_there, set_kept, none_marked}

-- ---- one of the goals

goal_of : {A : Type 0} (g : List (Entry A)) (goals : List (List ℕ)) (a : List ℕ) → Any (Reaches g a) goals → (b : List ℕ) × Contains goals b × Reaches g a b
goal_of g goals a (k, b, inside, is, way) = (b, (k, inside, is), way)

pub any_goal : {A : Type 0} (g : List (Entry A)) (goals : List (List ℕ)) (a b : List ℕ) → Contains goals b → Reaches g a b → Any (Reaches g a) goals
any_goal g goals a b (k, inside, is) way = (k, b, inside, is, way)

-- ---- position by position

module _ {A : Type 0} (g : List (Entry A)) (goals : List (List ℕ)) where
  pub reaching_goal : (p : ℕ) → IsPositionOf g goals p → IsReachingAt g goals p
  reaching_goal p x = record { id = x.id; at = x.at; reaching = any_goal g goals x.id x.id x.among here }

  pub reaching_edge : (p q : ℕ) → IsEdge g p q → IsReachingAt g goals q → IsReachingAt g goals p
  reaching_edge p q e r =
      let P : List ℕ → Type 0 = λ a. Any (Reaches g a) goals in
      let way = goal_of g goals e.parent (subst P (position_same g r.id e.parent q r.at e.parent_at) r.reaching) in
      record { id = e.child; at = e.child_at; reaching = any_goal g goals e.child way.0 way.1 (onward e.edge way.2) }

  way_cases : HasParentsFirst g → (p : ℕ) (a b : List ℕ) → Reaches g a b → position_of g a ≡ Some p → Contains goals b → IsPositionOf g goals p ⊎ ((q : ℕ) × IsEdge g p q × IsReachingAt g goals q)
  way_cases ordered p a b here at among = inl (record { id = a; among = among; at = at })
  way_cases ordered p a b (onward {b = m} h way) at among =
      let on = ordered a m p at h in
      inr (on.0, record { child = a; parent = m; edge = h; child_at = at; parent_at = on.1 }, record { id = m; at = on.1; reaching = any_goal g goals m b among way })

  -- an object that reaches a goal is a goal, or has a parent that reaches a goal
  pub reaching_cases : HasParentsFirst g → (p : ℕ) → IsReachingAt g goals p → IsPositionOf g goals p ⊎ ((q : ℕ) × IsEdge g p q × IsReachingAt g goals q)
  reaching_cases ordered p r =
      let way = goal_of g goals r.id r.reaching in
      way_cases ordered p r.id way.0 way.2 r.at way.1

  way_down : HasParentsFirst g → (p : ℕ) (a b : List ℕ) → Reaches g a b → position_of g a ≡ Some p → (q : ℕ) × (position_of g b ≡ Some q) × (q ≤ p)
  way_down ordered p a b here at = (p, at, omega arith)
  way_down ordered p a b (onward {b = m} h way) at =
      let on = ordered a m p at h in
      let down = way_down ordered on.0 m b way on.1 in
      (down.0, down.1, omega (arith, on.2, down.2))

  -- a reachable goal has the same or a lower position
  pub reaching_low : HasParentsFirst g → (p : ℕ) → IsReachingAt g goals p → (q : ℕ) × IsPositionOf g goals q × (q ≤ p)
  reaching_low ordered p r =
      let way = goal_of g goals r.id r.reaching in
      let down = way_down ordered p r.id way.0 way.2 r.at in
      (down.0, record { id = way.0; among = way.1; at = down.1 }, down.2)

-- ---- the invariant of the pass

-- the state before `position` is visited
pub record IsRising {A : Type 0} (g : List (Entry A)) (goals : List (List ℕ)) (end position : ℕ) (good : List Bool) : Type 0 where
  pub long : length good ≡ end
  pub goals_in : (p : ℕ) → IsPositionOf g goals p → p < end → is_marked good p ≡ true
  pub sound : (p : ℕ) → is_marked good p ≡ true → IsReachingAt g goals p
  pub all : (p : ℕ) → p < position → IsReachingAt g goals p → is_marked good p ≡ true

module _ {A : Type 0} (g : List (Entry A)) (goals : List (List ℕ)) (end : ℕ) (order : IsInOrder g) where
  pub rising_begins : (first : ℕ) (good : List Bool) → MarksAll g goals (replicate end false) good → ((p : ℕ) → IsPositionOf g goals p → first ≤ p) → IsRising g goals end first good
  rising_begins first good marks least = record {
    long = marks.long ∙ length-replicate end false;
    goals_in = λ p x inside. marks.marked p x (let l = length-replicate end false in omega arith);
    sound = λ p m. elim (marks.only p m) [ inl m' ↦ absurd (none_marked end p m') | inr x ↦ reaching_goal g goals p x ];
    all = λ p below r. (
        let low = reaching_low g goals (parents_first g order) p r in
        let h = least low.0 low.1 in let l : low.0 ≤ p = low.2 in
        absurd (omega arith)
        );
  }

  module _ (position : ℕ) (good : List Bool) (before : IsRising g goals end position good) (inside : position < end) (fits : end ≤ length g) (parents : List (List ℕ)) (are : option_map (λ entry. entry.node.parents) (slice_get g position) ≡ Some parents) where
    position_reaches : HasMarked g parents good → IsReachingAt g goals position
    position_reaches m =
        let there = entry_there g position (omega arith) in
        let at = own_position g position there.0 order.differ there.1 in
        reaching_edge g goals position m.position (position_edge g position parents are (there.0).id m.position at m.among) (before.sound m.position m.marked)

    pub rising_marks : HasMarked g parents good → IsRising g goals end (position + 1) (set good position true)
    rising_marks m =
        let long = before.long in
        record {
          long = length-set good position true ∙ before.long;
          goals_in = λ p x within. set_kept good p position (before.goals_in p x within);
          sound = λ p m'. elim (set_cases good p position m') [
            | inl old ↦ before.sound p old
            | inr same ↦ (let P : ℕ → Type 0 = λ n. IsReachingAt g goals n in subst P same (position_reaches m))
          ];
          all = λ p below r. elim (cases_eq position p) [
            | inl same ↦ ap (λ n. get_or (set good position true) n false) (sym same) ∙ set_there good position (omega arith)
            | inr other ↦ set_kept good p position (before.all p (omega arith) r)
          ];
        }

    marked_here : (HasMarked g parents good → ⊥) → IsReachingAt g goals position → is_marked good position ≡ true
    marked_here never r =
        elim (reaching_cases g goals (parents_first g order) position r) [
          | inl x ↦ before.goals_in position x inside
          | inr w ↦ (
              let down = edge_down g position w.0 (parents_first g order) w.1 in
              absurd (never (record { position = w.0; among = edge_position g position parents are w.0 w.1; marked = before.all w.0 down w.2 }))
              )
        ]

    pub rising_passes : (HasMarked g parents good → ⊥) → IsRising g goals end (position + 1) good
    rising_passes never = record {
      long = before.long;
      goals_in = before.goals_in;
      sound = before.sound;
      all = λ p below r. elim (cases_eq position p) [
        | inl same ↦ (let P : ℕ → Type 0 = λ n. IsReachingAt g goals n in ap (is_marked good) (sym same) ∙ marked_here never (subst P (sym same) r))
        | inr other ↦ before.all p (omega arith) r
      ];
    }

-- ---- one id

module _ {A : Type 0} (g : List (Entry A)) (goals : List (List ℕ)) (a : List ℕ) where
  pub good_placed : (p n : ℕ) (good : List Bool) (b : Bool) → position_of g a ≡ Some p → p < n → MarksReaching g goals n good → b ≡ is_marked good p → (b ≡ true) ↔ Any (Reaches g a) goals
  good_placed p n good b at inside marks read =
      let P : List ℕ → Type 0 = λ x. Any (Reaches g x) goals in (
        λ t. (let r = marks.sound p (sym read ∙ t) in subst P (position_same g r.id a p r.at at) r.reaching),
        λ any. read ∙ marks.all p inside (record { id = a; at = at; reaching = any }),
      )

  way_absent : (b : List ℕ) → position_of g a ≡ None → Reaches g a b → Contains goals b → Contains goals a
  way_absent b absent here among = among
  way_absent b absent (onward h way) among =
      let at = position_of_node g a h.0 h.1 in absurd (none-some at.0 (sym absent ∙ at.1))

  pub good_absent : (b : Bool) → position_of g a ≡ None → IsAnyAnswer (λ y t. bytes_eq y a ≡ t) goals b → (b ≡ true) ↔ Any (Reaches g a) goals
  good_absent b absent answer =
      let d = Decides-contains goals a b (contains_decides bytes_eq bytes_eq-Decides goals a b answer) in (
        λ t. any_goal g goals a a (d.0 t) here,
        λ any. (let way = goal_of g goals a any in d.1 (way_absent way.0 absent way.2 way.1)),
      )

pub any_one : {A : Type 0} (g : List (Entry A)) (a b : List ℕ) → Any (Reaches g a) (b ∷ []) ↔ Reaches g a b
any_one g a b =
    let P : List ℕ → Type 0 = λ x. Reaches g a x in (
      λ any. (let way = goal_of g (b ∷ []) a any in subst P (only_one b way.0 way.1) way.2),
      λ way. any_goal g (b ∷ []) a b (0, omega arith, refl) way,
    )
