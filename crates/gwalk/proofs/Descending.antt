-- The invariant of a pass down, and the final state of the pass.
use Rattle.std.proofs.Common.{◌≡◌, ◌⊎◌, inl, inr, ℕ, ◌+◌, ◌<◌, ◌≤◌, Bool, true, false, not, List, length, Some, sym, ap, ◌∙◌, subst, arith, replicate}
use Rattle.std.specs.List.{slice_get}
use Rattle.std.specs.Option.{option_map}
use Rattle.std.proofs.lemmas.Bool.{false≢true, cases_Bool, and_parts, not-true, cases_eq, false_from_ne_true, cases_lt}
use Rattle.gobject.specs.declared.node.Entry.{Entry}
use Rattle.gobject.specs.Objects.{position_of}
use Rattle.gdag.specs.Graphs.{HasParent}
use Rattle.gdag.specs.Reach.{here, SomeReaches}
use Rattle.gwalk.specs.steps.Passes.{IsEdge, IsPositionOf, IsReachedAt, IsNewAt, MarksAll, IsPassed, IsDone, is_marked}
use Rattle.gwalk.specs.steps.Passes.{IsMarked, is_open, open_below}
use Rattle.gdag.proofs.Reaching.{position_same, position_of_node, kept_along, some_reaches}
use Rattle.gwalk.proofs.Positions.{HasParentsFirst, edge_position, position_edge, edge_down, marked_inside, none_marked}
use Rattle.gwalk.proofs.PassCounting.{open_least, open_if}

-- ---- reachable objects by position

pub reached_start : {A : Type 0} (g : List (Entry A)) (ids : List (List ℕ)) (p : ℕ) → IsPositionOf g ids p → IsReachedAt g ids p
reached_start g ids p x = record { id = x.id; at = x.at; reached = (x.id, x.among, here) }

pub reached_edge : {A : Type 0} (g : List (Entry A)) (ids : List (List ℕ)) (p q : ℕ) → IsReachedAt g ids p → IsEdge g p q → IsReachedAt g ids q
reached_edge g ids p q r e =
    let same = position_same g r.id e.child p r.at e.child_at in
    let P : List ℕ → Type 0 = λ a. SomeReaches g ids a in
    record { id = e.parent; at = e.parent_at; reached = some_reaches g ids e.child e.parent (subst P same r.reached) e.edge }

-- if P holds at the positions of the ids, and passes from an object to its parents, P holds at each reachable position
pub at_reached : {A : Type 0} (g : List (Entry A)) (ids : List (List ℕ)) (P : ℕ → Type 0) → ((p : ℕ) → IsPositionOf g ids p → P p) → ((p q : ℕ) → IsEdge g p q → P p → P q) → (p : ℕ) → IsReachedAt g ids p → P p
at_reached g ids P start step p r =
    let Q : List ℕ → Type 0 = λ a. (k : ℕ) → position_of g a ≡ Some k → P k in
    let begin : Q r.reached.0 = λ k e. start k (record { id = r.reached.0; among = r.reached.1; at = e }) in
    let on : (a b : List ℕ) → Q a → HasParent g a b → Q b = λ a b q h k e. (
    let there = position_of_node g a h.0 h.1 in
    step there.0 k (record { child = a; parent = b; edge = h; child_at = there.1; parent_at = e }) (q there.0 there.1)
    ) in
    kept_along g Q on r.reached.0 r.id r.reached.2 begin p r.at

-- ---- the start of the pass

module _ {A : Type 0} (g : List (Entry A)) (wants commons : List (List ℕ)) (end : ℕ) (wanted known : List Bool) (w : MarksAll g wants (replicate end false) wanted) (k : MarksAll g commons (replicate end false) known) where
  start_sound : (ids : List (List ℕ)) (marks : List Bool) → MarksAll g ids (replicate end false) marks → (p : ℕ) → is_marked marks p ≡ true → IsReachedAt g ids p
  start_sound ids marks all p m =
      elim (all.only p m) [ inl m' ↦ absurd (none_marked end p m') | inr x ↦ reached_start g ids p x ]

  start_inside : (ids : List (List ℕ)) (marks : List Bool) → MarksAll g ids (replicate end false) marks → length (replicate end false) ≡ end → (p : ℕ) → is_marked marks p ≡ true → p < end
  start_inside ids marks all long p m =
      let h = marked_inside marks p m in let l = all.long in omega arith

  pub starts : length (replicate end false) ≡ end → ((p : ℕ) → IsPositionOf g wants p → p < end) → ((p : ℕ) → IsPositionOf g commons p → p < end) → IsPassed g wants commons wanted known end
  starts long wants_below commons_below = record {
    wants_in = λ p x. w.marked p x (let h = wants_below p x in omega arith);
    commons_in = λ p x. k.marked p x (let h = commons_below p x in omega arith);
    wanted_sound = start_sound wants wanted w;
    known_sound = start_sound commons known k;
    wanted_ahead = λ p q e past m. (let h = start_inside wants wanted w long p m in absurd (omega arith));
    known_ahead = λ p q e past m. (let h = start_inside commons known k long p m in absurd (omega arith));
  }

-- ---- one step of the pass

-- the marks of objects that the ids reach have additional marks, all at positions below `position`
record IsGrown {A : Type 0} (g : List (Entry A)) (position : ℕ) (ids : List (List ℕ)) (old new : List Bool) : Type 0 where
  kept : (p : ℕ) → is_marked old p ≡ true → is_marked new p ≡ true
  before : (p : ℕ) → position ≤ p → is_marked new p ≡ true → is_marked old p ≡ true
  sound : (p : ℕ) → is_marked new p ≡ true → IsReachedAt g ids p

module _ {A : Type 0} (g : List (Entry A)) (wants commons : List (List ℕ)) (wanted known : List Bool) (next position : ℕ) (is : next ≡ position + 1) (old : IsPassed g wants commons wanted known next) where
  same_marks : (ids : List (List ℕ)) (marks : List Bool) → ((p : ℕ) → is_marked marks p ≡ true → IsReachedAt g ids p) →
      IsGrown g position ids marks marks
  same_marks ids marks sound = record { kept = λ p m. m; before = λ p past m. m; sound = sound }

  -- a visited position whose marks were passed on to its parents
  goes_down : (wanted' known' : List Bool) → IsGrown g position wants wanted wanted' →
      IsGrown g position commons known known' →
      ((q : ℕ) → IsEdge g position q → IsMarked wanted position → IsMarked wanted' q ⊎ IsMarked known' q) →
      ((q : ℕ) → IsEdge g position q → IsMarked known position → IsMarked known' q) →
      IsPassed g wants commons wanted' known' position
  goes_down wanted' known' w k wants_on knows_on = record {
    wants_in = λ p x. w.kept p (old.wants_in p x);
    commons_in = λ p x. k.kept p (old.commons_in p x);
    wanted_sound = w.sound;
    known_sound = k.sound;
    wanted_ahead = λ p q e past m. elim (cases_eq p position) [
      | inl same ↦
          wants_on q (subst (λ (n : ℕ). IsEdge g n q) same e) (ap (is_marked wanted) (sym same) ∙ w.before p past m)
      | inr other ↦ elim (old.wanted_ahead p q e (omega arith) (w.before p past m)) [
        | inl h ↦ inl (w.kept q h)
        | inr h ↦ inr (k.kept q h)
      ]
    ];
    known_ahead = λ p q e past m. elim (cases_eq p position) [
      | inl same ↦
          knows_on q (subst (λ (n : ℕ). IsEdge g n q) same e) (ap (is_marked known) (sym same) ∙ k.before p past m)
      | inr other ↦ k.kept q (old.known_ahead p q e (omega arith) (k.before p past m))
    ];
  }

  -- a visited position without marks
  pub goes_by : is_marked wanted position ≡ false → is_marked known position ≡ false → IsPassed g wants commons wanted known position
  goes_by idle free =
      goes_down wanted known (same_marks wants wanted old.wanted_sound) (same_marks commons known old.known_sound)
      (λ q e m. absurd (false≢true (sym idle ∙ m))) (λ q e m. absurd (false≢true (sym free ∙ m)))

  module _ (parents : List (List ℕ)) (are : option_map (λ entry. entry.node.parents) (slice_get g position) ≡ Some parents)
      (below : (q : ℕ) → IsPositionOf g parents q → q < position) where
    parents_marked : (ids : List (List ℕ)) (marks marks' : List Bool) → MarksAll g parents marks marks' → is_marked marks position ≡ true → ((p : ℕ) → is_marked marks p ≡ true → IsReachedAt g ids p) → IsGrown g position ids marks marks'
    parents_marked ids marks marks' more at sound = record {
      kept = more.kept;
      before = λ p past m. elim (more.only p m) [ inl old ↦ old | inr x ↦ (let h = below p x in absurd (omega arith)) ];
      sound = λ p m. elim (more.only p m) [
        | inl old ↦ sound p old
        | inr x ↦ (let r = sound position at in reached_edge g ids position p r (position_edge g position parents are r.id p r.at x))
      ];
    }

    parent_marked : (marks marks' : List Bool) → MarksAll g parents marks marks' → is_marked marks position ≡ true → (q : ℕ) → IsEdge g position q → is_marked marks' q ≡ true
    parent_marked marks marks' more at q e =
        let x = edge_position g position parents are q e in
        more.marked q x (let h = below q x in let inside = marked_inside marks position at in omega arith)

    pub knows : (known' : List Bool) → MarksAll g parents known known' → is_marked known position ≡ true → IsPassed g wants commons wanted known' position
    knows known' more at =
        let on = parent_marked known known' more at in
        let grown = parents_marked commons known known' more at old.known_sound in
        goes_down wanted known' (same_marks wants wanted old.wanted_sound) grown
        (λ q e m. inr (on q e)) (λ q e m. on q e)

    pub wants_more : (wanted' : List Bool) → MarksAll g parents wanted wanted' → is_marked wanted position ≡ true → is_marked known position ≡ false → IsPassed g wants commons wanted' known position
    wants_more wanted' more at free =
        let grown = parents_marked wants wanted wanted' more at old.wanted_sound in
        goes_down wanted' known grown (same_marks commons known old.known_sound)
        (λ q e m. inl (parent_marked wanted wanted' more at q e)) (λ q e m. absurd (false≢true (sym free ∙ m)))

-- ---- the end of the pass

module _ {A : Type 0} (g : List (Entry A)) (wants commons : List (List ℕ)) (wanted known : List Bool) (next : ℕ) (last : IsPassed g wants commons wanted known next) (ordered : HasParentsFirst g) (none : open_below wanted known next ≡ 0) where
  open_above : (p : ℕ) → is_open wanted known p ≡ true → next ≤ p
  open_above p is =
      elim (cases_lt p next) [
        | inl below ↦ (let one = open_least wanted known p next below is in absurd (omega (arith, one, none)))
        | inr past ↦ past
      ]

  -- every object at a position from `next` on that the common ids reach is marked as known
  known_all : (p : ℕ) → IsReachedAt g commons p → next ≤ p → is_marked known p ≡ true
  known_all p r past =
      let P : ℕ → Type 0 = λ n. next ≤ n → is_marked known n ≡ true in
      at_reached g commons P
      (λ n x far. last.commons_in n x)
      (λ n m e before far. (let down = edge_down g n m ordered e in let there : next ≤ n = omega arith in last.known_ahead n m e there (before there)))
      p r past

  -- a parent of an object that is marked as wanted, or that a common id reaches, has the same property
  wanted_on : (p q : ℕ) → IsEdge g p q → IsReachedAt g commons p ⊎ (is_marked wanted p ≡ true) → IsReachedAt g commons q ⊎ (is_marked wanted q ≡ true)
  wanted_on p q e (inl r) = inl (reached_edge g commons p q r e)
  wanted_on p q e (inr w) =
      elim (cases_Bool (is_marked known p)) [
        | inl k ↦ inl (reached_edge g commons p q (last.known_sound p k) e)
        | inr k ↦ elim (last.wanted_ahead p q e (open_above p (open_if wanted known p w k)) w) [
          | inl h ↦ inr h
          | inr h ↦ inl (last.known_sound q h)
        ]
      ]

  wanted_all : (p : ℕ) → IsReachedAt g wants p → IsReachedAt g commons p ⊎ (is_marked wanted p ≡ true)
  wanted_all p r =
      let P : ℕ → Type 0 = λ n. IsReachedAt g commons n ⊎ (is_marked wanted n ≡ true) in
      at_reached g wants P (λ n x. inr (last.wants_in n x)) wanted_on p r

  open_is_new : (p : ℕ) → is_open wanted known p ≡ true → IsNewAt g wants commons p
  open_is_new p is =
      let parts = and_parts (is_marked wanted p) (not (is_marked known p)) is in
      let r = last.wanted_sound p parts.0 in
      let free = not-true (is_marked known p) parts.1 in
      let never : ¬ (SomeReaches g commons r.id) = λ s. false≢true (sym free ∙ known_all p (record { id = r.id; at = r.at; reached = s }) (open_above p is)) in
      record { id = r.id; at = r.at; new = record { wanted = r.reached; unknown = never } }

  not_known : (p : ℕ) → IsNewAt g wants commons p → IsReachedAt g commons p → ⊥
  not_known p n r =
      let P : List ℕ → Type 0 = λ a. SomeReaches g commons a in
      n.new.unknown (subst P (position_same g r.id n.id p r.at n.at) r.reached)

  new_is_open : (p : ℕ) → IsNewAt g wants commons p → is_open wanted known p ≡ true
  new_is_open p n =
      elim (wanted_all p (record { id = n.id; at = n.at; reached = n.new.wanted })) [
        | inl r ↦ absurd (not_known p n r)
        | inr w ↦ open_if wanted known p w (false_from_ne_true (is_marked known p) (λ k. not_known p n (last.known_sound p k)))
      ]

  pub ends : IsDone g wants commons wanted known next
  ends = record { new = open_is_new; all = new_is_open; above = open_above }
