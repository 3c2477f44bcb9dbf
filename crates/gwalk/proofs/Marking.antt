-- Lists of marks.
use Rattle.std.proofs.Common.{◌≡◌, inl, inr, ℕ, ◌+◌, ◌<◌, ◌≤◌, Bool, true, false, ◌||◌, ◌&&◌, not, List, [], ◌∷◌, ◌++◌}
use Rattle.std.proofs.Common.{length, get_or, set, drop, max, All, Some, refl, sym, ap, ◌∙◌, subst, arith}
use Rattle.std.specs.List.{slice_get}
use Rattle.std.proofs.lemmas.Bool.{false≢true, cases_eq, cases_lt, cases_order, or_cases, or_left, or_right, and_parts}
use Rattle.std.proofs.lemmas.Bool.{and_from, and_right, not-true, not_from_true, not_from_false, false_from_ne_true}
use Rattle.std.proofs.lemmas.List.{get_or_past, get_or_push, get_or_append_left, get_or-set_same, get_or-set_other}
use Rattle.std.proofs.lemmas.List.{length-set, length_push, drop_more}
use Rattle.std.proofs.lemmas.List.Elements.{All-contains}
use Rattle.std.proofs.lemmas.Option.{slice_get_cases, slice_get_within, get_or_from_slice_get}
use Rattle.gobject.specs.declared.node.Entry.{Entry}
use Rattle.gdag.specs.Reach.{IsConnected, SomeReaches}
use Rattle.gdag.specs.Sending.{IsNew}
use Rattle.gwalk.specs.Marks.{AreConnected, MarksReached}
use Rattle.gwalk.specs.Walks.{AreMarked, marked_entries}
use Rattle.gdag.proofs.Reaching.{reaches_on}

pub none_in : (p : ℕ) → get_or [] p false ≡ false
none_in p = get_or_past [] p false (omega arith)

-- ---- two lists of marks joined one position after another: joined marks before `i`, marks of the first list from `i`
-- on

pub record AreJoined (join : Bool → Bool → Bool) (xs ys marks : List Bool) (i : ℕ) : Type 0 where
  pub long : length marks ≡ max (length xs) i
  pub done : (p : ℕ) → p < i → get_or marks p false ≡ join (get_or xs p false) (get_or ys p false)
  pub left : (p : ℕ) → i ≤ p → get_or marks p false ≡ get_or xs p false

module _ (join : Bool → Bool → Bool) (xs ys : List Bool) where
  abbrev joined : ℕ → Bool
  joined p = join (get_or xs p false) (get_or ys p false)

  pub join_begins : AreJoined join xs ys xs 0
  join_begins = record { long = omega arith; done = λ p below. absurd (omega arith); left = λ p past. refl }

  module _ (marks : List Bool) (i : ℕ) (now : AreJoined join xs ys marks i) where
    -- a step changes one position
    join_goes : (new : List Bool) → length new ≡ max (length xs) (i + 1) → get_or new i false ≡ joined i →
        ((p : ℕ) → (i ≡ p → ⊥) → get_or new p false ≡ get_or marks p false) → AreJoined join xs ys new (i + 1)
    join_goes new long here others = record {
      long = long;
      done = λ p below. elim (cases_eq i p) [
        | inl same ↦ subst (λ (k : ℕ). get_or new k false ≡ joined k) same here
        | inr other ↦ others p other ∙ now.done p (omega arith)
      ];
      left = λ p past. others p (λ same. omega arith) ∙ now.left p (omega arith);
    }

    pub join_sets : (mark : Bool) → i < length marks → mark ≡ joined i → AreJoined join xs ys (set marks i mark) (i + 1)
    join_sets mark small is =
        let l = now.long in let s = length-set marks i mark in
        join_goes (set marks i mark) (omega arith) (get_or-set_same marks i mark false small ∙ is)
        (λ p other. get_or-set_other marks i p mark false (λ h. other (sym h)))

    pub join_stays : i < length marks → get_or xs i false ≡ joined i → AreJoined join xs ys marks (i + 1)
    join_stays small is =
        let l = now.long in join_goes marks (omega arith) (now.left i (omega arith) ∙ is) (λ p other. refl)

    pub join_grows : (mark : Bool) → length marks ≤ i → mark ≡ joined i → AreJoined join xs ys (marks ++ mark ∷ [])
        (i + 1)
    join_grows mark end is =
        let l = now.long in let s = length_push marks mark in let here : length marks ≡ i = omega arith in
        join_goes (marks ++ mark ∷ []) (omega arith) (get_or_push marks mark false i here ∙ is)
        (λ p other. elim (cases_order i p) [
          | inl same ↦ absurd (other same)
          | inr (inl less) ↦ get_or_past (marks ++ mark ∷ []) p false (omega arith) ∙ sym (get_or_past marks p false (omega arith))
          | inr (inr more) ↦ get_or_append_left marks (mark ∷ []) false p (omega arith)
        ])

    pub join_ends : ((b : Bool) → join b false ≡ b) → length ys ≤ i → (p : ℕ) → get_or marks p false ≡ joined p
    join_ends keeps end p =
        elim (cases_lt p i) [
          | inl below ↦ now.done p below
          | inr past ↦
              now.left p past ∙ sym (keeps (get_or xs p false))
              ∙ ap (join (get_or xs p false)) (sym (get_or_past ys p false (omega arith)))
        ]

-- ---- the wanted marks without the known marks

abbrev pub less : Bool → Bool → Bool
less x y = x && not y

pub less_none : (b : Bool) → less b false ≡ b
less_none b = search arith

pub less_known : (b c : Bool) → c ≡ true → less b c ≡ false
less_known b c e = and_right b (not c) (not_from_true c e)

pub less_ends : {A : Type 0} (g : List (Entry A)) (wants commons : List (List ℕ)) (wanted known marks : List Bool) →
    AreMarked (SomeReaches g wants) g wanted → AreMarked (SomeReaches g commons) g known →
    length marks ≡ length wanted →
    ((p : ℕ) → get_or marks p false ≡ less (get_or wanted p false) (get_or known p false)) →
    AreMarked (IsNew g wants commons) g marks
less_ends g wants commons wanted known marks w k long is = record {
  long = long ∙ w.long;
  each = λ p entry at.
      let x = get_or wanted p false in let y = get_or known p false in (
        λ t. (let b = and_parts x (not y) (sym (is p) ∙ t) in
            record { wanted = (w.each p entry at).0 b.0; unknown = λ s. false≢true (sym (not-true y b.1) ∙ (k.each p entry at).1 s) }),
        λ new. is p ∙ and_from x (not y) ((w.each p entry at).1 new.wanted)
            (not_from_false y (false_from_ne_true y (λ t. new.unknown ((k.each p entry at).0 t)))),
      );
}

-- the entries at marked positions from position `i` on
pub marked_next : {A : Type 0} (g : List (Entry A)) (marks : List Bool) (i : ℕ) (entry : Entry A) →
    slice_get g i ≡ Some entry → i < length marks → marked_entries (drop i g) (drop i marks) ≡ marked_entries (entry ∷ drop (i + 1) g)
    (get_or marks i false ∷ drop (i + 1) marks)
marked_next g marks i entry at inside =
    let rest : drop i g ≡ entry ∷ drop (i + 1) g = drop_more g i entry (slice_get_within g i entry at)
    ∙ ap (λ x. x ∷ drop (i + 1) g) (get_or_from_slice_get g i entry entry at) in
    rw (rest, drop_more marks i false inside) refl

-- ---- marks of reachable ids

module _ {A : Type 0} (g : List (Entry A)) (ids : List (List ℕ)) (old new : List Bool) where
  pub marks_more : (reached : List Bool) → AreMarked (SomeReaches g ids) g reached →
      ((p : ℕ) → get_or new p false ≡ (get_or reached p false || get_or old p false)) → MarksReached g ids old new
  marks_more reached w is = record {
    each = λ p entry at.
        let x = get_or reached p false in let y = get_or old p false in (
          λ t. elim (or_cases x y (sym (is p) ∙ t)) [ inl a ↦ inr ((w.each p entry at).0 a) | inr b ↦ inl b ],
          λ h. is p ∙ elim h [ inl b ↦ or_right x y b | inr s ↦ or_left x y ((w.each p entry at).1 s) ],
        );
    others = λ p past.
        is p ∙ ap (λ b. b || get_or old p false) (get_or_past reached p false (let l = w.long in omega arith));
  }

  -- all marked ids are connected after the ids that connected ids reach are marked
  pub connected_more : All (IsConnected g) ids → MarksReached g ids old new → AreConnected g old → AreConnected g new
  connected_more connected m before p t =
      elim (slice_get_cases g p).1 [
        | inl w ↦ elim ((m.each p w.0 w.2).0 t) [
          | inl b ↦ before p b
          | inr s ↦ (w.0, w.2, λ b q. All-contains (IsConnected g) ids s.0 connected s.1 b (reaches_on g s.0 (w.0).id b s.2 q))
        ]
        | inr past ↦ before p (sym (m.others p past.0) ∙ t)
      ]
