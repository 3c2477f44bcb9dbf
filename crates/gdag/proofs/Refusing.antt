-- The reasons to refuse entries.
use Rattle.std.proofs.Common.{◌≡◌, ◌≢◌, ◌⊎◌, inl, inr, ℕ, List, [], ◌∷◌, ◌++◌, All, None, refl, sym, ap, ◌∙◌, subst, arith}
use Rattle.std.proofs.lemmas.Option.{none-some}
use Rattle.std.proofs.lemmas.List.Elements.{All-nil, All-cons, All-head, All-tail}
use Rattle.gname.specs.declared.formats.Format.{Format}
use Rattle.gobject.specs.declared.node.Entry.{Entry}
use Rattle.gobject.specs.Objects.{IsShaped, node_at}
use Rattle.gobject.specs.declared.node.Node.{Node}
use Rattle.gdag.specs.declared.fault.GraphFault.{GraphFault}
use Rattle.gdag.specs.declared.fault.GraphFault.TheVariants.{OtherFormat, Conflict, TooMany}
use Rattle.gdag.specs.declared.fault.GraphFault.TheVariants.{TooManyParents, TagShape, Memory}
use Rattle.gdag.specs.Graphs.{IsNode, IsGraph, HasIdsOf}
use Rattle.gdag.specs.Reach.{Agree}
use Rattle.gdag.specs.Insert.{ComesIn, Inserts, IsCause, IsRefused}
use Rattle.gdag.specs.Laws.{AgreesWith}
use Rattle.gdag.proofs.OrderLemmas.{all_at}
use Rattle.gdag.proofs.Sharing.{agree_inserted, nodes_agree}

all_front : {X : Type 0} (P : X → Type 0) (front : List X) (x : X) (back : List X) → All P (front ++ x ∷ back) → All P front
all_front P [] x back all = All-nil P
all_front P (y ∷ front) x back all =
    All-cons P y front (All-head P y (front ++ x ∷ back) all) (all_front P front x back (All-tail P y (front ++ x ∷ back) all))

-- a well-formed entry whose id has no other node is refused only with `TooMany` or `Memory`
fit_fault : {A : Type 0} (format : Format) (g : List (Entry A)) (entry : Entry A) (fault : GraphFault)
    → HasIdsOf format entry → IsShaped entry.node → ((other : Node A) → IsNode g entry.id other → other ≡ entry.node)
    → IsCause format g entry fault → (fault ≡ TooMany) ⊎ (fault ≡ Memory)
fit_fault format g entry (Conflict a) ids shaped own cause =
    absurd (cause.2.2 (own cause.2.0 (subst (λ x. IsNode g x cause.2.0) cause.1 cause.2.1)))
fit_fault format g entry _ ids shaped own cause = grind arith

pub agreeing_entries_fit : {A : Type 0} (g h entries : List (Entry A)) (format : Format) (fault : GraphFault) → IsGraph (record { format = format; entries = entries }) → Agree g h → All (λ entry. IsNode g entry.id entry.node) entries → IsRefused format h entries fault → (fault ≡ TooMany) ⊎ (fault ≡ Memory)
agreeing_entries_fit {A} g h entries format fault graph agree are refused =
    let at : (P : Entry A → Type 0) → All P entries → P refused.entry =
    λ P all. all_at P refused.front refused.entry refused.back (subst (λ (xs : List (Entry A)). All P xs) refused.parts all) in
    let theirs = all_front (AgreesWith g) refused.front refused.entry refused.back (subst (λ (xs : List (Entry A)). All (AgreesWith g) xs) refused.parts (nodes_agree g entries are)) in
    let own = at (λ entry. IsNode g entry.id entry.node) are in
    let still = agree_inserted g h refused.front refused.so_far format agree theirs refused.comes in
    fit_fault format refused.so_far refused.entry fault (at (HasIdsOf format) graph.ids)
    (at (λ entry. IsShaped entry.node) graph.shaped)
    (λ other held. sym (still refused.entry.id refused.entry.node other own held)) refused.cause

-- ---- uniqueness of the fault

module _ {A : Type 0} (format : Format) (g : List (Entry A)) (entry : Entry A) where
  held_is_old : (node : Node A) (id : List ℕ) → id ≡ entry.id → IsNode g id node → node_at g entry.id ≡ None → ⊥
  held_is_old node id is held new = none-some node (sym new ∙ ap (node_at g) (sym is) ∙ held)

  pub one_cause : (fault other : GraphFault) → IsCause format g entry fault → IsCause format g entry other → fault ≡ other
  one_cause (OtherFormat a) (OtherFormat b) c d = ap OtherFormat (c.0 ∙ sym d.0)
  one_cause TooManyParents TooManyParents c d = refl
  one_cause TagShape TagShape c d = refl
  one_cause (Conflict a) (Conflict b) c d = ap Conflict (c.1 ∙ sym d.1)
  one_cause TooMany TooMany c d = refl
  one_cause Memory Memory c d = refl
  one_cause _ _ c d = grind (arith, held_is_old)

-- the graph after the insertion of an entry is unique
comes_one : {A : Type 0} (format : Format) (old : List (Entry A)) (entry : Entry A) (new other : List (Entry A))
    → ComesIn format old entry new → ComesIn format old entry other → new ≡ other
comes_one format old entry new other a b = grind arith

-- an entry that can be inserted is refused only with `Memory`
comes_refused : {A : Type 0} (format : Format) (old : List (Entry A)) (entry : Entry A) (new : List (Entry A)) (fault : GraphFault) → ComesIn format old entry new → IsCause format old entry fault → fault ≡ Memory
comes_refused format old entry new fault comes cause =
    elim (fit_fault format old entry fault comes.ids comes.shaped (λ other held. grind arith) cause) [
      | inl many ↦
          let connected = subst (IsCause format old entry) many cause in
          let room = comes.room connected.1 in absurd (omega (arith, connected.2))
      | inr memory ↦ memory
    ]

-- a list of entries is refused with this fault, defined by recursion over the list
abbrev pub Refuses : {A : Type 0} → Format → List (Entry A) → List (Entry A) → GraphFault → Type 0
Refuses format [] old fault = ⊥
Refuses {A} format (entry ∷ entries) old fault =
    IsCause format old entry fault ⊎ ((next : List (Entry A)) × ComesIn format old entry next × Refuses format entries next fault)

refuses_front : {A : Type 0} (format : Format) (old front : List (Entry A)) (entry : Entry A) (back so_far : List (Entry A)) (fault : GraphFault) → Inserts format old front so_far → IsCause format so_far entry fault → Refuses format (front ++ entry ∷ back) old fault
refuses_front {A} format old [] entry back so_far fault comes cause =
    let P : List (Entry A) → Type 0 = λ xs. IsCause format xs entry fault in inl (subst P comes cause)
refuses_front format old (first ∷ front) entry back so_far fault (next, comes, rest) cause =
    inr (next, comes, refuses_front format next front entry back so_far fault rest cause)

pub refuses_of : {A : Type 0} (format : Format) (old entries : List (Entry A)) (fault : GraphFault) → IsRefused format old entries fault → Refuses format entries old fault
refuses_of {A} format old entries fault refused =
    rw refused.parts (refuses_front format old refused.front refused.entry refused.back refused.so_far fault refused.comes refused.cause)

pub one_refusal : {A : Type 0} (format : Format) (entries old : List (Entry A)) (fault other : GraphFault) → Refuses format entries old fault → Refuses format entries old other → fault ≢ Memory → other ≢ Memory → fault ≡ other
one_refusal format [] old fault other one two some more = absurd one
one_refusal format (entry ∷ entries) old fault other (inl a) (inl b) some more = one_cause format old entry fault other a b
one_refusal format (entry ∷ entries) old fault other (inl a) (inr (next, comes, rest)) some more = absurd (some (comes_refused format old entry next fault comes a))
one_refusal format (entry ∷ entries) old fault other (inr (next, comes, rest)) (inl b) some more = absurd (more (comes_refused format old entry next other comes b))
one_refusal {A} format (entry ∷ entries) old fault other (inr (next, comes, rest)) (inr (then, also, last)) some more =
    one_refusal format entries next fault other rest (rw (← comes_one format old entry next then comes also) at last) some more

pub whole_refusal : {A : Type 0} (format : Format) (entries old new : List (Entry A)) (fault : GraphFault) → Inserts format old entries new → Refuses format entries old fault → fault ≡ Memory
whole_refusal format [] old new fault inserts refuses = absurd refuses
whole_refusal format (entry ∷ entries) old new fault (next, comes, rest) (inl cause) = comes_refused format old entry next fault comes cause
whole_refusal {A} format (entry ∷ entries) old new fault (next, comes, rest) (inr (then, also, last)) =
    whole_refusal format entries next new fault rest (rw (← comes_one format old entry next then comes also) at last)

pub one_outcome : {A : Type 0} (format : Format) (entries old new other : List (Entry A)) → Inserts format old entries new → Inserts format old entries other → new ≡ other
one_outcome format [] old new other one two = one ∙ sym two
one_outcome {A} format (entry ∷ entries) old new other (next, comes, rest) (then, also, last) =
    one_outcome format entries next new other rest (rw (← comes_one format old entry next then comes also) at last)
