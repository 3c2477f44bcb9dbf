-- Chains of tags: a chain has at most one end, and a chain that ends is not longer than the graph.
use Rattle.std.proofs.Common.{◌≡◌, ◌⊎◌, inl, inr, ℕ, zero, suc, ◌+◌, ◌-◌, ◌<◌, ◌≤◌, List, [], ◌∷◌, length, Bool, true, false, is_some, Some, None, refl, sym, ◌∙◌, ap, subst, arith}
use Rattle.std.specs.Str.{bytes_eq}
use Rattle.std.specs.List.{AllByRecursion, IsDistinct, slice_get}
use Rattle.std.proofs.lemmas.Cmp.{nat_list_eq_equiv}
use Rattle.std.proofs.lemmas.List.{length-map}
use Rattle.std.proofs.lemmas.List.Elements.{All-contains, All-from_recursion}
use Rattle.std.proofs.lemmas.Map.Made.{length-le_from_is_member}
use Rattle.std.proofs.lemmas.Slice.Eq.{bytes_eq-Decides}
use Rattle.gobject.specs.declared.node.Kind.TheVariants.{Tag}
use Rattle.gobject.specs.declared.node.Node.{Node}
use Rattle.gobject.specs.declared.node.Entry.{Entry}
use Rattle.gdag.specs.Graphs.{Holds, IsNode}
use Rattle.gdag.specs.Peeling.{IsTagOf, IsCommit, Tags, PeelsTo}
use Rattle.gdag.proofs.Holding.{one_node}
use Rattle.gdag.proofs.IdLists.{any_from_contains, contains_from_any}
use Rattle.gdag.proofs.Reaching.{held_among, ids_of}

module _ {A : Type 0} (g : List (Entry A)) where
  pub no_tag : (a b : List ℕ) → IsCommit g a → IsTagOf g a b → ⊥
  no_tag a b commit tag =
      let same = one_node g a commit.node tag.node commit.held tag.held in
      let kinds = sym commit.commit ∙ ap (λ (n : Node A). n.kind) same ∙ tag.tag in cc

  pub one_next : (a b c : List ℕ) → IsTagOf g a b → IsTagOf g a c → b ≡ c
  one_next a b c tb tc =
      let same = one_node g a tb.node tc.node tb.held tc.held in
      let both : Some b ≡ Some c = sym tb.names ∙ ap (λ (n : Node A). slice_get n.parents 0) same ∙ tc.names in cc

  -- a chain from `a` to a commit passes through each id `b` to which a chain from `a` leads
  pub onward : (m i : ℕ) (a b c : List ℕ) → Tags g m a c → IsCommit g c → Tags g i a b → (j : ℕ) × (m ≡ i + j) × Tags g j b c
  onward m zero a b c chain commit here = (m, omega arith, subst (λ (x : List ℕ). Tags g m x c) here chain)
  onward zero (suc i) a b c chain commit (next, tag, rest) = absurd (no_tag c next commit (subst (λ (x : List ℕ). IsTagOf g x next) chain tag))
  onward (suc m) (suc i) a b c (next, tag, rest) commit (next', tag', rest') =
      let same = one_next a next' next tag' tag in
      let more = onward m i next b c rest commit (subst (λ (x : List ℕ). Tags g i x b) same rest') in
      (more.0, omega (arith, more.1), more.2)

  -- each id on a chain that ends is the commit at the end, or a tag
  pub peel_cases : (a b c : List ℕ) (i : ℕ) → Tags g i a b → PeelsTo g a c
      → ((b ≡ c) × IsCommit g b) ⊎ ((next : List ℕ) × IsTagOf g b next)
  peel_cases a b c i here (m, chain, commit) = by (onward m i a b c chain commit here)
    where
      by : (j : ℕ) × (m ≡ i + j) × Tags g j b c → ((b ≡ c) × IsCommit g b) ⊎ ((next : List ℕ) × IsTagOf g b next)
      by (zero, e, end) = inl (end, subst (λ (x : List ℕ). IsCommit g x) (sym end) commit)
      by (suc j, e, (next, tag, rest)) = inr (next, tag)

  pub peel_stuck : (a b c : List ℕ) (i : ℕ) → Tags g i a b → ((node : Node A) → IsNode g b node → ⊥) → PeelsTo g a c → ⊥
  peel_stuck a b c i here missing peels =
      elim (peel_cases a b c i here peels) [ inl r ↦ missing r.1.node r.1.held | inr t ↦ missing t.1.node t.1.held ]

  pub peel_ends : (a b c : List ℕ) (i : ℕ) → Tags g i a b → IsCommit g b → PeelsTo g a c → b ≡ c
  peel_ends a b c i here last peels =
      elim (peel_cases a b c i here peels) [ inl r ↦ r.0 | inr t ↦ absurd (no_tag b t.0 last t.1) ]

  pub peel_nameless : (a b c : List ℕ) (i : ℕ) (node : Node A) → Tags g i a b → IsNode g b node → node.kind ≡ Tag → slice_get node.parents 0 ≡ None → PeelsTo g a c → ⊥
  peel_nameless a b c i node here held tag none peels =
      elim (peel_cases a b c i here peels) [
        | inl r ↦
            let same = one_node g b r.1.node node r.1.held held in
            let kinds = sym r.1.commit ∙ ap (λ (n : Node A). n.kind) same ∙ tag in cc
        | inr t ↦
            let same = one_node g b t.1.node node t.1.held held in
            let clash = sym t.1.names ∙ ap (λ (n : Node A). slice_get n.parents 0) same ∙ none in cc
      ]

  pub tags_more : (m : ℕ) (a b c : List ℕ) → Tags g m a b → IsTagOf g b c → Tags g (suc m) a c
  tags_more zero a b c here tag = (c, subst (λ (x : List ℕ). IsTagOf g x c) (sym here) tag, refl)
  tags_more (suc m) a b c (next, first, rest) tag = (next, first, tags_more m next b c rest tag)

  -- a chain of tags followed by another chain
  pub tags_on : (m n : ℕ) (a b c : List ℕ) → Tags g m a b → Tags g n b c → (k : ℕ) × Tags g k a c
  tags_on zero n a b c same rest = (n, subst (λ (x : List ℕ). Tags g n x c) (sym same) rest)
  tags_on (suc m) n a b c (next, tag, more) rest =
      let on = tags_on m n next b c more rest in (suc on.0, (next, tag, on.1))

  pub one_tag_more : (m : ℕ) (a b c : List ℕ) (node : Node A) → Tags g m a b → IsNode g b node → node.kind ≡ Tag → slice_get node.parents 0 ≡ Some c → Tags g (suc m) a c
  one_tag_more m a b c node chain held tag names =
      tags_more m a b c chain (record { node = node; held = held; tag = tag; names = names })

  -- a tag whose chain ends is not on a cycle
  pub no_cycle : (fuel m k : ℕ) (a c : List ℕ) → m ≤ fuel → Tags g m a c → IsCommit g c → Tags g (suc k) a a → ⊥
  no_cycle zero m k a c le chain commit (next, tag, rest) =
      let more = onward m (suc k) a a c chain commit (next, tag, rest) in omega (arith, more.1)
  no_cycle (suc fuel) m k a c le chain commit (next, tag, rest) =
      let more = onward m (suc k) a a c chain commit (next, tag, rest) in
      no_cycle fuel more.0 k a c (omega (arith, more.1)) more.2 commit (next, tag, rest)

  -- the rest of a longer chain from the same id
  pub rest_of : (i m d : ℕ) (a b c : List ℕ) → m ≡ i + d → Tags g i a b → Tags g m a c → Tags g d b c
  rest_of zero m d a b c e here more =
      let same : m ≡ d = omega (arith, e) in
      subst (λ (x : List ℕ). Tags g d x c) here (subst (λ (k : ℕ). Tags g k a c) same more)
  rest_of (suc i) zero d a b c e here more = absurd (omega (arith, e))
  rest_of (suc i) (suc m) d a b c e (next, tag, rest) (next', tag', rest') =
      let same = one_next a next' next tag' tag in
      rest_of i m d next b c (omega (arith, e)) rest (subst (λ (x : List ℕ). Tags g m x c) same rest')

  -- a chain that reaches the same id twice does not end
  pub peel_round : (a b c : List ℕ) (i m : ℕ) → i < m → Tags g i a b → Tags g m a b → PeelsTo g a c → ⊥
  peel_round a b c i m less here again (k, chain, commit) =
      let d = m - suc i in
      let round : Tags g (suc d) b b = rest_of i m (suc d) a b b (omega (arith, less)) here again in
      let end = onward k i a b c chain commit here in
      no_cycle end.0 end.0 d b c (omega arith) end.2 commit round

  -- the ids on a chain, in order
  trail : (m : ℕ) (a c : List ℕ) → Tags g m a c → List (List ℕ)
  trail zero a c here = a ∷ []
  trail (suc m) a c (next, tag, rest) = a ∷ trail m next c rest

  length-trail : (m : ℕ) (a c : List ℕ) (chain : Tags g m a c) → length (trail m a c chain) ≡ suc m
  unfolding trail
  length-trail zero a c here = omega arith
  length-trail (suc m) a c (next, tag, rest) = omega (arith, length-trail m next c rest)

  all_trail : (P : List ℕ → Type 0) (m : ℕ) (a c : List ℕ) (chain : Tags g m a c) → ((k : ℕ) (y : List ℕ) → Tags g k a y → P y) → AllByRecursion P (trail m a c chain)
  unfolding trail
  all_trail P zero a c here each = (each 0 a refl, tt)
  all_trail P (suc m) a c (next, tag, rest) each = (each 0 a refl, all_trail P m next c rest (λ k y more. each (suc k) y (next, tag, more)))

  differ : (a b : List ℕ) (v : Bool) → bytes_eq a b ≡ v → (a ≡ b → ⊥) → bytes_eq a b ≡ false
  differ a b true h apart = absurd (apart ((bytes_eq-Decides a b).0 h))
  differ a b false h apart = h

  trail_distinct : (m : ℕ) (a c : List ℕ) (chain : Tags g m a c) → IsCommit g c → IsDistinct bytes_eq (trail m a c chain)
  unfolding trail IsDistinct
  trail_distinct zero a c here commit = (tt, tt)
  trail_distinct (suc m) a c (next, tag, rest) commit = (
    all_trail (λ (y : List ℕ). bytes_eq a y ≡ false) m next c rest
        (λ k y more. differ a y (bytes_eq a y) refl (λ same. no_cycle (suc m) (suc m) k a c (omega arith) (next, tag, rest) commit (next, tag, subst (λ (x : List ℕ). Tags g k next x) (sym same) more))),
    trail_distinct m next c rest commit,
  )

-- ---- the length of a chain that ends

chain_held : {A : Type 0} → (g : List (Entry A)) (m k : ℕ) (a c y : List ℕ) → Tags g m a c → IsCommit g c → Tags g k a y → Holds g y
chain_held g m k a c y chain commit here =
    elim (peel_cases g a y c k here (m, chain, commit)) [ inl r ↦ ap is_some r.1.held | inr t ↦ ap is_some t.1.held ]

chain_short : {A : Type 0} → (g : List (Entry A)) (m : ℕ) (a c : List ℕ) → Tags g m a c → IsCommit g c → suc m ≤ length g
chain_short {A} g m a c chain commit =
    let ids = trail g m a c chain in
    let held = All-from_recursion (Holds g) ids
    (all_trail g (Holds g) m a c chain (λ k y here. chain_held g m k a c y chain commit here)) in
    let within = length-le_from_is_member nat_list_eq_equiv ids (ids_of g) (trail_distinct g m a c chain commit)
    (λ q h. any_from_contains (ids_of g) q
    (held_among g q (All-contains (Holds g) ids q held (contains_from_any ids q h)))) in
    omega (arith, within, length-trail g m a c chain, length-map g (λ (entry : Entry A). entry.id))

pub peel_long : {A : Type 0} → (g : List (Entry A)) (i : ℕ) (a b c : List ℕ) → length g ≤ i → Tags g i a b → PeelsTo g a c → ⊥
peel_long g i a b c long here (m, chain, commit) =
    let more = onward g m i a b c chain commit here in
    omega (arith, chain_short g m a c chain commit, more.1)
