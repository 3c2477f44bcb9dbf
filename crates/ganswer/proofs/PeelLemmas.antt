-- Peeling tags: following a chain of tags decides whether it ends at a commit, and new objects do not change the
-- result.
use Rattle.std.proofs.Common.{◌≡◌, ◌⊎◌, inl, inr, ℕ, zero, suc, Bool, true, false, cond, List, [], ◌∷◌, Option, Some}
use Rattle.std.proofs.Common.{None, refl, sym, ap, ◌∙◌, subst, arith, ◌<◌, ◌++◌, length, get_or, Bor}
use Rattle.std.specs.Prelude.{find, slice_get, option_map, IfSome, option_copied, bytes_eq}
use Rattle.std.proofs.lemmas.Option.{none-some, same_Some, get_or_from_slice_get, slice_get_read, slice_get_within}
use Rattle.std.proofs.lemmas.Slice.Eq.{bytes_eq-Decides}
use Rattle.gobject.specs.declared.node.Kind.TheVariants.{Commit, Tag}
use Rattle.gobject.specs.declared.node.Node.{Node}
use Rattle.gobject.specs.declared.node.Entry.{Entry}
use Rattle.gobject.specs.Objects.{has_id, node_at}
use Rattle.gobject.specs.declared.node.Kind.{Kind}
use Rattle.gdag.specs.Peeling.{IsCommit, IsTagOf, PeelsTo, Tags}
use Rattle.gdag.specs.Graphs.{Holds, IsNode}
use Rattle.gdag.specs.Reach.{IsClosed, Keeps}
use Rattle.gdag.proofs.PeelLemmas.{no_cycle, no_tag, onward, tags_on}
use Rattle.gdag.proofs.Holding.{one_node, held_node}
use Rattle.gdag.proofs.Growing.{all_standing}
use Rattle.std.specs.Slice.{IsItemAt}
use Rattle.std.proofs.lemmas.Bool.{ltb-true}
use Rattle.grefs.specs.RefLists.{RefList}
use Rattle.ganswer.specs.LsAnswers.{IsPeeled, KnowsPeels, TagPeelsTo}
use Rattle.ganswer.specs.Servers.{HoldsRefs}
use Rattle.ganswer.proofs.FitLemmas.{unmap}

module _ {A : Type 0} (g : List (Entry A)) where
  -- the id peels to no commit
  abbrev pub NeverPeels : List ℕ → Type 0
  NeverPeels a = (c : List ℕ) → ¬ (PeelsTo g a c)

  abbrev pub PeelsOrNot : List ℕ → Type 0
  PeelsOrNot a = ((c : List ℕ) × PeelsTo g a c) ⊎ NeverPeels a

  -- ---- the kind of one object

  commit_or_not : (a : List ℕ) → IsCommit g a ⊎ (IsCommit g a → ⊥)
  commit_or_not a = by_node (node_at g a) refl
    where
      by_kind : (node : Node A) → node_at g a ≡ Some node → (k : Kind) → node.kind ≡ k → IsCommit g a ⊎ (IsCommit g a → ⊥)
      by_kind node held Commit commit = inl (record { node = node; held = held; commit = commit })
      by_kind node held Tag tag =
          inr (λ other.
          let same = one_node g a node other.node held other.held in
          let kinds : Tag ≡ Commit = sym tag ∙ ap (λ (n : Node A). n.kind) same ∙ other.commit in cc)

      by_node : (o : Option (Node A)) → node_at g a ≡ o → IsCommit g a ⊎ (IsCommit g a → ⊥)
      by_node None missing = inr (λ other. none-some other.node (sym missing ∙ other.held))
      by_node (Some node) held = by_kind node held node.kind refl

  abbrev pub TagOrNot : List ℕ → Type 0
  TagOrNot a = ((b : List ℕ) × IsTagOf g a b) ⊎ ((b : List ℕ) → IsTagOf g a b → ⊥)

  pub tag_or_not : (a : List ℕ) → TagOrNot a
  tag_or_not a = by_node (node_at g a) refl
    where
      by_parent : (node : Node A) → node_at g a ≡ Some node → node.kind ≡ Tag → (o : Option (List ℕ)) → slice_get node.parents 0 ≡ o → TagOrNot a
      by_parent node held tag (Some b) names = inl (b, record { node = node; held = held; tag = tag; names = names })
      by_parent node held tag None none =
          inr (λ b other.
          let same = one_node g a node other.node held other.held in
          none-some b (sym none ∙ ap (λ (n : Node A). slice_get n.parents 0) same ∙ other.names))

      by_kind : (node : Node A) → node_at g a ≡ Some node → (k : Kind) → node.kind ≡ k → TagOrNot a
      by_kind node held Tag tag = by_parent node held tag (slice_get node.parents 0) refl
      by_kind node held Commit commit = inr (λ b other. no_tag g a b (record { node = node; held = held; commit = commit }) other)

      by_node : (o : Option (Node A)) → node_at g a ≡ o → TagOrNot a
      by_node None missing = inr (λ b other. none-some other.node (sym missing ∙ other.held))
      by_node (Some node) held = by_kind node held node.kind refl

  -- ---- chains of tags

  -- an id peels to no commit if a chain of tags leads from it back to itself
  comes_round : (i : ℕ) (a : List ℕ) → Tags g (suc i) a a → NeverPeels a
  comes_round i a round c (m, chain, commit) = no_cycle g m m i a c (omega arith) chain commit round

  -- whether `a` peels to a commit follows from whether `b` does, if tags lead from `a` to `b`
  as_later : (i : ℕ) (a b : List ℕ) → Tags g i a b → PeelsOrNot b → PeelsOrNot a
  as_later i a b leads (inl (c, (m, chain, commit))) =
      let all = tags_on g i m a b c leads chain in
      inl (c, (all.0, all.1, commit))
  as_later i a b leads (inr never) =
      inr (λ c peels.
      let more = onward g peels.0 i a b c peels.1 peels.2 leads in
      never c (more.0, more.2, peels.2))

  -- an id that is not a tag peels to itself or to no commit
  at_end : (a : List ℕ) → ((b : List ℕ) → IsTagOf g a b → ⊥) → PeelsOrNot a
  at_end a untagged =
      elim (commit_or_not a) [
        | inl commit ↦ inl (a, (zero, refl, commit))
        | inr no_commit ↦ inr (λ c peels. over c peels no_commit)
      ]
    where
      over : (c : List ℕ) → PeelsTo g a c → (IsCommit g a → ⊥) → ⊥
      over c (zero, here, commit) no_commit = no_commit (subst (IsCommit g) (sym here) commit)
      over c (suc m, (next, tag, rest), commit) no_commit = untagged next tag

  -- ---- following a chain through a growing list of entries

  -- tags lead from the id `a` to an id that no entry of `h` has
  record LeadsOut (h : List (Entry A)) (a : List ℕ) : Type 0 where
    steps : ℕ
    last : List ℕ
    leads : Tags g steps a last
    out : node_at h last ≡ None

  abbrev Follows : List (Entry A) → List ℕ → Type 0
  Follows h a = PeelsOrNot a ⊎ LeadsOut h a

  -- following chains through the entries of `h` and one more entry
  module _ (entry : Entry A) (h : List (Entry A)) (follow_others : (b : List ℕ) → Follows h b) where
    entry_is : (b : List ℕ) → bytes_eq entry.id b ≡ true → entry.id ≡ b
    entry_is b same = (bytes_eq-Decides entry.id b).0 same

    outside : (b : List ℕ) → bytes_eq entry.id b ≡ false → node_at h b ≡ None → node_at (entry ∷ h) b ≡ None
    outside b differs out = ap (λ (v : Bool). option_map (λ (e : Entry A). e.node) (cond v (Some entry) (find (has_id b) h))) differs ∙ out

    module _ (a : List ℕ) where
      -- after `entry`, the chain either returns to `entry` or leads to an id that no entry has
      again : (i : ℕ) (b next : List ℕ) → Tags g i a b → entry.id ≡ b → IsTagOf g b next → (out : LeadsOut h next) → (v : Bool) → bytes_eq entry.id out.last ≡ v → Follows (entry ∷ h) a
      again i b next leads here tag out true same =
          let back : out.last ≡ b = sym (entry_is out.last same) ∙ here in
          inl (as_later i a b leads (inr (comes_round out.steps b (next, tag, subst (λ (x : List ℕ). Tags g out.steps next x) back out.leads))))
      again i b next leads here tag out false differs =
          let all = tags_on g i (suc out.steps) a b out.last leads (next, tag, out.leads) in
          inr (record { steps = all.0; last = out.last; leads = all.1; out = outside out.last differs out.out })

      by_tag : (i : ℕ) (b next : List ℕ) → Tags g i a b → entry.id ≡ b → IsTagOf g b next → Follows h next → Follows (entry ∷ h) a
      by_tag i b next leads here tag (inl known) = inl (as_later i a b leads (as_later (suc zero) b next (next, tag, refl) known))
      by_tag i b next leads here tag (inr out) = again i b next leads here tag out (bytes_eq entry.id out.last) refl

      at_entry : (i : ℕ) (b : List ℕ) → Tags g i a b → entry.id ≡ b → TagOrNot b → Follows (entry ∷ h) a
      at_entry i b leads here (inl (next, tag)) = by_tag i b next leads here tag (follow_others next)
      at_entry i b leads here (inr untagged) = inl (as_later i a b leads (at_end b untagged))

      by_last : (out : LeadsOut h a) (v : Bool) → bytes_eq entry.id out.last ≡ v → Follows (entry ∷ h) a
      by_last out true same = at_entry out.steps out.last out.leads (entry_is out.last same) (tag_or_not out.last)
      by_last out false differs = inr (record { steps = out.steps; last = out.last; leads = out.leads; out = outside out.last differs out.out })

      follow_more : Follows h a → Follows (entry ∷ h) a
      follow_more (inl known) = inl known
      follow_more (inr out) = by_last out (bytes_eq entry.id out.last) refl

  follow : (h : List (Entry A)) (a : List ℕ) → Follows h a
  follow [] a = inr (record { steps = zero; last = a; leads = refl; out = refl })
  follow (entry ∷ h) a = follow_more entry h (λ b. follow h b) a (follow h a)

  -- whether an id peels to a commit can be decided, since an id outside the graph is not a tag
  pub peels_or_not : (a : List ℕ) → PeelsOrNot a
  peels_or_not a =
      elim (follow g a) [
        | inl known ↦ known
        | inr out ↦ as_later out.steps a out.last out.leads (at_end out.last (λ b tag. none-some tag.node (sym out.out ∙ tag.held)))
      ]

-- ---- peeled ids after objects are added to a closed graph

module _ {A : Type 0} (g h : List (Entry A)) (keeps : Keeps g h) where
  -- ---- from the old graph to the new graph

  tag_stays : (a b : List ℕ) → IsTagOf g a b → IsTagOf h a b
  tag_stays a b is = record { node = is.node; held = keeps a is.node is.held; tag = is.tag; names = is.names }

  tags_stay : (m : ℕ) (a b : List ℕ) → Tags g m a b → Tags h m a b
  tags_stay zero a b same = same
  tags_stay (suc m) a b (next, tag, rest) = (next, tag_stays a next tag, tags_stay m next b rest)

  leads_on : (a c : List ℕ) → TagPeelsTo g a c → TagPeelsTo h a c
  leads_on a c leads =
      let peels = leads.peels in
      let last = peels.2 in
      record {
        named = leads.named;
        tag = tag_stays a leads.named leads.tag;
        peels = (peels.0, tags_stay peels.0 a c peels.1, record { node = last.node; held = keeps c last.node last.held; commit = last.commit });
      }

  -- ---- from the new graph to the old graph, for ids that the old graph holds

  was_in : (a : List ℕ) (node : Node A) → Holds g a → IsNode h a node → IsNode g a node
  was_in a node held is =
      let was = held_node g a held in
      was.1 ∙ ap (λ (n : Node A). Some n) (one_node h a was.0 node (keeps a was.0 was.1) is)

  tag_was : (a b : List ℕ) → Holds g a → IsTagOf h a b → IsTagOf g a b
  tag_was a b held is = record { node = is.node; held = was_in a is.node held is.held; tag = is.tag; names = is.names }

  commit_was : (a : List ℕ) → Holds g a → IsCommit h a → IsCommit g a
  commit_was a held is = record { node = is.node; held = was_in a is.node held is.held; commit = is.commit }

  module _ (closed : IsClosed g) where
    named_is_held : (a b : List ℕ) → IsTagOf g a b → Holds g b
    named_is_held a b is =
        closed a b (is.node, is.held, (0, slice_get_within is.node.parents 0 b is.names, get_or_from_slice_get is.node.parents 0 b b is.names))

    peeled_was : (m : ℕ) (a c : List ℕ) → Holds g a → Tags h m a c → IsCommit h c → PeelsTo g a c
    peeled_was zero a c held same commit = (zero, same, commit_was c (subst (Holds g) same held) commit)
    peeled_was (suc m) a c held (next, tag, rest) commit =
        let here = tag_was a next held tag in
        let more = peeled_was m next c (named_is_held a next here) rest commit in
        (suc more.0, (next, here, more.1), more.2)

    led_there : (a c : List ℕ) → Holds g a → TagPeelsTo h a c → TagPeelsTo g a c
    led_there a c held leads =
        let peels = leads.peels in
        record { named = leads.named; tag = tag_was a leads.named held leads.tag; peels = peeled_was peels.0 a c held peels.1 peels.2 }

    stays_peeled : (a : List ℕ) → Holds g a → (peeled : Option (List ℕ)) → IsPeeled g a peeled → IsPeeled h a peeled
    stays_peeled a held None never = λ c leads. never c (led_there a c held leads)
    stays_peeled a held (Some c) leads = leads_on a c leads

    pub stays_known : (refs : RefList) (peels : List (Option (List ℕ))) → HoldsRefs g refs → KnowsPeels g refs peels → KnowsPeels h refs peels
    stays_known refs peels held knows k ref peeled at known =
        let P : List ℕ × List ℕ → Type 0 = λ ref. Holds g ref.1 in
        stays_peeled ref.1 (all_standing P refs k ref at (unmap (Holds g) (λ (r : List ℕ × List ℕ). r.1) refs held)) peeled (knows k ref peeled at known)

-- ---- the list of known peeled ids

module _ {A : Type 0} (g : List (Entry A)) (refs : RefList) where
  pub knows_none : KnowsPeels g refs []
  knows_none k ref peeled at known = absurd (none-some peeled known)

  at_push : {X : Type 0} (xs : List X) (y : X) (k : ℕ) (x : X) → slice_get (xs ++ y ∷ []) k ≡ Some x → (slice_get xs k ≡ Some x) ⊎ ((k ≡ length xs) × (y ≡ x))
  at_push [] y zero x at = inr (refl, cc)
  at_push [] y (suc k) x at = absurd (none-some x at)
  at_push (first ∷ xs) y zero x at = inl at
  at_push (first ∷ xs) y (suc k) x at =
      elim (at_push xs y k x at) [
        | inl there ↦ inl there
        | inr last ↦ inr (omega (arith, last.0), last.1)
      ]

  knows_more : (peels : List (Option (List ℕ))) (ref : List ℕ × List ℕ) (peeled : Option (List ℕ)) → KnowsPeels g refs peels → slice_get refs (length peels) ≡ Some ref → IsPeeled g ref.1 peeled
      → KnowsPeels g refs (peels ++ peeled ∷ [])
  knows_more peels ref peeled knows here is k other what at known =
      elim (at_push peels peeled k what known) [
        | inl before ↦ knows k other what at before
        | inr last ↦
            let same : Some ref ≡ Some other = sym here ∙ ap (slice_get refs) (sym last.0) ∙ at in
            subst (λ (r : List ℕ × List ℕ). IsPeeled g r.1 what) (same_Some ref other same) (subst (IsPeeled g ref.1) last.1 is)
      ]

  -- the list stays correct if it is unchanged, or if it gets the peeled id of the next ref
  pub knows_next : (old new : List (Option (List ℕ))) (place : ℕ) (ref : List ℕ × List ℕ) (peeled : Option (List ℕ)) → KnowsPeels g refs old → slice_get refs place ≡ Some ref → IsPeeled g ref.1 peeled
      → (new ≡ old) ⊎ ((length old ≡ place) × (new ≡ old ++ peeled ∷ [])) → KnowsPeels g refs new
  knows_next old new place ref peeled knows here is (inl same) = subst (KnowsPeels g refs) (sym same) knows
  knows_next old new place ref peeled knows here is (inr more) =
      subst (KnowsPeels g refs) (sym more.1) (knows_more old ref peeled knows (ap (slice_get refs) more.0 ∙ here) is)

  -- an item of the list is the peeled id of the ref at the same index
  pub known_item : (peels : List (Option (List ℕ))) → KnowsPeels g refs peels → (place : ℕ) (item : Option (Bor (Option (List ℕ)))) → IsItemAt peels place item
      → (ref : List ℕ × List ℕ) → slice_get refs place ≡ Some ref → IfSome (option_copied item) (IsPeeled g ref.1)
  known_item peels knows place None is ref at = tt
  known_item peels knows place (Some lent) is ref at =
      knows place ref lent.now at (slice_get_read peels (length peels) place lent.now refl (ltb-true _ _ (sym is.0)) is.1)

-- the item at index `k` of a list that equals the refs is the ref at index `k`
pub ref_there : (list refs : RefList) → list ≡ refs → (k : ℕ) (ref : List ℕ × List ℕ) → k < length list → ref ≡ get_or list k ref → slice_get refs k ≡ Some ref
ref_there list refs same k ref inside is =
    subst (λ (r : RefList). slice_get r k ≡ Some ref) same (slice_get_read list (length list) k ref refl inside is)
