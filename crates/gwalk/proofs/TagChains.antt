-- Chains of tags, position by position.
use Rattle.std.proofs.Common.{◌≡◌, ◌⊎◌, inl, inr, ℕ, zero, suc, ◌+◌, ◌<◌, ◌≤◌, Bool, true, false, List, [], ◌∷◌, length, get_or, set, take, replicate, Some, None, MatchOption, refl, sym, ap, ◌∙◌, subst, arith}
use Rattle.std.specs.List.{slice_get}
use Rattle.std.specs.Option.{option_map}
use Rattle.std.proofs.lemmas.List.{length-set}
use Rattle.std.proofs.lemmas.List.Elements.{Contains-append_left, Contains-push}
use Rattle.std.proofs.lemmas.Option.{none-some, same_Some}
use Rattle.std.proofs.lemmas.Bool.{false≢true}
use Rattle.gobject.specs.declared.node.Kind.TheVariants.{Commit, Tag}
use Rattle.gobject.specs.declared.node.Node.{Node}
use Rattle.gobject.specs.declared.node.Entry.{Entry}
use Rattle.gobject.specs.Objects.{position_of, IsShaped}
use Rattle.gdag.specs.Peeling.{IsTagOf, IsCommit, Tags, PeelsTo}
use Rattle.gwalk.specs.steps.Passes.{IsInOrder, IsPositionOf, IsCommitAt, IsTagAt, IsLedTo, IsPeeledAt, IsOnChain}
use Rattle.gwalk.specs.steps.Passes.{MarksChain, IsOpenTag, MarksTags, is_marked, is_open}
use Rattle.gdag.proofs.Growing.{take_one, all_standing}
use Rattle.gdag.specs.Graphs.{IsNode}
use Rattle.gdag.proofs.IdLists.{nothing_in_nil}
use Rattle.gdag.proofs.Holding.{own_position}
use Rattle.gdag.proofs.PeelLemmas.{no_tag, one_next, onward, peel_ends, tags_more}
use Rattle.gdag.proofs.Reaching.{position_same, node_at_position}
use Rattle.gdag.proofs.Sharing.{names_parent}
use Rattle.gwalk.proofs.Positions.{one_position, entry_there}
use Rattle.gwalk.proofs.Positions.{HasParentsFirst, parents_first, set_cases, set_there, set_kept, none_marked, position_next}

first_none : (xs : List (List ℕ)) → length xs ≡ 1 → slice_get xs 0 ≡ None → ⊥
first_none [] one none = omega arith
first_none (x ∷ xs) one none = none-some x (sym none)

-- ---- the object at a position

module _ {A : Type 0} (g : List (Entry A)) (order : IsInOrder g) (p : ℕ) (inside : p < length g) where
  there : (entry : Entry A) × (slice_get g p ≡ Some entry)
  there = entry_there g p inside

  own : position_of g (there.0).id ≡ Some p
  own = own_position g p there.0 order.differ there.1

  pub led_none : IsLedTo g p p
  led_none = record { id = (there.0).id; at = own; end = (there.0).id; end_at = own; steps = zero; leads = refl }

  module _ (node : Node A) (are : option_map (λ entry. entry.node) (slice_get g p) ≡ Some node) where
    held : IsNode g (there.0).id node
    held = node_at_position g (there.0).id p own ∙ are

    pub commit_at : node.kind ≡ Commit → IsCommitAt g p
    commit_at kind =
        record { id = (there.0).id; at = own; commit = record { node = node; held = held; commit = kind } }

    -- a tag names an object
    pub tag_named : node.kind ≡ Tag → slice_get node.parents 0 ≡ None → ⊥
    tag_named kind none =
        let same = same_Some (there.0).node node (sym (ap (option_map (λ (entry : Entry A). entry.node)) there.1) ∙ are) in
        let shaped = all_standing (λ (entry : Entry A). IsShaped entry.node) g p there.0 there.1 order.shaped in
        first_none node.parents ((subst (λ (n : Node A). IsShaped n) same shaped).tag kind) none

    pub tag_at : (b : List ℕ) → node.kind ≡ Tag → slice_get node.parents 0 ≡ Some b → MatchOption (position_of g b) (IsCommitAt g p) (λ q. IsTagAt g p q)
    tag_at b kind names =
        let a = (there.0).id in
        let tag : IsTagOf g a b = record { node = node; held = held; tag = kind; names = names } in
        let q = parents_first g order a b p own (names_parent g a b tag) in
        rw q.1 (record { id = a; at = own; named = b; named_at = q.1; tag = tag; below = q.2 })

-- ---- along a chain

module _ {A : Type 0} (g : List (Entry A)) where
  pub led_more : (p q r : ℕ) → IsLedTo g p q → IsTagAt g q r → IsLedTo g p r
  led_more p q r led tag =
      let same = position_same g tag.id led.end q tag.at led.end_at in
      let T : List ℕ → Type 0 = λ x. IsTagOf g x tag.named in
      record { id = led.id; at = led.at; end = tag.named; end_at = tag.named_at; steps = suc led.steps; leads = tags_more g led.steps led.id led.end tag.named led.leads (subst T same tag.tag) }

  -- a tag to which the chain leads is on the chain
  pub chain_here : (p q r : ℕ) → IsLedTo g p q → IsTagAt g q r → IsOnChain g p q
  chain_here p q r led tag =
      let same = position_same g tag.id led.end q tag.at led.end_at in
      let T : List ℕ → Type 0 = λ x. IsTagOf g x tag.named in
      record { led = led; next = tag.named; tag = subst T same tag.tag }

  led_on : (p q r : ℕ) (tag : IsTagAt g p q) (id end : List ℕ) (steps : ℕ) → position_of g id ≡ Some p → position_of g end ≡ Some r → Tags g steps id end → (p ≡ r) ⊎ ((led : IsLedTo g q r) × (led.end ≡ end))
  led_on p q r tag id end zero at end_at same =
      inl (one_position g id p r at (ap (position_of g) same ∙ end_at))
  led_on p q r tag id end (suc m) at end_at (next, first, rest) =
      let here = position_same g id tag.id p at tag.at in
      let T : List ℕ → Type 0 = λ x. IsTagOf g x next in
      let same = one_next g tag.id tag.named next tag.tag (subst T here first) in
      inr (record { id = next; at = ap (position_of g) (sym same) ∙ tag.named_at; end = end; end_at = end_at; steps = m; leads = rest }, refl)

  -- a tag on a chain is the first tag of the chain, or is on the chain from the object of the first tag
  pub chain_next : (p q r : ℕ) → IsTagAt g p q → IsOnChain g p r → (p ≡ r) ⊎ IsOnChain g q r
  chain_next p q r tag x =
      elim (led_on p q r tag x.led.id x.led.end x.led.steps x.led.at x.led.end_at x.led.leads) [
        | inl same ↦ inl same
        | inr w ↦ (let T : List ℕ → Type 0 = λ e. IsTagOf g e x.next in inr (record { led = w.0; next = x.next; tag = subst T (sym w.1) x.tag }))
      ]

  no_tags : (a end next : List ℕ) (steps : ℕ) → IsCommit g a → Tags g steps a end → IsTagOf g end next → ⊥
  no_tags a end next zero commit same tag = let T : List ℕ → Type 0 = λ x. IsTagOf g x next in no_tag g a next commit (subst T (sym same) tag)
  no_tags a end next (suc m) commit (on, first, rest) tag = no_tag g a on commit first

  -- no tag is on a chain that begins at a commit
  pub chain_ends : (p r : ℕ) → IsCommitAt g p → IsOnChain g p r → ⊥
  chain_ends p r commit x =
      let C : List ℕ → Type 0 = λ a. IsCommit g a in
      no_tags x.led.id x.led.end x.next x.led.steps (subst C (position_same g commit.id x.led.id p commit.at x.led.at) commit.commit) x.led.leads x.tag

  peels_at : (p q : ℕ) (x : IsPeeledAt g p q) → PeelsTo g x.led.id x.commit.id
  peels_at p q x =
      let P : List ℕ → Type 0 = λ e. Tags g x.led.steps x.led.id e in
      (x.led.steps, subst P (position_same g x.led.end x.commit.id q x.led.end_at x.commit.at) x.led.leads, x.commit.commit)

  -- a chain has at most one end
  pub one_peeled : (p q r : ℕ) → IsPeeledAt g p q → IsPeeledAt g p r → q ≡ r
  one_peeled p q r x y =
      let px = peels_at p q x in let py = peels_at p r y in
      let start = position_same g y.led.id x.led.id p y.led.at x.led.at in
      let P : List ℕ → Type 0 = λ a. PeelsTo g a y.commit.id in
      let same = peel_ends g x.led.id x.commit.id y.commit.id px.0 px.1 px.2 (subst P start py) in
      one_position g x.commit.id q r x.commit.at (ap (position_of g) same ∙ y.commit.at)

  tags_down : HasParentsFirst g → (m : ℕ) (a b : List ℕ) (p q : ℕ) → position_of g a ≡ Some p → position_of g b ≡ Some q → Tags g m a b → q ≤ p
  tags_down ordered zero a b p q at bt same =
      let e = one_position g a p q at (ap (position_of g) same ∙ bt) in omega arith
  tags_down ordered (suc m) a b p q at bt (next, tag, rest) =
      let on = ordered a next p at (names_parent g a next tag) in
      let low = tags_down ordered m next b on.0 q on.1 bt rest in
      let below : on.0 < p = on.2 in
      omega arith

  -- the id of each tag on a chain peels to the id of the commit at the end of the chain
  chain_on : (p q r : ℕ) (x : IsOnChain g p q) (y : IsPeeledAt g p r) → PeelsTo g x.led.end y.commit.id
  chain_on p q r x y =
      let peels = peels_at p r y in
      let start = position_same g x.led.id y.led.id p x.led.at y.led.at in
      let P : List ℕ → Type 0 = λ a. Tags g x.led.steps a x.led.end in
      let on = onward g peels.0 x.led.steps y.led.id x.led.end y.commit.id peels.1 peels.2 (subst P start x.led.leads) in
      (on.0, on.2, y.commit.commit)

  -- the position of the commit at the end of a chain is not above the position of a tag on the chain
  pub commit_below : HasParentsFirst g → (p q r : ℕ) → IsOnChain g p q → IsPeeledAt g p r → r ≤ q
  commit_below ordered p q r x y =
      let on = chain_on p q r x y in
      tags_down ordered on.0 x.led.end y.commit.id q r x.led.end_at y.commit.at on.1

  -- a tag on a chain peels to the commit at its end
  pub chain_peels : (p q r : ℕ) → IsOnChain g p q → IsPeeledAt g p r → (a c : List ℕ) → position_of g a ≡ Some q → position_of g c ≡ Some r → PeelsTo g a c
  chain_peels p q r x y a c at there =
      let Q : List ℕ → Type 0 = λ b. PeelsTo g b y.commit.id in
      let from = subst Q (position_same g x.led.end a q x.led.end_at at) (chain_on p q r x y) in
      subst (λ (d : List ℕ). PeelsTo g a d) (position_same g y.commit.id c r y.commit.at there) from

-- ---- marking a chain

-- the state before the object at position `at` of the chain is marked
pub record IsMarkingChain {A : Type 0} (g : List (Entry A)) (start at : ℕ) (old now : List Bool) : Type 0 where
  pub inside : at < length g
  pub low : at ≤ start
  pub led : IsLedTo g start at
  pub long : length now ≡ length old
  pub kept : (p : ℕ) → is_marked old p ≡ true → is_marked now p ≡ true
  pub ahead : (p : ℕ) → IsOnChain g start p → (is_marked now p ≡ true) ⊎ IsOnChain g at p
  pub only : (p : ℕ) → is_marked now p ≡ true → (is_marked old p ≡ true) ⊎ IsOnChain g start p

pub chain_begins : {A : Type 0} (g : List (Entry A)) (start : ℕ) (old : List Bool) → IsInOrder g → start < length g → IsMarkingChain g start start old old
chain_begins g start old order inside = record {
  inside = inside;
  low = omega arith;
  led = led_none g order start inside;
  long = refl;
  kept = λ p m. m;
  ahead = λ p x. inr x;
  only = λ p m. inl m;
}

module _ {A : Type 0} (g : List (Entry A)) (start at : ℕ) (old now : List Bool) (before : IsMarkingChain g start at old now) where
  pub chain_goes_on : (next : ℕ) → IsTagAt g at next → at < length now → IsMarkingChain g start next old (set now at true)
  chain_goes_on next tag within =
      let below = tag.below in let inside = before.inside in let low = before.low in
      record {
        inside = omega arith;
        low = omega arith;
        led = led_more g start at next before.led tag;
        long = length-set now at true ∙ before.long;
        kept = λ p m. set_kept now p at (before.kept p m);
        ahead = λ p x. elim (before.ahead p x) [
          | inl m ↦ inl (set_kept now p at m)
          | inr y ↦ elim (chain_next g at next p tag y) [
            | inl same ↦ inl (ap (λ n. get_or (set now at true) n false) (sym same) ∙ set_there now at within)
            | inr z ↦ inr z
          ]
        ];
        only = λ p m. elim (set_cases now p at m) [
          | inl m ↦ before.only p m
          | inr same ↦ (let C : ℕ → Type 0 = λ n. IsOnChain g start n in inr (subst C same (chain_here g start at next before.led tag)))
        ];
      }

  pub chain_done : IsCommitAt g at → MarksChain g start old now
  chain_done commit = record {
    long = before.long;
    kept = before.kept;
    marked = λ p x. elim (before.ahead p x) [ inl m ↦ m | inr y ↦ absurd (chain_ends g at p commit y) ];
    only = before.only;
  }

-- ---- one tip after another

pub tags_none : {A : Type 0} (g : List (Entry A)) (wanted known : List Bool) (end : ℕ) → MarksTags g [] wanted known (replicate end false)
tags_none g wanted known end = record {
  marked = λ p x. nothing_in_nil x.tip.id x.tip.among;
  only = λ p m. absurd (none_marked end p m);
}

module _ {A : Type 0} (g : List (Entry A)) (tips : List (List ℕ)) (i : ℕ) (tip : List ℕ) (inside : i < length tips) (is : tip ≡ get_or tips i tip) (wanted known tagged : List Bool) (before : MarksTags g (take i tips) wanted known tagged) where
  more_tips : (p : ℕ) → IsPositionOf g (take i tips) p → IsPositionOf g (take (i + 1) tips) p
  more_tips p x =
      let e = take_one tips i tip inside is in
      rw e (record { id = x.id; among = Contains-append_left (take i tips) (tip ∷ []) x.id x.among; at = x.at })

  more_open : (p : ℕ) → IsOpenTag g (take i tips) wanted known p → IsOpenTag g (take (i + 1) tips) wanted known p
  more_open p x = record { start = x.start; tip = more_tips x.start x.tip; chain = x.chain; commit = x.commit; peeled = x.peeled; open_there = x.open_there }

  fewer_open : (p : ℕ) (x : IsOpenTag g (take (i + 1) tips) wanted known p) → IsOpenTag g (take i tips) wanted known p ⊎ (position_of g tip ≡ Some x.start)
  fewer_open p x =
      elim (position_next g tips i tip inside is x.start x.tip) [
        | inl y ↦ inl (record { start = x.start; tip = y; chain = x.chain; commit = x.commit; peeled = x.peeled; open_there = x.open_there })
        | inr e ↦ inr e
      ]

  -- the tip adds nothing
  pub tip_idle : ((p : ℕ) (x : IsOpenTag g (take (i + 1) tips) wanted known p) → position_of g tip ≡ Some x.start → ⊥) → MarksTags g (take (i + 1) tips) wanted known tagged
  tip_idle never = record {
    marked = λ p x. elim (fewer_open p x) [ inl y ↦ before.marked p y | inr e ↦ absurd (never p x e) ];
    only = λ p m. more_open p (before.only p m);
  }

  pub tip_absent : position_of g tip ≡ None → MarksTags g (take (i + 1) tips) wanted known tagged
  tip_absent absent = tip_idle (λ p x e. none-some x.start (sym absent ∙ e))

  module _ (start commit : ℕ) (at : position_of g tip ≡ Some start) (peeled : IsPeeledAt g start commit) where
    same_commit : (p : ℕ) (x : IsOpenTag g (take (i + 1) tips) wanted known p) → position_of g tip ≡ Some x.start → is_open wanted known commit ≡ true
    same_commit p x e =
        let same = one_position g tip x.start start e at in
        let P : ℕ → Type 0 = λ n. IsPeeledAt g n x.commit in
        ap (is_open wanted known) (one_peeled g start commit x.commit peeled (subst P same x.peeled)) ∙ x.open_there

    pub tip_shut : is_open wanted known commit ≡ false → MarksTags g (take (i + 1) tips) wanted known tagged
    tip_shut shut = tip_idle (λ p x e. false≢true (sym shut ∙ same_commit p x e))

    pub tip_open : is_open wanted known commit ≡ true → (new : List Bool) → MarksChain g start tagged new → MarksTags g (take (i + 1) tips) wanted known new
    tip_open is_so new chain = record {
      marked = λ p x. elim (fewer_open p x) [
        | inl y ↦ chain.kept p (before.marked p y)
        | inr e ↦ (let P : ℕ → Type 0 = λ n. IsOnChain g n p in chain.marked p (subst P (one_position g tip x.start start e at) x.chain))
      ];
      only = λ p m. elim (chain.only p m) [
        | inl m ↦ more_open p (before.only p m)
        | inr x ↦ record { start = start; tip = (let e = take_one tips i tip inside is in rw e (record { id = tip; among = Contains-push (take i tips) tip; at = at })); chain = x; commit = commit; peeled = peeled; open_there = is_so }
      ];
    }
