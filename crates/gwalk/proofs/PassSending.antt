-- The entries that the marks select.
use Rattle.std.proofs.Common.{◌≡◌, ◌⊎◌, inl, inr, ℕ, zero, suc, ◌+◌, ◌-◌, ◌<◌, ◌≤◌, Bool, true, false, List, [], ◌∷◌, ◌++◌, length, take, Some, refl, sym, ap, ◌∙◌, subst, arith}
use Rattle.std.specs.List.{slice_get}
use Rattle.std.proofs.lemmas.List.{take_all}
use Rattle.std.proofs.lemmas.Option.{none-some, same_Some}
use Rattle.std.proofs.lemmas.Bool.{false≢true, false_from_ne_true}
use Rattle.gobject.specs.declared.node.Entry.{Entry}
use Rattle.gobject.specs.Objects.{position_of}
use Rattle.gdag.specs.Peeling.{IsTagOf, Tags}
use Rattle.gdag.specs.Selecting.{Selects, none}
use Rattle.gdag.specs.Sending.{IsNew, IsTagToSend, IsToSend, IsListToSend}
use Rattle.gwalk.specs.steps.Passes.{IsInOrder, IsDone, IsOpenTag, MarksTags, is_marked, is_open}
use Rattle.gdag.proofs.Choosing.{selects_keep, selects_skip}
use Rattle.gdag.proofs.Holding.{own_position}
use Rattle.gdag.proofs.PeelLemmas.{tags_on}
use Rattle.gdag.proofs.Reaching.{position_same, position_of_node}
use Rattle.gwalk.proofs.Positions.{entry_there, parents_first, marked_inside}
use Rattle.gwalk.proofs.TagChains.{chain_peels, commit_below}
use Rattle.gwalk.proofs.PassCounting.{shut_idle}

-- ---- tags

module _ {A : Type 0} (g : List (Entry A)) (wants commons tips : List (List ℕ)) (wanted known : List Bool) (next : ℕ) (done : IsDone g wants commons wanted known next) where
  open_tag_sends : (p : ℕ) → IsOpenTag g tips wanted known p → (a : List ℕ) → position_of g a ≡ Some p → IsTagToSend g wants commons tips a
  open_tag_sends p x a at =
      let led = x.chain.led in
      let begin = position_same g led.id x.tip.id x.start led.at x.tip.at in
      let there = position_same g led.end a p led.end_at at in
      let leads : Tags g led.steps x.tip.id a = subst (λ (c : List ℕ). Tags g led.steps x.tip.id c) there (subst (λ (b : List ℕ). Tags g led.steps b led.end) begin led.leads) in
      let tag : IsTagOf g a x.chain.next = subst (λ (b : List ℕ). IsTagOf g b x.chain.next) there x.chain.tag in
      let new = done.new x.commit x.open_there in
      record { tip = x.tip.id; among = x.tip.among; steps = led.steps; leads = leads; next = x.chain.next; tag = tag; commit = new.id; peels = chain_peels g x.start p x.commit x.chain x.peeled a new.id at new.at; new = new.new }

  -- if a chain of tags leads to an id of the graph, the chain begins at an id of the graph
  led_position : (m : ℕ) (a b : List ℕ) (q : ℕ) → position_of g b ≡ Some q → Tags g m a b → (p : ℕ) × (position_of g a ≡ Some p)
  led_position zero a b q at same = (q, ap (position_of g) same ∙ at)
  led_position (suc m) a b q at (on, tag, rest) = position_of_node g a tag.node tag.held

  sends_open_tag : (a : List ℕ) (p : ℕ) → position_of g a ≡ Some p → IsTagToSend g wants commons tips a → IsOpenTag g tips wanted known p
  sends_open_tag a p at x =
      let start = led_position x.steps x.tip a p at x.leads in
      let commit = x.peels.2 in
      let end = position_of_node g x.commit commit.node commit.held in
      let all = tags_on g x.steps x.peels.0 x.tip a x.commit x.leads x.peels.1 in
      record {
        start = start.0;
        tip = record { id = x.tip; among = x.among; at = start.1 };
        chain = record { led = record { id = x.tip; at = start.1; end = a; end_at = at; steps = x.steps; leads = x.leads }; next = x.next; tag = x.tag };
        commit = end.0;
        peeled = record { led = record { id = x.tip; at = start.1; end = x.commit; end_at = end.1; steps = all.0; leads = all.1 }; commit = record { id = x.commit; at = end.1; commit = commit } };
        open_there = done.all end.0 (record { id = x.commit; at = end.1; new = x.new });
      }

  -- ---- the marks of one entry

  module _ (order : IsInOrder g) (tagged : List Bool) (marks : MarksTags g tips wanted known tagged) (p : ℕ) (entry : Entry A) (at : slice_get g p ≡ Some entry) where
    own : position_of g entry.id ≡ Some p
    own = own_position g p entry order.differ at

    sent : (is_open wanted known p ≡ true) ⊎ (is_marked tagged p ≡ true) → IsToSend g wants commons tips entry
    sent (inl is) =
        let new = done.new p is in
        let N : List ℕ → Type 0 = λ a. IsNew g wants commons a in
        inl (subst N (position_same g new.id entry.id p new.at own) new.new)
    sent (inr is) = inr (open_tag_sends p (marks.only p is) entry.id own)

    not_sent : is_open wanted known p ≡ false → is_marked tagged p ≡ false → ¬ (IsToSend g wants commons tips entry)
    not_sent shut bare (inl new) = false≢true (sym shut ∙ done.all p (record { id = entry.id; at = own; new = new }))
    not_sent shut bare (inr tag) = false≢true (sym bare ∙ marks.marked p (sends_open_tag entry.id p own tag))

    -- no entry below the end of the pass is to be sent
    none_below : p < next → ¬ (IsToSend g wants commons tips entry)
    none_below below (inl new) =
        let h = done.above p (done.all p (record { id = entry.id; at = own; new = new })) in omega arith
    none_below below (inr tag) =
        let x = sends_open_tag entry.id p own tag in
        let h = done.above x.commit x.open_there in
        let l = commit_below g (parents_first g order) x.start p x.commit x.chain x.peeled in
        omega arith

-- ---- the list to send, one position after another

take_there : {X : Type 0} (xs : List X) (i : ℕ) (x : X) → slice_get xs i ≡ Some x → take (i + 1) xs ≡ take i xs ++ x ∷ []
take_there [] i x at = absurd (none-some x at)
take_there (y ∷ xs) zero x at = let same : y ≡ x = same_Some y x at in rw same refl
take_there (y ∷ xs) (suc i) x at = let e = take_there xs i x at in let f : suc i + 1 ≡ suc (i + 1) = omega arith in rw (f, e) refl

skips_on : {A : Type 0} (P : Entry A → Type 0) (g : List (Entry A)) (n d : ℕ) (ys : List (Entry A)) → n + d ≤ length g → ((p : ℕ) (entry : Entry A) → n ≤ p → p < n + d → slice_get g p ≡ Some entry → ¬ (P entry)) → Selects P (take n g) ys → Selects P (take (n + d) g) ys
skips_on P g n zero ys fits never so_far = let e : n + 0 ≡ n = omega arith in rw e so_far
skips_on P g n (suc d) ys fits never so_far =
    let before = skips_on P g n d ys (omega arith) (λ p entry low high at. never p entry low (omega arith) at) so_far in
    let there = entry_there g (n + d) (omega arith) in
    let e : n + suc d ≡ n + d + 1 = omega arith in
    rw (e, take_there g (n + d) there.0 there.1) (selects_skip P (take (n + d) g) ys there.0 before (never (n + d) there.0 (omega arith) (omega arith) there.1))

module _ {A : Type 0} (g : List (Entry A)) (wants commons tips : List (List ℕ)) (wanted known : List Bool) (next : ℕ) (done : IsDone g wants commons wanted known next) (order : IsInOrder g) (tagged : List Bool) (marks : MarksTags g tips wanted known tagged) where
  pub none_so_far : next ≤ length g → Selects (IsToSend g wants commons tips) (take next g) []
  none_so_far fits =
      let e : 0 + next ≡ next = omega arith in
      rw (sym e) (skips_on (IsToSend g wants commons tips) g 0 next [] (omega arith) (λ p entry low high at. none_below g wants commons tips wanted known next done order tagged marks p entry at (omega arith)) none)

  pub sends_position : (list : List (Entry A)) (p : ℕ) (entry : Entry A) → slice_get g p ≡ Some entry → (is_open wanted known p ≡ true) ⊎ (is_marked tagged p ≡ true) → Selects (IsToSend g wants commons tips) (take p g) list → Selects (IsToSend g wants commons tips) (take (p + 1) g) (list ++ entry ∷ [])
  sends_position list p entry at is before =
      let here = sent g wants commons tips wanted known next done order tagged marks p entry at is in
      rw (take_there g p entry at) (selects_keep (IsToSend g wants commons tips) (take p g) list entry before here)

  pub drops_position : (list : List (Entry A)) (p : ℕ) → p < length g → is_open wanted known p ≡ false → is_marked tagged p ≡ false → Selects (IsToSend g wants commons tips) (take p g) list → Selects (IsToSend g wants commons tips) (take (p + 1) g) list
  drops_position list p inside shut bare before =
      let there = entry_there g p inside in
      rw (take_there g p there.0 there.1) (selects_skip (IsToSend g wants commons tips) (take p g) list there.0 before (not_sent g wants commons tips wanted known next done order tagged marks p there.0 there.1 shut bare))

  pub all_positions : (list : List (Entry A)) (end : ℕ) → length wanted ≤ end → length tagged ≤ end → end ≤ length g → Selects (IsToSend g wants commons tips) (take end g) list → IsListToSend g wants commons tips list
  all_positions list end w t fits before =
      let d = length g - end in
      let e : end + d ≡ length g = omega arith in
      let whole = take_all (length g) g (omega arith) in
      let on = skips_on (IsToSend g wants commons tips) g end d list (omega arith) (λ p entry low high at. not_sent g wants commons tips wanted known next done order tagged marks p entry at
      (shut_idle wanted known p (false_from_ne_true (is_marked wanted p) (λ m. (let h = marked_inside wanted p m in omega arith))))
      (false_from_ne_true (is_marked tagged p) (λ m. (let h = marked_inside tagged p m in omega arith)))) before in
      let S : List (Entry A) → Type 0 = λ xs. Selects (IsToSend g wants commons tips) xs list in
      subst S (ap (λ n. take n g) e ∙ whole) on
