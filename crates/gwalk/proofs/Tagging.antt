-- The tags to send.
use Rattle.std.proofs.Common.{◌≡◌, ◌⊎◌, inl, inr, ◌↔◌, ℕ, zero, suc, ◌+◌, ◌-◌, ◌<◌, Bool, true, false, List, [], ◌∷◌, ◌++◌, length, get_or, set, IsSome, Option, Some, None, refl, sym, ap, ◌∙◌, subst, arith, rules}
use Rattle.std.proofs.lemmas.Bool.{cases_eq, cases_lt}
use Rattle.std.proofs.lemmas.List.{get_or-set_same, get_or-set_other, length-set}
use Rattle.std.proofs.lemmas.List.Elements.{Contains-append_left, Contains-push, Contains-push_cases}
use Rattle.gobject.specs.declared.node.Entry.{Entry}
use Rattle.gobject.specs.Objects.{position_of, IdsDiffer}
use Rattle.gdag.specs.Peeling.{IsTagOf, IsCommit, Tags, PeelsTo}
use Rattle.gdag.specs.Selecting.{Selects}
use Rattle.gdag.specs.Sending.{IsNew, IsTagToSend, IsToSend}
use Rattle.gwalk.specs.steps.Tags.{AreTagged, IsTagAmong, IsTagFrom, LeadsToMarked}
use Rattle.gwalk.specs.Walks.{AreMarked, marked_entries}
use Rattle.gdag.proofs.Holding.{own_position}
use Rattle.gdag.proofs.PeelLemmas.{onward, rest_of, tags_more, tags_on}
use Rattle.gdag.proofs.Reaching.{position_inside, position_same}
use Rattle.gdag.proofs.IdLists.{nothing_in_nil}
use Rattle.gwalk.proofs.Reached.{held_by, marked_selects}
use Rattle.std.proofs.lemmas.Option.{same_Some}

-- ---- one chain

-- the id is a tag of the chain from the tip, at fewer than `i` steps
abbrev pub IsPassed : {A : Type 0} → List (Entry A) → List ℕ → ℕ → List ℕ → Type 0
IsPassed g tip i a = (from : IsTagFrom g tip a) × (from.steps < i)

-- the marks `new` are the marks `old`, with additional marks for the first `i` tags of the chain
pub record HasPassed {A : Type 0} (g : List (Entry A)) (tip : List ℕ) (old new : List Bool) (i : ℕ) (at : List ℕ) : Type 0 where
  pub leads : Tags g i tip at
  pub long : length new ≡ length g
  pub each : (position : ℕ) (a : List ℕ) → position_of g a ≡ Some position → (get_or new position false ≡ true) ↔ ((get_or old position false ≡ true) ⊎ IsPassed g tip i a)

pub passed_none : {A : Type 0} (g : List (Entry A)) (tip : List ℕ) (old : List Bool) → length old ≡ length g → HasPassed g tip old old 0 tip
passed_none g tip old long = record {
  leads = refl;
  long = long;
  each = λ position a e. (λ t. inl t, λ h. elim h [ inl t ↦ t | inr p ↦ absurd (let l = p.1 in omega arith) ]);
}

module _ {A : Type 0} (g : List (Entry A)) (tip : List ℕ) (old new : List Bool) (i : ℕ) (at : List ℕ) (now : HasPassed g tip old new i at) where
  -- marking one more tag
  pub passes_tag : (p : ℕ) (next : List ℕ) → position_of g at ≡ Some p → IsTagOf g at next → HasPassed g tip old (set new p true) (i + 1) next
  passes_tag p next e tag =
      let inside : p < length new = let h = position_inside g at p e in let l = now.long in omega arith in
      let more : suc i ≡ i + 1 = omega arith in
      record {
        leads = subst (λ (k : ℕ). Tags g k tip next) more (tags_more g i tip at next now.leads tag);
        long = length-set new p true ∙ now.long;
        each = λ q a at_q.
            elim (cases_eq p q) [
              | inl same ↦
                  let is : at ≡ a = position_same g at a p e (at_q ∙ ap Some (sym same)) in (
                    λ t. inr (subst (λ (x : List ℕ). IsPassed g tip (i + 1) x) is (record { steps = i; leads = now.leads; next = next; tag = tag }, omega arith)),
                    λ h. ap (λ k. get_or (set new p true) k false) (sym same) ∙ get_or-set_same new p true false inside,
                  )
              | inr other ↦
                  let kept : get_or (set new p true) q false ≡ get_or new q false = get_or-set_other new p q true false (λ h. other (sym h)) in (
                    λ t. elim ((now.each q a at_q).0 (sym kept ∙ t)) [
                      | inl before ↦ inl before
                      | inr w ↦ inr (w.0, let l = w.1 in omega arith)
                    ],
                    λ h. kept ∙ (now.each q a at_q).1 (elim h [
                      | inl before ↦ inl before
                      | inr w ↦ inr (w.0, sooner_then q a at_q other (w.0).steps w.1 (w.0).leads)
                    ]),
                  )
            ];
      }
    where
      sooner_then : (q : ℕ) (a : List ℕ) → position_of g a ≡ Some q → (p ≡ q → ⊥) → (k : ℕ) → k < i + 1 → Tags g k tip a → k < i
      sooner_then q a at_q other k less leads =
          elim (cases_lt k i) [
            | inl l ↦ l
            | inr l ↦
                let same : k ≡ i = omega (arith, less, l) in
                let none = rest_of g i k 0 tip at a (omega (arith, same)) now.leads leads in
                absurd (other (same_Some p q (sym e ∙ ap (position_of g) none ∙ at_q)))
          ]

  -- if the chain has no further tag, all its tags are marked
  pub passes_all : ((b : List ℕ) → IsTagOf g at b → ⊥) → (position : ℕ) (a : List ℕ) → position_of g a ≡ Some position → (get_or new position false ≡ true) ↔ ((get_or old position false ≡ true) ⊎ IsTagFrom g tip a)
  passes_all last position a e = (
    λ t. elim ((now.each position a e).0 t) [ inl before ↦ inl before | inr w ↦ inr w.0 ],
    λ h. (now.each position a e).1 (elim h [ inl before ↦ inl before | inr w ↦ inr (w, sooner a w) ]),
  )
    where
      stuck : (d : ℕ) (a b : List ℕ) → Tags g d at a → IsTagOf g a b → ⊥
      stuck zero a b same tag = last b (subst (λ (x : List ℕ). IsTagOf g x b) (sym same) tag)
      stuck (suc d) a b (next, tag, rest) other = last next tag

      sooner : (a : List ℕ) (w : IsTagFrom g tip a) → w.steps < i
      sooner a w =
          elim (cases_lt w.steps i) [
            | inl l ↦ l
            | inr l ↦ absurd (stuck (w.steps - i) a w.next (rest_of g i w.steps (w.steps - i) tip at a (omega (arith, l)) now.leads w.leads) w.tag)
          ]

-- ---- all chains

module _ {A : Type 0} (g : List (Entry A)) (wants commons : List (List ℕ)) (new : List Bool) (differ : IdsDiffer g) (are : AreMarked (IsNew g wants commons) g new) where
  -- the commit to which a tip leads is new if it is marked
  leads_new : (tip : List ℕ) (lead : LeadsToMarked g new tip) → IsNew g wants commons lead.commit
  leads_new tip lead =
      let end : IsCommit g lead.commit = (lead.peels).2 in
      let h = held_by g lead.commit end.node end.held in
      let same : h.position ≡ lead.position = same_Some _ _ (sym h.position_is ∙ lead.is_at) in
      subst (λ (x : List ℕ). IsNew g wants commons x) h.id_is ((are.each h.position h.entry h.at).0 (ap (λ k. get_or new k false) same ∙ lead.marked))

  new_leads : (tip commit : List ℕ) → PeelsTo g tip commit → IsNew g wants commons commit → LeadsToMarked g new tip
  new_leads tip commit peels is =
      let end : IsCommit g commit = peels.2 in
      let h = held_by g commit end.node end.held in
      record {
        commit = commit;
        peels = peels;
        position = h.position;
        is_at = h.position_is;
        marked = (are.each h.position h.entry h.at).1 (subst (λ (x : List ℕ). IsNew g wants commons x) (sym h.id_is) is);
      }

  tag_sent : (tips : List (List ℕ)) (a : List ℕ) → IsTagAmong g new tips a → IsTagToSend g wants commons tips a
  tag_sent tips a t =
      let f = t.from in
      let more = onward g ((t.lead).peels).0 f.steps t.tip a (t.lead).commit ((t.lead).peels).1 ((t.lead).peels).2 f.leads in
      record {
        tip = t.tip;
        among = t.among;
        steps = f.steps;
        leads = f.leads;
        next = f.next;
        tag = f.tag;
        commit = (t.lead).commit;
        peels = (more.0, more.2, ((t.lead).peels).2);
        new = leads_new t.tip t.lead;
      }

  sent_tag : (tips : List (List ℕ)) (a : List ℕ) → IsTagToSend g wants commons tips a → IsTagAmong g new tips a
  sent_tag tips a t =
      let on = tags_on g t.steps (t.peels).0 t.tip a t.commit t.leads (t.peels).1 in
      record {
        tip = t.tip;
        among = t.among;
        lead = new_leads t.tip t.commit (on.0, on.1, (t.peels).2) t.new;
        from = record { steps = t.steps; leads = t.leads; next = t.next; tag = t.tag };
      }

  -- the entries at marked positions are the list to send
  pub tags_end : (tips : List (List ℕ)) (marks : List Bool) → AreTagged g new tips marks → Selects (IsToSend g wants commons tips) g (marked_entries g marks)
  tags_end tips marks now =
      marked_selects (IsToSend g wants commons tips) g marks now.long
      (λ k entry at.
      let own = own_position g k entry differ at in (
        λ t. elim ((now.each k entry.id own).0 t) [
          | inl n ↦ inl ((are.each k entry at).0 n)
          | inr w ↦ inr (tag_sent tips entry.id w)
        ],
        λ h. (now.each k entry.id own).1 (elim h [
          | inl n ↦ inl ((are.each k entry at).1 n)
          | inr w ↦ inr (sent_tag tips entry.id w)
        ]),
      ))

-- ---- all tags to send

pub tags_none : {A : Type 0} (g : List (Entry A)) (new : List Bool) → length new ≡ length g → AreTagged g new [] new
tags_none g new long = record {
  long = long;
  each = λ position a e. (λ t. inl t, λ h. elim h [ inl t ↦ t | inr w ↦ nothing_in_nil w.tip w.among ]);
}

module _ {A : Type 0} (g : List (Entry A)) (new : List Bool) (tips : List (List ℕ)) (marks : List Bool) (now : AreTagged g new tips marks) (tip : List ℕ) where
  more_among : (a : List ℕ) → IsTagAmong g new tips a → IsTagAmong g new (tips ++ tip ∷ []) a
  more_among a w = record { tip = w.tip; among = Contains-append_left tips (tip ∷ []) w.tip w.among; lead = w.lead; from = w.from }

  pub tags_skip : (LeadsToMarked g new tip → ⊥) → AreTagged g new (tips ++ tip ∷ []) marks
  tags_skip never = record {
    long = now.long;
    each = λ position a e. (
      λ t. elim ((now.each position a e).0 t) [ inl n ↦ inl n | inr w ↦ inr (more_among a w) ],
      λ h. (now.each position a e).1 (elim h [ inl n ↦ inl n | inr w ↦ inr (without a w) ]),
    );
  }
    where
      without : (a : List ℕ) → IsTagAmong g new (tips ++ tip ∷ []) a → IsTagAmong g new tips a
      without a w =
          elim (Contains-push_cases tips tip w.tip w.among) [
            | inl c ↦ record { tip = w.tip; among = c; lead = w.lead; from = w.from }
            | inr same ↦ absurd (never (subst (λ (x : List ℕ). LeadsToMarked g new x) (sym same) w.lead))
          ]

  pub tags_step : (marks2 : List Bool) → LeadsToMarked g new tip → length marks2 ≡ length g → ((position : ℕ) (a : List ℕ) → position_of g a ≡ Some position → (get_or marks2 position false ≡ true) ↔ ((get_or marks position false ≡ true) ⊎ IsTagFrom g tip a)) → AreTagged g new (tips ++ tip ∷ []) marks2
  tags_step marks2 lead long then = record {
    long = long;
    each = λ position a e. (
      λ t. elim ((then position a e).0 t) [
        | inl before ↦ elim ((now.each position a e).0 before) [ inl n ↦ inl n | inr w ↦ inr (more_among a w) ]
        | inr from ↦ inr (record { tip = tip; among = Contains-push tips tip; lead = lead; from = from })
      ],
      λ h. elim h [
        | inl n ↦ (then position a e).1 (inl ((now.each position a e).1 (inl n)))
        | inr w ↦ back position a e w
      ],
    );
  }
    where
      back : (position : ℕ) (a : List ℕ) → position_of g a ≡ Some position → IsTagAmong g new (tips ++ tip ∷ []) a → get_or marks2 position false ≡ true
      back position a e w =
          elim (Contains-push_cases tips tip w.tip w.among) [
            | inl c ↦ (then position a e).1 (inl ((now.each position a e).1 (inr (record { tip = w.tip; among = c; lead = w.lead; from = w.from }))))
            | inr same ↦ (then position a e).1 (inr (subst (λ (x : List ℕ). IsTagFrom g x a) (sym same) w.from))
          ]

pub none_held : {X : Type 0} (o : Option X) → IsSome o → o ≡ None → ⊥
none_held o held empty = let h = rw empty at held in search (rules, h)
