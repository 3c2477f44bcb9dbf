-- Links that are noted, one after the other.
use Rattle.std.proofs.Common.{◌≡◌, ◌⊎◌, inl, inr, cond, ℕ, take, drop, List, [], ◌∷◌, ◌++◌, Contains, None, Some, refl, sym, ap, subst, ◌∙◌}
use Rattle.std.specs.Str.{bytes_eq}
use Rattle.std.proofs.lemmas.List.{take-append-drop}
use Rattle.std.proofs.lemmas.Bool.{cases_Bool}
use Rattle.std.proofs.lemmas.List.Elements.{All-append, All-cons, All-nil, All-weaker, Contains-append_left, Contains-append_right, Contains-push}
use Rattle.std.proofs.lemmas.Option.{none-some, same_Some}
use Rattle.std.proofs.lemmas.Slice.Eq.{bytes_eq-Decides}
use Rattle.gname.specs.Ids.{Id}
use Rattle.gitobject.specs.Trees.{link_of}
use Rattle.gitobject.specs.declared.links.Link.{Link}
use Rattle.gcomplete.specs.Batches.{IsNoted, Needs, need_at, need_of}
use Rattle.gcomplete.specs.Adding.{IsClash}
use Rattle.gcomplete.specs.steps.Keeping.{HasOtherNeed, IsNeedFault, IsOneFault, Notes}
use Rattle.gcomplete.specs.declared.fault.BatchFault.{BatchFault}
use Rattle.gcomplete.specs.declared.fault.BatchFault.TheVariants.{Malformed, Collision, Clash, Missing, Memory}
use Rattle.gcomplete.specs.declared.needs.Need.{Need}

-- no links
pub notes_none : (old : Needs) (id : Id) → Notes old id [] old
notes_none old id = record {
  keeps = λ a need is. is;
  each = All-nil (IsNoted old);
  only = λ a need is. inl is;
}

-- a link that is noted already
pub notes_again : (old : Needs) (id : Id) (link : Link) (need : Need) → need_at old link.id ≡ Some need → need.kind ≡ link.kind → Notes old id (link ∷ []) old
notes_again old id link need noted typed = record {
  keeps = λ a need is. is;
  each = All-cons (IsNoted old) link [] (record { need = need; noted = noted; typed = typed }) (All-nil (IsNoted old));
  only = λ a need is. inl is;
}

only_one : (link : Link) → Contains (link ∷ []) link
only_one link = Contains-push [] link

-- a link to an id to which no link led
pub notes_new : (old new : Needs) (id : Id) (link : Link) → need_at old link.id ≡ None
    → ((b : Id) → need_at new b ≡ cond (bytes_eq link.id b) (Some (need_of id link)) (need_at old b)) → Notes old id (link ∷ []) new
notes_new old new id link absent puts = record {
  keeps = keeps;
  each = All-cons (IsNoted new) link [] (record { need = need_of id link; noted = here; typed = refl }) (All-nil (IsNoted new));
  only = only;
}
  where
    here : need_at new link.id ≡ Some (need_of id link)
    here = puts link.id ∙ ap (λ b. cond b (Some (need_of id link)) (need_at old link.id)) ((bytes_eq-Decides link.id link.id).1 refl)

    keeps : (a : Id) (need : Need) → need_at old a ≡ Some need → need_at new a ≡ Some need
    keeps a need is =
        elim (cases_Bool (bytes_eq link.id a)) [
          | inl same ↦
              (let P : Id → Type 0 = λ k. need_at old k ≡ Some need in
              absurd (none-some need (sym absent ∙ subst P (sym ((bytes_eq-Decides link.id a).0 same)) is)))
          | inr other ↦ puts a ∙ ap (λ b. cond b (Some (need_of id link)) (need_at old a)) other ∙ is
        ]

    only : (a : Id) (need : Need) → need_at new a ≡ Some need → (need_at old a ≡ Some need) ⊎ ((need.by ≡ id) × Contains (link ∷ []) (link_of need.kind a))
    only a need is =
        elim (cases_Bool (bytes_eq link.id a)) [
          | inl same ↦
              (let needs : need_of id link ≡ need = same_Some (need_of id link) need (sym (ap (λ b. cond b (Some (need_of id link)) (need_at old a)) same) ∙ sym (puts a) ∙ is) in
              let P : Need → Type 0 = λ n. (n.by ≡ id) × Contains (link ∷ []) (link_of n.kind a) in
              let Q : Id → Type 0 = λ k. Contains (link ∷ []) (link_of link.kind k) in
              inr (subst P needs (refl, subst Q ((bytes_eq-Decides link.id a).0 same) (only_one link))))
          | inr other ↦ inl (sym (ap (λ b. cond b (Some (need_of id link)) (need_at old a)) other) ∙ sym (puts a) ∙ is)
        ]

-- ---- one after the other

noted_kept : (old new : Needs) → ((a : Id) (need : Need) → need_at old a ≡ Some need → need_at new a ≡ Some need) → (link : Link) → IsNoted old link → IsNoted new link
noted_kept old new keeps link is = record { need = is.need; noted = keeps link.id is.need is.noted; typed = is.typed }

pub notes_more : (old mid new : Needs) (id : Id) (front back : List Link) → Notes old id front mid → Notes mid id back new → Notes old id (front ++ back) new
notes_more old mid new id front back one two = record {
  keeps = λ a need is. two.keeps a need (one.keeps a need is);
  each = All-append (IsNoted new) front back (All-weaker (IsNoted mid) (IsNoted new) (noted_kept mid new two.keeps) front one.each) two.each;
  only = only;
}
  where
    earlier : (a : Id) (need : Need) → (need_at old a ≡ Some need) ⊎ ((need.by ≡ id) × Contains front (link_of need.kind a))
        → (need_at old a ≡ Some need) ⊎ ((need.by ≡ id) × Contains (front ++ back) (link_of need.kind a))
    earlier a need (inl before) = inl before
    earlier a need (inr now) = inr (now.0, Contains-append_left front back (link_of need.kind a) now.1)

    only : (a : Id) (need : Need) → need_at new a ≡ Some need → (need_at old a ≡ Some need) ⊎ ((need.by ≡ id) × Contains (front ++ back) (link_of need.kind a))
    only a need is =
        elim (two.only a need is) [
          | inl before ↦ earlier a need (one.only a need before)
          | inr now ↦ inr (now.0, Contains-append_right front back (link_of need.kind a) now.1)
        ]

-- a link that clashes with one that was noted before, or with one of the front
pub clash_more : (old mid : Needs) (id : Id) (front links : List Link) (link : Link) → Notes old id front mid → ((l : Link) → Contains front l → Contains links l)
    → Contains links link → HasOtherNeed mid link → IsClash old links link
clash_more old mid id front links link notes within among other = record {
  among = among;
  other = record { other = other.need.kind; differ = other.differ; linked = linked };
}
  where
    linked : IsNoted old (link_of other.need.kind link.id) ⊎ Contains links (link_of other.need.kind link.id)
    linked =
        elim (notes.only link.id other.need other.noted) [
          | inl before ↦ inl (record { need = other.need; noted = before; typed = refl })
          | inr now ↦ inr (within (link_of other.need.kind link.id) now.1)
        ]

taken : {X : Type 0} (k : ℕ) (xs : List X) (x : X) → Contains (take k xs) x → Contains xs x
taken k xs x has = subst (λ ys. Contains ys x) (take-append-drop k xs) (Contains-append_left (take k xs) (drop k xs) x has)

-- a link of a list that could not be noted
pub need_fault : (old mid : Needs) (id : Id) (k : ℕ) (links : List Link) (link : Link) (fault : BatchFault) → Notes old id (take k links) mid
    → Contains links link → IsOneFault mid id link fault → IsNeedFault old id links fault
need_fault old mid id k links link (Clash a l) notes among why =
    let clash = clash_more old mid id (take k links) links link notes (taken k links) among why.2 in
    (why.0, subst (IsClash old links) (sym why.1) clash)
need_fault old mid id k links link (Malformed a) notes among why = absurd why
need_fault old mid id k links link (Collision a) notes among why = absurd why
need_fault old mid id k links link (Missing a l) notes among why = absurd why
need_fault old mid id k links link Memory notes among why = tt
