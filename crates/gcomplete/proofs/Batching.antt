-- Objects that come to a batch.
use Rattle.std.proofs.Common.{◌≡◌, inl, inr, Bool, true, false, cond, List, [], Option, None, Some, refl, sym, ap, subst, ◌∙◌}
use Rattle.std.specs.Option.{option_map, option_or}
use Rattle.std.specs.Str.{bytes_eq}
use Rattle.std.proofs.lemmas.Bool.{cases_Bool}
use Rattle.std.proofs.lemmas.List.Elements.{All-weaker}
use Rattle.std.proofs.lemmas.Option.{none-some, same_Some}
use Rattle.std.proofs.lemmas.Slice.Eq.{bytes_eq-Decides}
use Rattle.gname.specs.Ids.{Id}
use Rattle.gitobject.specs.Trees.{link_of}
use Rattle.gitobject.specs.declared.links.Link.{Link}
use Rattle.gitobject.specs.declared.types.ObjectType.{ObjectType}
use Rattle.gcomplete.specs.Stores.{AreTypesOf, GitObject, Store, Types, kind_at, kind_in, kind_of, no_objects, with_object}
use Rattle.gcomplete.specs.Closed.{HasLink, HasLinks}
use Rattle.gcomplete.specs.Naming.{IsNameOf}
use Rattle.gcomplete.specs.Batches.{AreLinksNoted, HasObjects, IsBatchOf, IsNoted, KeepsTypes, Needs, Noted, need_at, nothing}
use Rattle.gcomplete.specs.Adding.{AddsObject}
use Rattle.gcomplete.specs.steps.Keeping.{Notes, Puts}
use Rattle.gcomplete.specs.declared.needs.Need.{Need}
use Rattle.gcomplete.proofs.Parts.{absent_kind, held_kind, kind_absent, kind_held}

-- ---- no objects

pub batch_of_none : IsBatchOf nothing no_objects
batch_of_none = record {
  types = λ a. refl;
  named = λ a o is. absurd (none-some o is);
  each = λ a o is. absurd (none-some o is);
  only = λ a need is. absurd (none-some need is);
}

pub has_none : HasObjects nothing
has_none = (no_objects, batch_of_none)

pub emptied : (types : Types) (needs : Needs) → types ≡ [] → needs ≡ [] → HasObjects (record { types = types; needs = needs })
emptied types needs t n = rw (t, n) has_none

-- ---- stores that are the same under each id

link_same : (s t : Store) → ((a : Id) → t a ≡ s a) → (a : Id) (link : Link) → HasLink s a link → HasLink t a link
link_same s t same a link has = record { object = has.object; held = same a ∙ has.held; links = has.links; reads = has.reads; among = has.among }

batch_same : (noted : Noted) (s t : Store) → ((a : Id) → t a ≡ s a) → IsBatchOf noted s → IsBatchOf noted t
batch_same noted s t same is = record {
  types = λ a. is.types a ∙ ap (option_map kind_of) (sym (same a));
  named = λ a o held. is.named a o (sym (same a) ∙ held);
  each = λ a o held. is.each a o (sym (same a) ∙ held);
  only = λ a need noted. link_same s t same need.by (link_of need.kind a) (is.only a need noted);
}

-- ---- one more object

-- what stands under an id in a store with one more object
abbrev one_more : (id : Id) (o : GitObject) → Store
one_more id o a = cond (bytes_eq id a) (Some o) None

own_stays : (s : Store) (id : Id) (o : GitObject) (a : Id) (q : GitObject) → s a ≡ Some q → with_object s id o a ≡ Some q
own_stays s id o a q is = ap (λ f. option_or f (one_more id o a)) is

comes : (s : Store) (id : Id) (o : GitObject) (a : Id) → s a ≡ None → with_object s id o a ≡ one_more id o a
comes s id o a none = ap (λ f. option_or f (one_more id o a)) none

comes_here : (s : Store) (id : Id) (o : GitObject) → s id ≡ None → with_object s id o id ≡ Some o
comes_here s id o none = comes s id o id none ∙ ap (λ b. cond b (Some o) None) ((bytes_eq-Decides id id).1 refl)

-- an object that is there already changes nothing
pub again : (old : Noted) (id : Id) (o : GitObject) → kind_at old.types id ≡ Some o.kind → AddsObject old id o old
again old id o kept objects is =
    batch_same old objects (with_object objects id o) same is
  where
    there : (q : GitObject) × (objects id ≡ Some q) × (q.kind ≡ o.kind)
    there = held_kind objects id o.kind (sym (is.types id) ∙ kept)

    same : (a : Id) → with_object objects id o a ≡ objects a
    same a = by (objects a) refl
      where
        by : (f : Option GitObject) → objects a ≡ f → with_object objects id o a ≡ objects a
        by (Some q) some = own_stays objects id o a q some ∙ sym some
        by None none =
            elim (cases_Bool (bytes_eq id a)) [
              | inl here ↦
                  (let P : Id → Type 0 = λ k. objects k ≡ Some there.0 in
                  absurd (none-some there.0 (sym none ∙ subst P ((bytes_eq-Decides id a).0 here) there.1)))
              | inr other ↦ comes objects id o a none ∙ ap (λ b. cond b (Some o) None) other ∙ sym none
            ]

module _ (old new : Noted) (id : Id) (o : GitObject) (links : List Link) (absent : kind_at old.types id ≡ None) (name : IsNameOf id o)
    (reads : HasLinks o links) (puts : Puts old.types id o.kind new.types) (notes : Notes old.needs id links new.needs) where
  module _ (objects : Store) (is : IsBatchOf old objects) where
    fresh : objects id ≡ None
    fresh = absent_kind objects id (sym (is.types id) ∙ absent)

    link_stays : (a : Id) (link : Link) → HasLink objects a link → HasLink (with_object objects id o) a link
    link_stays a link has = record { object = has.object; held = own_stays objects id o a has.object has.held; links = has.links; reads = has.reads; among = has.among }

    noted_stays : (link : Link) → IsNoted old.needs link → IsNoted new.needs link
    noted_stays link noted = record { need = noted.need; noted = notes.keeps link.id noted.need noted.noted; typed = noted.typed }

    -- an object under an id: one of before, or the new one
    which : (P : Id → GitObject → Type 0) → ((a : Id) (q : GitObject) → objects a ≡ Some q → P a q) → P id o → (a : Id) (q : GitObject) → with_object objects id o a ≡ Some q → P a q
    which P before now a q held = by (objects a) refl
      where
        by : (f : Option GitObject) → objects a ≡ f → P a q
        by (Some r) some = subst (P a) (same_Some r q (sym (own_stays objects id o a r some) ∙ held)) (before a r some)
        by None none =
            elim (cases_Bool (bytes_eq id a)) [
              | inl here ↦
                  (let same : o ≡ q = same_Some o q (sym (ap (λ b. cond b (Some o) None) here) ∙ sym (comes objects id o a none) ∙ held) in
                  let Q : Id → Type 0 = λ k. P k q in
                  subst Q ((bytes_eq-Decides id a).0 here) (subst (P id) same now))
              | inr other ↦ absurd (none-some q (sym (ap (λ b. cond b (Some o) None) other) ∙ sym (comes objects id o a none) ∙ held))
            ]

    more_types : AreTypesOf new.types (with_object objects id o)
    more_types a = puts a ∙ by (objects a) refl
      where
        by : (f : Option GitObject) → objects a ≡ f → cond (bytes_eq id a) (Some o.kind) (kind_at old.types a) ≡ kind_in (with_object objects id o) a
        by (Some q) some =
            elim (cases_Bool (bytes_eq id a)) [
              | inl here ↦
                  (let P : Id → Type 0 = λ k. objects k ≡ Some q in
                  absurd (none-some q (sym fresh ∙ subst P (sym ((bytes_eq-Decides id a).0 here)) some)))
              | inr other ↦
                  ap (λ b. cond b (Some o.kind) (kind_at old.types a)) other
                  ∙ is.types a ∙ kind_held objects a q some ∙ sym (kind_held (with_object objects id o) a q (own_stays objects id o a q some))
            ]
        by None none =
            ap (cond (bytes_eq id a) (Some o.kind)) (is.types a ∙ kind_absent objects a none)
            ∙ both (bytes_eq id a) ∙ ap (option_map kind_of) (sym (comes objects id o a none))
          where
            both : (b : Bool) → cond b (Some o.kind) None ≡ option_map kind_of (cond b (Some o) None)
            both true = refl
            both false = refl

    more_links : (a : Id) (need : Need) → need_at new.needs a ≡ Some need → HasLink (with_object objects id o) need.by (link_of need.kind a)
    more_links a need noted =
        elim (notes.only a need noted) [
          | inl before ↦ link_stays need.by (link_of need.kind a) (is.only a need before)
          | inr now ↦
              (let mine : HasLink (with_object objects id o) id (link_of need.kind a) = record {
                object = o;
                held = comes_here objects id o fresh;
                links = links;
                reads = reads;
                among = now.1;
              } in
              let P : Id → Type 0 = λ k. HasLink (with_object objects id o) k (link_of need.kind a) in
              subst P (sym now.0) mine)
        ]

    batch_more : IsBatchOf new (with_object objects id o)
    batch_more = record {
      types = more_types;
      named = which IsNameOf is.named name;
      each = which (λ a q. AreLinksNoted new.needs q) (λ a q held. (let mine = is.each a q held in record {
        links = mine.links;
        reads = mine.reads;
        each = All-weaker (IsNoted old.needs) (IsNoted new.needs) noted_stays mine.links mine.each;
      })) (record { links = links; reads = reads; each = notes.each });
      only = more_links;
    }

  pub adds_object : AddsObject old id o new
  adds_object objects is = batch_more objects is

-- ---- a type that is put

pub put_here : (old : Types) (a : Id) (kind : ObjectType) (new : Types) → Puts old a kind new → kind_at new a ≡ Some kind
put_here old a kind new puts = puts a ∙ ap (λ b. cond b (Some kind) (kind_at old a)) ((bytes_eq-Decides a a).1 refl)

pub put_keeps : (old : Types) (a : Id) (kind : ObjectType) (new : Types) → kind_at old a ≡ None → Puts old a kind new → KeepsTypes old new
put_keeps old a kind new absent puts b other kept =
    elim (cases_Bool (bytes_eq a b)) [
      | inl here ↦
          (let P : Id → Type 0 = λ k. kind_at old k ≡ None in
          absurd (none-some other (sym (subst P ((bytes_eq-Decides a b).0 here) absent) ∙ kept)))
      | inr away ↦ puts b ∙ ap (λ t. cond t (Some kind) (kind_at old b)) away ∙ kept
    ]

-- some batch and one more object
pub has_more : (old new : Noted) (id : Id) (o : GitObject) → HasObjects old → AddsObject old id o new → HasObjects new
has_more old new id o have adds = (with_object have.0 id o, adds have.0 have.1)
