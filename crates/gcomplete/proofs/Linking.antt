-- A closed store stays closed when objects are added whose links lead to the store or to one another.
use Rattle.std.proofs.Common.{◌≡◌, ◌⊎◌, inl, inr, List, All, Option, None, Some, IsSome, refl, sym, ap, subst, ◌∙◌}
use Rattle.std.specs.Option.{option_map}
use Rattle.std.proofs.lemmas.List.Elements.{All-weaker}
use Rattle.std.proofs.lemmas.Option.{none-some, same_Some}
use Rattle.gname.specs.Ids.{Id}
use Rattle.gitobject.specs.declared.links.Link.{Link}
use Rattle.gitobject.specs.declared.types.ObjectType.{ObjectType}
use Rattle.gcomplete.specs.Stores.{AreTypesOf, GitObject, Store, Types, joined, kind_at, kind_of, object_of}
use Rattle.gcomplete.specs.Closed.{HasAllLinks, HasLinks, IsClosed, LeadsIn}
use Rattle.gcomplete.specs.Naming.{Collide, IsNameOf, IsNamed}
use Rattle.gcomplete.specs.Linked.{AreLinkedTo, HasClosed, LeadsTo}
use Rattle.gcomplete.specs.Laws.{LinkedIsClosed}
use Rattle.gcomplete.proofs.Names.{same_here}
use Rattle.gcomplete.proofs.Parts.{each_key_or, held_kind, is_something, joined_first, joined_second, kind_absent, kind_held, something}

module _ (types : Types) (s : Store) (are_named : IsNamed s) (closed : IsClosed s) (linked : AreLinkedTo types s) where
  -- the object with an id of the list, if the id has this type
  object_at : (a : Id) (f : Option ObjectType) → kind_at types a ≡ f → Option GitObject
  object_at a None is = None
  object_at a (Some kind) is = Some (object_of kind (linked a kind is).body)

  -- the objects of the list
  added : Store
  added a = object_at a (kind_at types a) refl

  kind_here : (a : Id) (f : Option ObjectType) (is : kind_at types a ≡ f) → f ≡ option_map kind_of (object_at a f is)
  unfolding object_at
  kind_here a None is = refl
  kind_here a (Some kind) is = refl

  added_types : AreTypesOf types added
  unfolding added
  added_types a = kind_here a (kind_at types a) refl

  -- an object of the list has its own id, and its links lead somewhere
  abbrev IsGood : Id → GitObject → Type 0
  IsGood a o = IsNameOf a o × ((links : List Link) × HasLinks o links × All (LeadsTo types s) links)

  good : (a : Id) (kind : ObjectType) (is : kind_at types a ≡ Some kind) → IsGood a (object_of kind (linked a kind is).body)
  good a kind is =
      let mine = linked a kind is in (mine.name, (mine.links, mine.reads, mine.each))

  good_here : (a : Id) (f : Option ObjectType) (is : kind_at types a ≡ f) (o : GitObject) → object_at a f is ≡ Some o → IsGood a o
  unfolding object_at
  good_here a None is o held = absurd (none-some o held)
  good_here a (Some kind) is o held = subst (IsGood a) (same_Some (object_of kind (linked a kind is).body) o held) (good a kind is)

  added_good : (a : Id) (o : GitObject) → added a ≡ Some o → IsGood a o
  unfolding added
  added_good a o held = good_here a (kind_at types a) refl o held

  added_named : IsNamed added
  added_named a o held = (added_good a o held).0

  -- under an id of the list, the store has no object of another type
  abbrev Agrees : Id → Type 0
  Agrees a = (o : GitObject) (kind : ObjectType) → s a ≡ Some o → kind_at types a ≡ Some kind → o.kind ≡ kind

  agrees_or : (a : Id) → IsSome (kind_at types a) → Agrees a ⊎ Collide s added
  agrees_or a some = by (s a) refl
    where
      here : (kind : ObjectType) × (kind_at types a ≡ Some kind)
      here = something (kind_at types a) some

      mine : (o : GitObject) × (added a ≡ Some o) × (o.kind ≡ here.0)
      mine = held_kind added a here.0 (sym (added_types a) ∙ here.1)

      by : (f : Option GitObject) → s a ≡ f → Agrees a ⊎ Collide s added
      by None none = inl (λ o kind held is. absurd (none-some o (sym none ∙ held)))
      by (Some q) held =
          elim (same_here s added are_named added_named a q mine.0 held mine.1) [
            | inl same ↦ inl (λ o kind own is.
                ap (λ x. x.kind) (same_Some o q (sym own ∙ held)) ∙ ap (λ x. x.kind) same ∙ mine.2
                ∙ same_Some here.0 kind (sym here.1 ∙ is))
            | inr collide ↦ inr collide
          ]

  module _ (agrees : (a : Id) → IsSome (kind_at types a) → Agrees a) where
    agrees_at : (a : Id) (o : GitObject) (kind : ObjectType) → s a ≡ Some o → kind_at types a ≡ Some kind → o.kind ≡ kind
    agrees_at a o kind held is = agrees a (is_something (kind_at types a) kind is) o kind held is

    -- a link that leads somewhere leads to an object of the two stores
    leads_joined : (link : Link) → LeadsTo types s link → LeadsIn (joined s added) link
    leads_joined link leads = by (s link.id) refl leads
      where
        by : (f : Option GitObject) → s link.id ≡ f → LeadsTo types s link → LeadsIn (joined s added) link
        by None none (inl is) = ap (option_map kind_of) (joined_second s added link.id none) ∙ sym (added_types link.id) ∙ is
        by None none (inr is) = absurd (none-some link.kind (sym (kind_absent s link.id none) ∙ is))
        by (Some o) held (inl is) =
            kind_held (joined s added) link.id o (joined_first s added link.id o held) ∙ ap (λ k. Some k) (agrees_at link.id o link.kind held is)
        by (Some o) held (inr is) = ap (option_map kind_of) (joined_first s added link.id o held) ∙ sym (kind_held s link.id o held) ∙ is

    still_leads : (link : Link) → LeadsIn s link → LeadsIn (joined s added) link
    still_leads link leads = leads_joined link (inr leads)

    closed_joined : IsClosed (joined s added)
    closed_joined a o is = by (s a) refl
      where
        by : (f : Option GitObject) → s a ≡ f → HasAllLinks (joined s added) o
        by None none =
            let mine = (added_good a o (sym (joined_second s added a none) ∙ is)).1 in record {
              links = mine.0;
              reads = mine.1;
              each = All-weaker (LeadsTo types s) (LeadsIn (joined s added)) leads_joined mine.0 mine.2;
            }
        by (Some q) some =
            let mine = closed a q some in
            let all : HasAllLinks (joined s added) q = record {
              links = mine.links;
              reads = mine.reads;
              each = All-weaker (LeadsIn s) (LeadsIn (joined s added)) still_leads mine.links mine.each;
            } in
            subst (HasAllLinks (joined s added)) (same_Some q o (sym (joined_first s added a q some) ∙ is)) all

  has_closed : HasClosed types s
  has_closed = record {
    added = added;
    types_of = added_types;
    named = added_named;
    closed = elim (each_key_or Agrees (Collide s added) types agrees_or) [
      | inl agrees ↦ inl (closed_joined agrees)
      | inr collide ↦ inr collide
    ];
  }

pub linked_closed : LinkedIsClosed
linked_closed types s are_named closed linked = has_closed types s are_named closed linked
