-- Stores that are closed, and how they stay so.
use Rattle.std.proofs.Common.{◌≡◌, ◌⊎◌, inl, inr, List, [], Contains, Option, None, Some, IsSome, refl, sym, ap, subst, ◌∙◌}
use Rattle.std.specs.Option.{option_map, option_or}
use Rattle.std.specs.List.{IsDistinct}
use Rattle.std.specs.Map.{keys_of, update_all}
use Rattle.std.specs.Str.{bytes_eq}
use Rattle.std.proofs.lemmas.Cmp.{nat_list_eq_equiv}
use Rattle.std.proofs.lemmas.List.Elements.{All-contains, All-weaker}
use Rattle.std.proofs.lemmas.Map.Made.{update_all_distinct}
use Rattle.std.proofs.lemmas.Option.{none-some, same_Some}
use Rattle.gname.specs.Ids.{Id}
use Rattle.gitobject.specs.Trees.{link_of}
use Rattle.gitobject.specs.declared.links.Link.{Link}
use Rattle.gitobject.specs.declared.types.ObjectType.{ObjectType}
use Rattle.gitobject.proofs.Readings.{links_once}
use Rattle.gcomplete.specs.Stores.{AreTypesOf, GitObject, Holds, Store, Types, joined, kind_at, kind_in, kind_of, no_objects}
use Rattle.gcomplete.specs.Closed.{HasAllLinks, HasLink, IsClosed, IsComplete, LeadsIn, here, onward}
use Rattle.gcomplete.specs.Naming.{Collide, IsNameOf, IsNamed}
use Rattle.gcomplete.specs.Batches.{AreJudged, HasJudged, HasObjects, IsBatchOf, IsNoted, KeepsTypes, Noted}
use Rattle.gcomplete.specs.Adding.{IsFit, IsJoined, Leads}
use Rattle.gcomplete.specs.Rereading.{IsReadAgain}
use Rattle.gcomplete.specs.Laws.{ClosedIsComplete, ReadIsComplete}
use Rattle.gcomplete.proofs.Names.{same_here, same_or}
use Rattle.gcomplete.proofs.Parts.{each_key_or, held_kind, held_object, is_something, joined_first, joined_second, kind_absent, kind_held, object_held, or_nothing, something}

-- ---- closed stores are complete

-- a link leads to an object of its type
pub link_leads : (s : Store) → IsClosed s → (a : Id) (link : Link) → HasLink s a link → LeadsIn s link
link_leads s closed a link has =
    let all = closed a has.object has.held in
    let same = links_once has.object.kind has.object.body has.links all.links has.reads all.reads in
    let among = subst (λ (ls : List Link). Contains ls link) same has.among in
    All-contains (LeadsIn s) all.links link all.each among

link_held : (s : Store) → IsClosed s → (a : Id) (link : Link) → HasLink s a link → Holds s link.id
link_held s closed a link has =
    let found = held_kind s link.id link.kind (link_leads s closed a link has) in
    object_held s link.id found.0 found.1

pub closed_complete : ClosedIsComplete
closed_complete s closed a held b here = held
closed_complete s closed a held b (onward link has rest) = closed_complete s closed link.id (link_held s closed a link has) b rest

-- ---- what is read again

module _ (types : Types) (judged read : Store) (are : AreJudged types judged) (named : IsNamed read) (there : (a : Id) → Holds judged a → Holds read a) where
  abbrev Same : Id → Type 0
  Same a = (o : GitObject) → judged a ≡ Some o → read a ≡ Some o

  same_or_not : (a : Id) → IsSome (kind_at types a) → Same a ⊎ Collide judged read
  same_or_not a some =
      let kind = something (kind_at types a) some in
      let mine = held_kind judged a kind.0 (sym (are.types a) ∙ kind.1) in
      let theirs = held_object read a (there a (object_held judged a mine.0 mine.1)) in
      elim (same_here judged read are.named named a mine.0 theirs.0 mine.1 theirs.1) [
        | inl same ↦ inl (λ o is. theirs.1 ∙ ap (λ x. Some x) (sym same ∙ same_Some mine.0 o (sym mine.1 ∙ is)))
        | inr collide ↦ inr collide
      ]

  module _ (same : (a : Id) → IsSome (kind_at types a) → Same a) where
    read_same : (a : Id) (o : GitObject) → judged a ≡ Some o → read a ≡ Some o
    read_same a o is = same a (is_something (kind_at types a) o.kind (are.types a ∙ kind_held judged a o is)) o is

    read_all : (a : Id) → Holds judged a → IsComplete read a
    read_all a held b here = there a held
    read_all a held b (onward link has rest) =
        let mine = held_object judged a held in
        let one = same_Some has.object mine.0 (sym has.held ∙ read_same a mine.0 mine.1) in
        let same_link : HasLink judged a link = record { object = has.object; held = mine.1 ∙ ap (λ x. Some x) (sym one); links = has.links; reads = has.reads; among = has.among } in
        read_all link.id (link_held judged are.closed a link same_link) b rest

pub read_complete : ReadIsComplete
read_complete types judged read are named there =
    elim (each_key_or (Same types judged read are named there) (Collide judged read) types (same_or_not types judged read are named there)) [
      | inl same ↦ inl (read_all types judged read are named there same)
      | inr collide ↦ inr collide
    ]

-- one object that is read again
pub reread : (types : Types) (a : Id) (o : GitObject) → kind_at types a ≡ Some o.kind → IsNameOf a o → IsReadAgain types a o
reread types a o kept name objects are =
    let found = held_kind objects a o.kind (sym (are.types a) ∙ kept) in
    record { judged = found.0; held = found.1; same = same_or a found.0 o (are.named a found.0 found.1) name }

-- ---- a batch comes to a closed store

module _ (types : Types) (batch : Noted) (s p : Store) (are : AreJudged types s) (is_batch : IsBatchOf batch p) (fit : IsFit types batch) where
  -- a link that leads to an object of the batch or of the store
  lead_joined : (link : Link) → Leads types batch.types link → LeadsIn (joined s p) link
  lead_joined link leads = by (s link.id) refl leads
    where
      by : (f : Option GitObject) → s link.id ≡ f → Leads types batch.types link → LeadsIn (joined s p) link
      by None none (inl mine) =
          ap (option_map kind_of) (joined_second s p link.id none) ∙ sym (is_batch.types link.id) ∙ mine
      by None none (inr mine) =
          absurd (none-some link.kind (sym (are.types link.id ∙ kind_absent s link.id none) ∙ mine))
      by (Some o) some (inl mine) =
          kind_held (joined s p) link.id o (joined_first s p link.id o some)
          ∙ ap (λ k. Some k) (fit.free link.id link.kind o.kind mine (are.types link.id ∙ kind_held s link.id o some))
      by (Some o) some (inr mine) =
          ap (option_map kind_of) (joined_first s p link.id o some) ∙ sym (kind_held s link.id o some) ∙ sym (are.types link.id) ∙ mine

  -- a link that led to an object still does
  still_leads : (link : Link) → LeadsIn s link → LeadsIn (joined s p) link
  still_leads link leads =
      let o = held_kind s link.id link.kind leads in
      kind_held (joined s p) link.id o.0 (joined_first s p link.id o.0 o.1) ∙ ap (λ k. Some k) o.2

  noted_leads : (link : Link) → IsNoted batch.needs link → LeadsIn (joined s p) link
  noted_leads link is =
      let leads = fit.leads link.id is.need is.noted in
      let P : ObjectType → Type 0 = λ k. Leads types batch.types (link_of k link.id) in
      lead_joined link (subst P is.typed leads)

  -- the heart: a closed store stays closed
  closed_joined : IsClosed (joined s p)
  closed_joined a o is = by (s a) refl
    where
      by : (f : Option GitObject) → s a ≡ f → HasAllLinks (joined s p) o
      by None none =
          let mine = is_batch.each a o (sym (joined_second s p a none) ∙ is) in record {
            links = mine.links;
            reads = mine.reads;
            each = All-weaker (IsNoted batch.needs) (LeadsIn (joined s p)) noted_leads mine.links mine.each;
          }
      by (Some q) some =
          let mine = are.closed a q some in
          let all : HasAllLinks (joined s p) q = record {
            links = mine.links;
            reads = mine.reads;
            each = All-weaker (LeadsIn s) (LeadsIn (joined s p)) still_leads mine.links mine.each;
          } in
          subst (HasAllLinks (joined s p)) (same_Some q o (sym (joined_first s p a q some) ∙ is)) all

  named_joined : IsNamed (joined s p)
  named_joined a o is = by (s a) refl
    where
      by : (f : Option GitObject) → s a ≡ f → IsNameOf a o
      by None none = is_batch.named a o (sym (joined_second s p a none) ∙ is)
      by (Some q) some = are.named a o (some ∙ sym (joined_first s p a q some) ∙ is)

  types_joined : (new : Types) → IsJoined types batch.types new → AreTypesOf new (joined s p)
  types_joined new joins a = joins a ∙ by (s a) refl
    where
      by : (f : Option GitObject) → s a ≡ f → option_or (kind_at batch.types a) (kind_at types a) ≡ kind_in (joined s p) a
      by None none =
          ap (option_or (kind_at batch.types a)) (are.types a ∙ kind_absent s a none)
          ∙ or_nothing (kind_at batch.types a) ∙ is_batch.types a
          ∙ sym (ap (option_map kind_of) (joined_second s p a none))
      by (Some q) some = taken (kind_at batch.types a) refl ∙ sym (kind_held (joined s p) a q (joined_first s p a q some))
        where
          kept : kind_at types a ≡ Some q.kind
          kept = are.types a ∙ kind_held s a q some

          taken : (g : Option ObjectType) → kind_at batch.types a ≡ g → option_or (kind_at batch.types a) (kind_at types a) ≡ Some q.kind
          taken None none = ap (λ g. option_or g (kind_at types a)) none ∙ kept
          taken (Some kind) have =
              ap (λ g. option_or g (kind_at types a)) have ∙ ap (λ k. Some k) (sym (fit.free a kind q.kind have kept))

  pub judged_joined : (new : Types) → IsJoined types batch.types new → AreJudged new (joined s p)
  judged_joined new joins = record { types = types_joined new joins; named = named_joined; closed = closed_joined }

-- some store, and some batch
pub has_joined : (types : Types) (batch : Noted) (new : Types) → HasJudged types → HasObjects batch → IsFit types batch → IsJoined types batch.types new → HasJudged new
has_joined types batch new kept came fit joins =
    (joined kept.0 came.0, judged_joined types batch kept.0 came.0 kept.1 came.1 fit new joins)

-- the types of the batch are kept
pub holds_joined : (types batch new : Types) → IsJoined types batch new → KeepsTypes batch new
holds_joined types batch new joins a kind comes = joins a ∙ ap (λ g. option_or g (kind_at types a)) comes

-- what was kept is kept
pub keeps_joined : (types : Types) (batch : Noted) (new : Types) → IsFit types batch → IsJoined types batch.types new → KeepsTypes types new
keeps_joined types batch new fit joins a kind kept = joins a ∙ by (kind_at batch.types a) refl
  where
    by : (g : Option ObjectType) → kind_at batch.types a ≡ g → option_or (kind_at batch.types a) (kind_at types a) ≡ Some kind
    by None none = ap (λ g. option_or g (kind_at types a)) none ∙ kept
    by (Some other) have = ap (λ g. option_or g (kind_at types a)) have ∙ ap (λ k. Some k) (sym (fit.free a other kind have kept))

-- ---- types in maps

-- what one map has once another was put into it
pub is_joined : (old batch new inside others : Types) → inside ≡ old → others ≡ batch → IsDistinct bytes_eq (keys_of others)
    → ((q : Id) → kind_at new q ≡ update_all bytes_eq (kind_at inside) others q) → IsJoined old batch new
is_joined old batch new inside others e f differ is a =
    is a
    ∙ ap (λ s. update_all bytes_eq (kind_at s) others a) e
    ∙ update_all_distinct nat_list_eq_equiv bytes_eq (λ x y. refl) (kind_at old) others a differ
    ∙ ap (λ s. option_or (kind_at s a) (kind_at old a)) f

-- no objects were judged
pub none_judged : HasJudged []
none_judged = (
  no_objects,
  record {
    types = λ a. refl;
    named = λ a o is. absurd (none-some o is);
    closed = λ a o is. absurd (none-some o is);
  },
)

pub emptied_judged : (types : Types) → types ≡ [] → HasJudged types
emptied_judged types is = rw is none_judged
