-- A closed store takes what an honest server sends.
use Rattle.std.proofs.Common.{◌≡◌, ◌⊎◌, inl, inr, List, All, Contains, Option, None, Some, IsSome, refl, sym, ap, subst, ◌∙◌}
use Rattle.std.proofs.lemmas.List.Elements.{All-contains}
use Rattle.std.proofs.lemmas.Option.{none-some, same_Some}
use Rattle.gname.specs.Ids.{Id}
use Rattle.gitobject.specs.Trees.{link_of}
use Rattle.gitobject.specs.declared.links.Link.{Link}
use Rattle.gitobject.specs.declared.types.ObjectType.{ObjectType}
use Rattle.gcomplete.specs.Stores.{GitObject, Holds, Store, Types, kind_at, kind_in}
use Rattle.gcomplete.specs.Closed.{HasAllLinks, HasLink, HasLinks, IsClosed, LeadsIn}
use Rattle.gcomplete.specs.Naming.{Collide, IsNamed}
use Rattle.gcomplete.specs.Batches.{AreJudged, IsBatchOf, Noted, need_at}
use Rattle.gcomplete.specs.Adding.{HasOtherType, IsAddFault, IsClash, IsFit, Leads}
use Rattle.gcomplete.specs.Sending.{IsPartOf, IsSent, LeadsOnward}
use Rattle.gcomplete.specs.Laws.{SentIsFit, SentIsNoted}
use Rattle.gcomplete.specs.declared.fault.BatchFault.{BatchFault}
use Rattle.gcomplete.specs.declared.fault.BatchFault.TheVariants.{Malformed, Collision, Clash, Missing, Memory}
use Rattle.gcomplete.specs.declared.needs.Need.{Need}
use Rattle.gcomplete.proofs.Closing.{closed_complete, link_leads}
use Rattle.gcomplete.proofs.Names.{complete_same, same_here}
use Rattle.gcomplete.proofs.Parts.{each_key_or, held_kind, held_object, is_something, kind_absent, kind_held, something}

part_link : (s t : Store) → IsPartOf s t → (a : Id) (link : Link) → HasLink s a link → HasLink t a link
part_link s t part a link has = record { object = has.object; held = part a has.object has.held; links = has.links; reads = has.reads; among = has.among }

-- ---- an object of the server comes to a batch

module _ (server objects : Store) (noted : Noted) (a : Id) (o : GitObject) (closed : IsClosed server) (is : IsBatchOf noted objects)
    (part : IsPartOf objects server) (held : server a ≡ Some o) where
  all : HasAllLinks server o
  all = closed a o held

  -- each of the object's links leads to an object of its type
  own_leads : (links : List Link) → HasLinks o links → (link : Link) → Contains links link → LeadsIn server link
  own_leads links reads link among =
      link_leads server closed a link (record { object = o; held = held; links = links; reads = reads; among = among })

  one_type : HasOtherType noted.types a o.kind → ⊥
  one_type other =
      let found = held_kind objects a other.other (sym (is.types a) ∙ other.kept) in
      let same = same_Some found.0 o (sym (part a found.0 found.1) ∙ held) in
      other.differ (sym found.2 ∙ ap (λ x. x.kind) same)

  no_clash : (links : List Link) → HasLinks o links → (link : Link) → IsClash noted.needs links link → ⊥
  no_clash links reads link clash = clash.other.differ (same_Some clash.other.other link.kind (sym there ∙ own_leads links reads link clash.among))
    where
      there : kind_in server link.id ≡ Some clash.other.other
      there =
          elim clash.other.linked [
            | inl noted_link ↦
                (let has = is.only link.id noted_link.need noted_link.noted in
                let leads = link_leads server closed noted_link.need.by (link_of noted_link.need.kind link.id) (part_link objects server part noted_link.need.by (link_of noted_link.need.kind link.id) has) in
                leads ∙ ap (λ k. Some k) noted_link.typed)
            | inr among ↦ own_leads links reads (link_of clash.other.other link.id) among
          ]

  comes_to_batch : (fault : BatchFault) → IsAddFault noted a o fault → fault ≡ Memory
  comes_to_batch (Malformed id) why = absurd (why.1 all.links all.reads)
  comes_to_batch (Collision id) why = absurd (one_type why.1)
  comes_to_batch (Clash id link) why = absurd (no_clash why.1 why.2 link why.3)
  comes_to_batch (Missing id link) why = absurd why
  comes_to_batch Memory why = refl

pub sent_noted : SentIsNoted
sent_noted server objects noted a o fault closed is part held why = comes_to_batch server objects noted a o closed is part held fault why

-- ---- a batch of the server comes to a client

module _ (types : Types) (s t pack : Store) (batch : Noted) (known : List Id) (are : AreJudged types s) (named : IsNamed t) (closed : IsClosed t)
    (held : All (Holds s) known) (is : IsBatchOf batch pack) (sent : IsSent t pack known) where
  -- no id of the batch is kept with another type
  abbrev Free : Id → Type 0
  Free a = (kind other : ObjectType) → kind_at batch.types a ≡ Some kind → kind_at types a ≡ Some other → other ≡ kind

  free_or : (a : Id) → IsSome (kind_at batch.types a) → Free a ⊎ Collide s t
  free_or a some = by (s a) refl
    where
      by : (f : Option GitObject) → s a ≡ f → Free a ⊎ Collide s t
      by None none = inl (λ kind other comes kept. absurd (none-some other (sym (are.types a ∙ kind_absent s a none) ∙ kept)))
      by (Some q) mine =
          let kind = something (kind_at batch.types a) some in
          let found = held_kind pack a kind.0 (sym (is.types a) ∙ kind.1) in
          elim (same_here s t are.named named a q found.0 mine (sent.own a found.0 found.1)) [
            | inr collide ↦ inr collide
            | inl same ↦ inl (λ one other comes kept.
                same_Some other q.kind (sym kept ∙ are.types a ∙ kind_held s a q mine)
                ∙ ap (λ x. x.kind) same ∙ found.2 ∙ same_Some kind.0 one (sym kind.1 ∙ comes))
          ]

  -- each link of the batch leads to an object of the batch or of the client
  abbrev Meets : Id → Type 0
  Meets a = (need : Need) → need_at batch.needs a ≡ Some need → Leads types batch.types (link_of need.kind a)

  leads_or : (link : Link) → LeadsIn t link → LeadsOnward t pack known link → Leads types batch.types link ⊎ Collide s t
  leads_or link leads (inl there) =
      let q = held_object pack link.id there in
      let same = same_Some q.0.kind link.kind (sym (kind_held t link.id q.0 (sent.own link.id q.0 q.1)) ∙ leads) in
      inl (inl (is.types link.id ∙ kind_held pack link.id q.0 q.1 ∙ ap (λ k. Some k) same))
  leads_or link leads (inr path) =
      let q = held_kind t link.id link.kind leads in
      let complete = closed_complete s are.closed path.0 (All-contains (Holds s) known path.0 held path.1) in
      elim (complete_same s t are.named named path.0 complete link.id q.0 path.2 q.1) [
        | inl mine ↦ inl (inr (are.types link.id ∙ kind_held s link.id q.0 mine ∙ ap (λ k. Some k) q.2))
        | inr collide ↦ inr collide
      ]

  meets_or : (a : Id) → IsSome (need_at batch.needs a) → Meets a ⊎ Collide s t
  meets_or a some =
      let need = something (need_at batch.needs a) some in
      let link : Link = link_of need.0.kind a in
      let has = is.only a need.0 need.1 in
      let leads = link_leads t closed need.0.by link (part_link pack t sent.own need.0.by link has) in
      let onward = All-contains (LeadsOnward t pack known) has.links link (sent.onward need.0.by has.object has.links has.held has.reads) has.among in
      elim (leads_or link leads onward) [
        | inr collide ↦ inr collide
        | inl mine ↦
            (let P : Need → Type 0 = λ n. Leads types batch.types (link_of n.kind a) in
            inl (λ other noted. subst P (same_Some need.0 other (sym need.1 ∙ noted)) mine))
      ]

  pub fits_or : IsFit types batch ⊎ Collide s t
  fits_or = both (each_key_or Free (Collide s t) batch.types free_or) (each_key_or Meets (Collide s t) batch.needs meets_or)
    where
      both : ((a : Id) → IsSome (kind_at batch.types a) → Free a) ⊎ Collide s t → ((a : Id) → IsSome (need_at batch.needs a) → Meets a) ⊎ Collide s t → IsFit types batch ⊎ Collide s t
      both (inr collide) meets = inr collide
      both (inl free) (inr collide) = inr collide
      both (inl free) (inl meets) = inl (record {
        free = λ a kind other comes kept. free a (is_something (kind_at batch.types a) kind comes) kind other comes kept;
        leads = λ a need noted. meets a (is_something (need_at batch.needs a) need noted) need noted;
      })

pub sent_fits : SentIsFit
sent_fits types s t pack batch known are named closed held is sent = fits_or types s t pack batch known are named closed held is sent
