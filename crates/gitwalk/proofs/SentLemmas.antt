-- The objects that are sent are those of an honest server.
use Rattle.std.proofs.Common.{◌≡◌, ◌⊎◌, inl, inr, ℕ, Bool, true, false, cond, List, [], ◌∷◌, All, Contains, Option, None, Some, IsSome, map, refl, sym, ap, subst, ◌∙◌}
use Rattle.std.proofs.lemmas.List.Elements.{All-cons, All-contains, All-contains_itself, All-head, All-map, All-nil, All-weaker}
use Rattle.std.proofs.lemmas.Option.{none-some, same_Some}
use Rattle.gname.specs.Ids.{Id}
use Rattle.gdag.proofs.IdLists.{contains_head, nothing_in_nil, only_one}
use Rattle.gobject.specs.declared.node.Entry.{Entry}
use Rattle.gitobject.specs.Links.{LinksOf}
use Rattle.gitobject.specs.Trees.{link_of}
use Rattle.gitobject.specs.declared.links.Link.{Link}
use Rattle.gitobject.specs.declared.types.ObjectType.{ObjectType}
use Rattle.gitobject.specs.declared.types.ObjectType.TheVariants.{Commit, Tree, Blob, Tag}
use Rattle.gitobject.proofs.Readings.{links_once}
use Rattle.gcomplete.specs.Stores.{GitObject, Holds, Store, kind_in}
use Rattle.gcomplete.specs.Closed.{HasLink, HasLinks, IsClosed, Reaches}
use Rattle.gcomplete.specs.Closed as reach
use Rattle.gcomplete.specs.Sending.{IsSent, LeadsOnward}
use Rattle.gcomplete.proofs.Closing.{link_leads}
use Rattle.gcomplete.proofs.Parts.{held_kind, kind_held, object_held}
use Rattle.gitwalk.specs.Entries.{IsNodeOf, id_of_entry, ids_of}
use Rattle.gitwalk.specs.Gathering.{Fates, FollowedOf, IsDecided, IsFollowed, IsGathered, IsListed, IsNamedBlob, IsSentAt, IsWalked, LeadsDown, LeadsToDecided, fate_at, here, is_sent_at, onward}
use Rattle.gitwalk.specs.Laws.{AreKnown, Describes, GatheredIsSent, IsHeld, sent_from}
use Rattle.gitwalk.specs.declared.fates.Fate.{Fate}
use Rattle.gitwalk.specs.declared.fates.Fate.TheVariants.{Sent, NotSent}

abbrev rest_of : List Link → List Link
rest_of [] = []
rest_of (link ∷ links) = links

-- ---- what is reached

reaches_more : (s : Store) (a b : Id) (link : Link) → Reaches s a b → HasLink s b link → Reaches s a link.id
reaches_more s a b link reach.here has = reach.onward link has reach.here
reaches_more s a b link (reach.onward first has rest) more = reach.onward first has (reaches_more s first.id b link rest more)

-- a followed link is a link of the object
followed_among : (kind : ObjectType) (body : List ℕ) (links : List Link) (link : Link) → FollowedOf kind body links → Contains links link
    → (all : List Link) × LinksOf kind body all × Contains all link
followed_among Commit body links link is among =
    let all = link_of Tree is.0 ∷ map (link_of Commit) is.1 in (
      all,
      (is.0, is.1, is.2, refl),
      subst (Contains all) (sym (only_one (link_of Tree is.0) link (subst (λ ls. Contains ls link) is.3 among))) (contains_head (link_of Tree is.0) (map (link_of Commit) is.1)),
    )
followed_among Tree body links link is among = (links, is, among)
followed_among Blob body links link is among = (links, is, among)
followed_among Tag body links link is among = nothing_in_nil link (subst (λ ls. Contains ls link) is among)

pub followed_link : (s : Store) (a : Id) (link : Link) → IsFollowed (IsHeld s) a link → HasLink s a link
followed_link s a link is =
    let all = followed_among is.object.kind is.object.body is.links link is.follows is.among in
    record { object = is.object; held = is.read; links = all.0; reads = all.1; among = all.2 }

reaches_down : (s : Store) (a b : Id) → LeadsDown (IsHeld s) a b → Reaches s a b
reaches_down s a b here = reach.here
reaches_down s a b (onward {b = c} link down followed) = reaches_more s a c link (reaches_down s a c down) (followed_link s c link followed)

pub link_held : (s : Store) → IsClosed s → (a : Id) (link : Link) → HasLink s a link → Holds s link.id
link_held s is a link has =
    let found = held_kind s link.id link.kind (link_leads s is a link has) in
    object_held s link.id found.0 found.1

-- ---- entries with an id

pub record Lists {A : Type 0} (entries : List (Entry A)) (a : Id) : Type 0 where
  pub entry : Entry A
  pub listed : Contains entries entry
  pub same : entry.id ≡ a

pub entry_with : {A : Type 0} (entries : List (Entry A)) (a : Id) → IsListed entries a → Lists entries a
entry_with entries a is =
    All-contains (Lists entries) (ids_of entries) a
    (All-map (Lists entries) id_of_entry entries
    (All-weaker (Contains entries) (λ entry. Lists entries entry.id) (λ entry among. record { entry = entry; listed = among; same = refl }) entries (All-contains_itself entries))) is

-- ---- the links of a sent object

module _ {A : Type 0} (server : Store) (entries : List (Entry A)) (fates : Fates) (known : List Id) (closed : IsClosed server)
    (describes : All (Describes server) entries) (gathered : IsGathered (IsHeld server) entries fates) (knows : AreKnown entries fates known) where
  abbrev pack : Store
  pack = sent_from server fates

  lead_by : (a : Id) (fate : Fate) → Holds server a → fate_at fates a ≡ Some fate
      → Holds pack a ⊎ ((b : Id) × Contains known b × Reaches server b a)
  lead_by a (Sent path) held is =
      let same : pack a ≡ server a = ap (λ f. cond (is_sent_at f) (server a) None) is in
      inl (subst (λ (f : Option GitObject). IsSome f) (sym same) held)
  lead_by a NotSent held is =
      let by = gathered.left_out a is in
      inr (by.parent, knows by.parent by.of_entry by.left_out, reaches_down server by.parent a by.leads)

  -- the parents of a listed entry are decided
  parents_decided : (entry : Entry A) → Contains entries entry → (ids : List Id) → entry.node.parents ≡ ids → All (IsDecided fates) ids
  parents_decided entry listed ids same =
      subst (All (IsDecided fates)) same
      (All-weaker (Contains entry.node.parents) (IsDecided fates) (λ a among. gathered.parents a (record { entry = entry; listed = listed; among = among }))
      entry.node.parents (All-contains_itself entry.node.parents))

  -- all links of an object are decided, if it was walked and a listed entry describes it
  entry_links : (entry : Entry A) → Contains entries entry → (kind : ObjectType) (body : List ℕ) (links followed : List Link) → IsNodeOf kind body entry.node
      → FollowedOf kind body followed → All (LeadsToDecided fates) followed → LinksOf kind body links → All (LeadsToDecided fates) links
  entry_links entry listed Commit body links followed node follows decided reads =
      let P = LeadsToDecided fates in
      let all = link_of Tree follows.0 ∷ map (link_of Commit) follows.1 in
      let other = link_of Tree node.0 ∷ map (link_of Commit) node.1 in
      let same : links ≡ all = links_once Commit body links all reads (follows.0, follows.1, follows.2, refl) in
      let tails = ap rest_of (links_once Commit body other all (node.0, node.1, node.2, refl) (follows.0, follows.1, follows.2, refl)) in
      let first = All-contains P followed (link_of Tree follows.0) decided (subst (λ ls. Contains ls (link_of Tree follows.0)) (sym follows.3) (contains_head (link_of Tree follows.0) [])) in
      let parents = All-map P (link_of Commit) node.1 (parents_decided entry listed node.1 (ap (λ n. n.parents) node.3)) in
      subst (All P) (sym same) (All-cons P (link_of Tree follows.0) (map (link_of Commit) follows.1) first (subst (All P) tails parents))
  entry_links entry listed Tree body links followed node follows decided reads = subst (All (LeadsToDecided fates)) (links_once Tree body followed links follows reads) decided
  entry_links entry listed Blob body links followed node follows decided reads = subst (All (LeadsToDecided fates)) (sym reads) (All-nil (LeadsToDecided fates))
  entry_links entry listed Tag body links followed node follows decided reads =
      let P = LeadsToDecided fates in
      let same : links ≡ link_of node.1 node.0 ∷ [] = links_once Tag body links (link_of node.1 node.0 ∷ []) reads (node.0, node.1, node.2, refl) in
      let target = All-head (IsDecided fates) node.0 [] (parents_decided entry listed (node.0 ∷ []) (ap (λ n. n.parents) node.3)) in
      subst (All P) (sym same) (All-cons P (link_of node.1 node.0) [] target (All-nil P))

  -- all links of a walked object are decided
  walked_links : (a : Id) (o : GitObject) (links : List Link) → server a ≡ Some o → HasLinks o links → IsWalked (IsHeld server) (ids_of entries) fates a
      → All (LeadsToDecided fates) links
  walked_links a o links held reads walked = by walked.part
    where
      same : walked.object ≡ o
      same = same_Some walked.object o (sym walked.read ∙ held)

      follows : FollowedOf o.kind o.body walked.links
      follows = subst (λ (x : GitObject). FollowedOf x.kind x.body walked.links) same walked.follows

      tree : (kind : ObjectType) (body : List ℕ) → kind ≡ Tree → FollowedOf kind body walked.links → LinksOf kind body links → All (LeadsToDecided fates) links
      tree kind body is following reading =
          let F : ObjectType → Type 0 = λ k. FollowedOf k body walked.links in let L : ObjectType → Type 0 = λ k. LinksOf k body links in
          subst (All (LeadsToDecided fates)) (links_once Tree body walked.links links (subst F is following) (subst L is reading)) walked.each

      by : (walked.object.kind ≡ Tree) ⊎ Contains (ids_of entries) a → All (LeadsToDecided fates) links
      by (inl is) = tree o.kind o.body (sym (ap (λ x. x.kind) same) ∙ is) follows reads
      by (inr listed) =
          let found = entry_with entries a listed in
          let d = All-contains (Describes server) entries found.entry describes found.listed in
          let one : d.object ≡ o = same_Some d.object o (sym d.held ∙ ap server found.same ∙ held) in
          entry_links found.entry found.listed o.kind o.body links walked.links
          (subst (λ (x : GitObject). IsNodeOf x.kind x.body found.entry.node) one d.node) follows walked.each reads

  -- an object that another object names as a blob has no links
  blob_links : (a : Id) (o : GitObject) (links : List Link) → server a ≡ Some o → HasLinks o links → IsNamedBlob (IsHeld server) fates a → All (LeadsToDecided fates) links
  blob_links a o links held reads named =
      let leads : kind_in server a ≡ Some Blob = link_leads server closed named.by (link_of Blob a) (followed_link server named.by (link_of Blob a) named.names) in
      let kind : o.kind ≡ Blob = same_Some o.kind Blob (sym (kind_held server a o held) ∙ leads) in
      let L : ObjectType → Type 0 = λ k. LinksOf k o.body links in
      subst (All (LeadsToDecided fates)) (sym (subst L kind reads)) (All-nil (LeadsToDecided fates))

  sent_links : (a : Id) (o : GitObject) (links : List Link) → IsSentAt fates a → server a ≡ Some o → HasLinks o links → All (LeadsToDecided fates) links
  sent_links a o links sent held reads =
      elim (gathered.walked a sent) [
        | inl named ↦ blob_links a o links held reads named
        | inr walked ↦ walked_links a o links held reads walked
      ]

  packed : (a : Id) (o : GitObject) → pack a ≡ Some o → IsSentAt fates a × (server a ≡ Some o)
  packed a o is = by (is_sent_at (fate_at fates a)) refl
    where
      by : (b : Bool) → is_sent_at (fate_at fates a) ≡ b → IsSentAt fates a × (server a ≡ Some o)
      by true yes_sent = (yes_sent, sym (ap (λ b. cond b (server a) None) yes_sent) ∙ is)
      by false not_sent = absurd (none-some o (sym (ap (λ b. cond b (server a) None) not_sent) ∙ is))

  links_onward : (a : Id) (o : GitObject) (links : List Link) → pack a ≡ Some o → HasLinks o links → All (LeadsOnward server pack known) links
  links_onward a o links is reads =
      let in_pack = packed a o is in
      let decided = sent_links a o links in_pack.0 in_pack.1 reads in
      All-weaker (Contains links) (LeadsOnward server pack known) (λ link among. each link among (All-contains (LeadsToDecided fates) links link decided among)) links (All-contains_itself links)
    where
      each : (link : Link) → Contains links link → LeadsToDecided fates link → LeadsOnward server pack known link
      each link among decided =
          lead_by link.id decided.0
          (link_held server closed a link (record { object = o; held = (packed a o is).1; links = links; reads = reads; among = among })) decided.1

  is_sent_now : IsSent server pack known
  is_sent_now = record { own = λ a o is. (packed a o is).1; onward = links_onward }

pub gathered_sent : (A : Type 0) → GatheredIsSent A
gathered_sent A server entries fates known closed describes gathered knows = is_sent_now server entries fates known closed describes gathered knows
