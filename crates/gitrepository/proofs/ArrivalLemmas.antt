-- Appending entries to a list of entries that were read.
use Rattle.std.proofs.Common.{◌≡◌, inl, inr, Bool, true, false, if◌then◌else◌, ℕ, Result, Ok, Err, OnOk, List, [], ◌∷◌, ◌++◌, All, Contains, slice_index_or, refl, ap, sym, subst, ◌∙◌}
use Rattle.std.specs.Option.{is_some}
use Rattle.std.proofs.lemmas.List.Elements.{All-head, All-push, All-weaker, Contains-append_left, Contains-push}
use Rattle.gname.specs.Ids.{Id}
use Rattle.gdag.specs.Graphs.{Holds}
use Rattle.gdag.proofs.Growing.{grows_keeps, keeps_held}
use Rattle.gdag.proofs.Holding.{id_cases, is_has_id, node_here, node_there}
use Rattle.gcomplete.specs.Batches.{KeepsTypes}
use Rattle.gcomplete.specs.Judging.{IsKept}
use Rattle.gcomplete.specs.Stores.{Types, kind_at}
use Rattle.gcomplete.proofs.Kept.{kept_still}
use Rattle.gcomplete.proofs.Parts.{is_something}
use Rattle.gitobject.specs.Links.{IsTag}
use Rattle.gitobject.specs.Naming.{id_of}
use Rattle.gitobject.specs.Trees.{link_of}
use Rattle.gitobject.specs.declared.links.Link.{Link}
use Rattle.gitobject.proofs.Readings.{links_once}
use Rattle.gitobject.specs.declared.types.ObjectType.TheVariants as types
use Rattle.gobject.specs.declared.node.Entry.{Entry}
use Rattle.gitrepository.specs.Entries.{IsRead}
use Rattle.gitrepository.specs.declared.needs.ReadObject.{ReadObject}
use Rattle.gitrepository.specs.steps.Arriving.{AreLinksNeeded, IsEntryRecorded, IsNeeded, IsReadId, IsRecorded}

-- an id that a list of entries holds is still held after more entries are appended
holds_more : {A : Type 0} (old more : List (Entry A)) (a : Id) → Holds old a → Holds (old ++ more) a
holds_more old more = keeps_held old (old ++ more) (grows_keeps old (old ++ more) (more, refl))

-- a list of entries holds the id of its last entry
holds_last : {A : Type 0} (old : List (Entry A)) (entry : Entry A) → Holds (old ++ entry ∷ []) entry.id
holds_last [] entry = ap is_some (node_here entry [] entry.id (is_has_id entry.id entry refl))
holds_last (first ∷ old) entry =
    elim (id_cases entry.id first) [
      | inl same ↦ ap is_some (node_here first (old ++ entry ∷ []) entry.id same)
      | inr other ↦ ap is_some (node_there first (old ++ entry ∷ []) entry.id other) ∙ holds_last old entry
    ]

-- if a successful call appends the entry with this id, the list holds the id afterwards
pub holds_pushed : {A V E : Type 0} (old new : List (Entry A)) (entry : Entry A) (a : Id) (result : Result V E) → OnOk result (new ≡ old ++ entry ∷ []) → entry.id ≡ a → OnOk result (Holds new a)
holds_pushed old new entry a (Ok done) is same =
    subst (λ g. Holds g a) (sym is) (subst (Holds (old ++ entry ∷ [])) same (holds_last old entry))
holds_pushed old new entry a (Err fault) is same = tt

-- `IsRead` remains true for an entry after more entries are appended to the list
pub read_more : {A : Type 0} (old more : List (Entry A)) (entry : Entry A) → IsRead old entry → IsRead (old ++ more) entry
read_more old more entry (inl object) = inl object
read_more old more entry (inr named) = inr (record {
  kind = named.kind;
  tag = named.tag;
  named = named.named;
  is_leaf = named.is_leaf;
  node = named.node;
  held = holds_more old more (id_of types.Tag named.tag) named.held;
})

-- `IsRead` remains true for all entries of a list after more entries are appended
all_more : {A : Type 0} (old more : List (Entry A)) → All (IsRead old) old → All (IsRead (old ++ more)) old
all_more old more all = λ k d inside. read_more old more (slice_index_or old k d) (all k d inside)

-- if `IsRead` holds for all entries of a list and for one more entry, it holds for all entries of the new list, whether
-- or not this entry is appended
pub reads_pushed : {A : Type 0} (old new : List (Entry A)) (entry : Entry A) (comes : Bool) → new ≡ (if comes then old ++ entry ∷ [] else old) → All (IsRead old) old → IsRead old entry → All (IsRead new) new
reads_pushed old new entry true is all this =
    subst (λ g. All (IsRead g) g) (sym is)
    (All-push (IsRead (old ++ entry ∷ [])) old entry (all_more old (entry ∷ []) all) (read_more old (entry ∷ []) entry this))
reads_pushed old new entry false is all this = subst (λ g. All (IsRead g) g) (sym is) all

-- ids that are recorded stay recorded when objects and needs are added
recorded_more : (old new : Types) (objects more : List ReadObject) → KeepsTypes old new → ((object : ReadObject) → Contains objects object → Contains more object)
    → (a : Id) → IsRecorded old objects a → IsRecorded new more a
recorded_more old new objects more keeps stays a (inl read) =
    inl (record { object = read.object; among = stays read.object read.among; same = read.same })
recorded_more old new objects more keeps stays a (inr needed) = inr (kept_still old new keeps a needed)

-- the same for the ids of all entries, after needs were added
pub all_recorded : {A : Type 0} (old new : Types) (objects : List ReadObject) → KeepsTypes old new → (entries : List (Entry A))
    → All (IsEntryRecorded old objects) entries → All (IsEntryRecorded new objects) entries
all_recorded old new objects keeps entries all =
    All-weaker (IsEntryRecorded old objects) (IsEntryRecorded new objects)
    (λ entry is. recorded_more old new objects objects keeps (λ object among. among) entry.id is) entries all

-- the same after needs were added, and perhaps one object
pub all_recorded_pushed : {A : Type 0} (old new : Types) (objects more : List ReadObject) (object : ReadObject) (comes : Bool)
    → more ≡ (if comes then objects ++ object ∷ [] else objects) → KeepsTypes old new → (entries : List (Entry A))
    → All (IsEntryRecorded old objects) entries → All (IsEntryRecorded new more) entries
all_recorded_pushed old new objects more object true is keeps entries all =
    let stays : (o : ReadObject) → Contains objects o → Contains more o =
    λ o among. subst (λ list. Contains list o) (sym is) (Contains-append_left objects (object ∷ []) o among) in
    All-weaker (IsEntryRecorded old objects) (IsEntryRecorded new more) (λ entry is. recorded_more old new objects more keeps stays entry.id is) entries all
all_recorded_pushed old new objects more object false is keeps entries all =
    subst (λ list. All (IsEntryRecorded new list) entries) (sym is) (all_recorded old new objects keeps entries all)

-- an object with this id was read if it was added to the list
pub read_last : (old new : List ReadObject) (object : ReadObject) → new ≡ old ++ object ∷ [] → IsReadId new object.id
read_last old new object is = record {
  object = object;
  among = subst (λ list. Contains list object) (sym is) (Contains-push old object);
  same = refl;
}

-- the id of one more entry is recorded
pub entries_recorded : {A : Type 0} (needs : Types) (objects : List ReadObject) (old new : List (Entry A)) (entry : Entry A) (comes : Bool)
    → new ≡ (if comes then old ++ entry ∷ [] else old) → All (IsEntryRecorded needs objects) old → IsRecorded needs objects entry.id
    → All (IsEntryRecorded needs objects) new
entries_recorded needs objects old new entry true is all this =
    subst (All (IsEntryRecorded needs objects)) (sym is) (All-push (IsEntryRecorded needs objects) old entry all this)
entries_recorded needs objects old new entry false is all this = subst (All (IsEntryRecorded needs objects)) (sym is) all

-- if the links of a tag are recorded, the id of the tagged object is recorded
pub target_needed : (tag : List ℕ) (link : Link) → IsTag tag link.id link.kind → (needs : Types) → AreLinksNeeded needs types.Tag tag → IsKept needs link.id
target_needed tag link is needs noted =
    let one = link_of link.kind link.id in
    let same : noted.links ≡ one ∷ [] = links_once types.Tag tag noted.links (one ∷ []) noted.reads (link.id, link.kind, is, refl) in
    is_something (kind_at needs link.id) link.kind (All-head (IsNeeded needs) one [] (subst (All (IsNeeded needs)) same noted.each))
