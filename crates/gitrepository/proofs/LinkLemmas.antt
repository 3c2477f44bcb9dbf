-- Objects whose links are recorded, and objects whose links lead to objects.
use Rattle.std.proofs.Common.{◌≡◌, inl, inr, Bool, true, false, if◌then◌else◌, ℕ, List, [], ◌∷◌, ◌++◌, All, Contains, Option, Some, append-nil, refl, ap, subst, sym, ◌∙◌}
use Rattle.std.specs.List.{filter_map}
use Rattle.std.specs.Option.{option_to_list}
use Rattle.std.proofs.lemmas.List.Elements.{All-append, All-contains, All-push, All-weaker, Contains-append_left}
use Rattle.gname.specs.Ids.{Id}
use Rattle.gitobject.specs.Trees.{Entry, IsEntry, entry_link, link_of, tree_text}
use Rattle.gitobject.specs.declared.links.Link.{Link}
use Rattle.gitobject.specs.declared.types.ObjectType.{ObjectType}
use Rattle.gitobject.specs.declared.types.ObjectType.TheVariants.{Tree}
use Rattle.gitobject.proofs.EntryLemmas.{links_more}
use Rattle.gcomplete.specs.Batches.{KeepsTypes}
use Rattle.gcomplete.specs.Linked.{IsLinked}
use Rattle.gcomplete.specs.Stores.{Types, kind_at}
use Rattle.gcomplete.proofs.Parts.{something}
use Rattle.gitpack.specs.declared.indexing.IndexedEntry.{IndexedEntry}
use Rattle.gitrepository.specs.Received.{AreLinked, IsInReceived, IsLinkedEntry, Leads}
use Rattle.gitrepository.specs.declared.needs.ReadObject.{ReadObject}
use Rattle.gitrepository.specs.steps.Arriving.{AreLinksNeeded, AreReadObjects, IsInIndex, IsNeeded, IsReadEntry, IsReadObject, IsRecorded, KeepsLinks, LeadsFrom}

-- if all links of an object lead somewhere, they also lead wherever these links lead
pub linked_weaker : (P Q : Link → Type 0) → ((link : Link) → P link → Q link) → (a : Id) (kind : ObjectType) → IsLinked P a kind → IsLinked Q a kind
linked_weaker P Q weaker a kind is = record {
  body = is.body;
  name = is.name;
  links = is.links;
  reads = is.reads;
  each = All-weaker P Q weaker is.links is.each;
}

-- ids that are recorded stay recorded
pub needed_more : (old new : Types) → KeepsTypes old new → (link : Link) → IsNeeded old link → IsNeeded new link
needed_more old new keeps link is = keeps link.id link.kind is

pub all_needed_more : (old new : Types) → KeepsTypes old new → (links : List Link) → All (IsNeeded old) links → All (IsNeeded new) links
all_needed_more old new keeps links all = All-weaker (IsNeeded old) (IsNeeded new) (needed_more old new keeps) links all

-- the links of the first entries of a tree are recorded, and the link of one more entry
pub entries_needed : (old new : Types) → KeepsTypes old new → (done : List Entry) (e : Entry) (link : Option Link) → link ≡ entry_link e
    → All (IsNeeded old) (filter_map entry_link done) → All (IsNeeded new) (option_to_list link) → All (IsNeeded new) (filter_map entry_link (done ++ e ∷ []))
entries_needed old new keeps done e link is before now =
    let links = filter_map entry_link done in
    subst (All (IsNeeded new)) (links_more done e link links (links ++ option_to_list link) refl is refl)
    (All-append (IsNeeded new) links (option_to_list link) (all_needed_more old new keeps links before) now)

-- the links of all entries of a tree are recorded
pub tree_needed : (needs : Types) (body rest : List ℕ) (done : List Entry) → All IsEntry done → body ≡ tree_text done ++ rest → rest ≡ []
    → All (IsNeeded needs) (filter_map entry_link done) → AreLinksNeeded needs Tree body
tree_needed needs body rest done each is over all = record {
  links = filter_map entry_link done;
  reads = (done, record { is = is ∙ ap (λ r. tree_text done ++ r) over ∙ append-nil (tree_text done); each = each }, refl);
  each = all;
}

-- the links of the objects that were read stay recorded
pub read_more : (old new : Types) → KeepsTypes old new → (objects : List ReadObject) → AreReadObjects old objects → AreReadObjects new objects
read_more old new keeps objects all =
    All-weaker (IsReadObject old) (IsReadObject new) (λ o is. linked_weaker (IsNeeded old) (IsNeeded new) (needed_more old new keeps) o.id o.kind is) objects all

-- one more object is read
pub read_pushed : (needs : Types) (old new : List ReadObject) (object : ReadObject) (comes : Bool) → new ≡ (if comes then old ++ object ∷ [] else old)
    → AreReadObjects needs old → IsReadObject needs object → AreReadObjects needs new
read_pushed needs old new object true is all this = subst (AreReadObjects needs) (sym is) (All-push (IsReadObject needs) old object all this)
read_pushed needs old new object false is all this = subst (AreReadObjects needs) (sym is) all

-- if each recorded id leads to an object or to a prerequisite, the objects of the index are linked
pub all_linked : (prerequisites : List Link) (pack : List IndexedEntry) (needs : Types) → All (IsReadEntry needs) pack
    → ((a : Id) (kind : ObjectType) → kind_at needs a ≡ Some kind → Leads prerequisites pack (link_of kind a)) → AreLinked prerequisites pack
all_linked prerequisites pack needs all leads =
    All-weaker (IsReadEntry needs) (IsLinkedEntry prerequisites pack)
    (λ e is. linked_weaker (IsNeeded needs) (Leads prerequisites pack) (λ link needed. leads link.id link.kind needed) e.entry.id e.kind is) pack all

-- links lead to the same objects and prerequisites after prerequisites are added
pub leads_more : (old new : List Link) (pack : List IndexedEntry) → KeepsLinks old new → (pair : Id × ObjectType) → LeadsFrom old pack pair → LeadsFrom new pack pair
leads_more old new pack keeps pair (inl mine) = inl mine
leads_more old new pack keeps pair (inr outside) = inr (keeps (link_of pair.1 pair.0) outside)

pub all_lead_more : (old new : List Link) (pack : List IndexedEntry) → KeepsLinks old new → (pairs : List (Id × ObjectType)) → All (LeadsFrom old pack) pairs → All (LeadsFrom new pack) pairs
all_lead_more old new pack keeps pairs all = All-weaker (LeadsFrom old pack) (LeadsFrom new pack) (leads_more old new pack keeps) pairs all

-- one more prerequisite
pub keeps_pushed : (old new : List Link) (link : Link) (comes : Bool) → new ≡ (if comes then old ++ link ∷ [] else old) → KeepsLinks old new
keeps_pushed old new link true is other among = subst (λ links. Contains links other) (sym is) (Contains-append_left old (link ∷ []) other among)
keeps_pushed old new link false is other among = subst (λ links. Contains links other) (sym is) among

pub stored_pushed : (Has : Link → Type 0) (old new : List Link) (link : Link) (comes : Bool) → new ≡ (if comes then old ++ link ∷ [] else old) → Has link → All Has old → All Has new
stored_pushed Has old new link true is has all = subst (All Has) (sym is) (All-push Has old link all has)
stored_pushed Has old new link false is has all = subst (All Has) (sym is) all

-- an object that was read, and an entry with the same id and the same type
pub same_read : (needs : Types) (object : ReadObject) (entry : IndexedEntry) → object.id ≡ entry.entry.id → object.kind ≡ entry.kind
    → IsReadObject needs object → IsReadEntry needs entry
same_read needs object entry ids kinds is =
    let P : Id → Type 0 = λ a. IsLinked (IsNeeded needs) a object.kind in
    subst (IsLinked (IsNeeded needs) entry.entry.id) kinds (subst P ids is)

-- an object that was read is in the index if an entry at its position has the same id and the same type
pub in_index : (pack : List IndexedEntry) (object : ReadObject) (entry : IndexedEntry) → Contains pack entry → object.id ≡ entry.entry.id → object.kind ≡ entry.kind
    → IsInIndex pack object
in_index pack object entry among ids kinds = record { object = entry; among = among; id = sym ids; kind = sym kinds }

-- each recorded id leads to an object of the index or to a prerequisite
pub recorded_in : (prerequisites : List Link) (pack : List IndexedEntry) (needs : Types) (objects sorted : List ReadObject)
    → ((object : ReadObject) → Contains objects object → Contains sorted object) → All (IsInIndex pack) sorted
    → ((a : Id) (kind : ObjectType) → kind_at needs a ≡ Some kind → Leads prerequisites pack (link_of kind a))
    → (a : Id) → IsRecorded needs objects a → IsInReceived prerequisites pack a
recorded_in prerequisites pack needs objects sorted keeps indexed leads a (inl read) =
    let kind = read.object.kind in let P : Id → Type 0 = λ b. Leads prerequisites pack (link_of kind b) in
    (kind, subst P read.same (inl (All-contains (IsInIndex pack) sorted read.object indexed (keeps read.object read.among))))
recorded_in prerequisites pack needs objects sorted keeps indexed leads a (inr needed) =
    let kind = something (kind_at needs a) needed in (kind.0, leads a kind.0 kind.1)
