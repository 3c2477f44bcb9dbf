-- The answer to ls-refs (gitprotocol-v2(5), "ls-refs"): HEAD first, then the refs in the byte order of their names. The
-- answer lists only the requested refs, each with the requested attributes.
use Rattle.std.specs.Prelude.{◌≡◌, Bool, true, false, ◌&&◌, List, [], ◌∷◌, ◌++◌, All, filter, map, nat_eq}
use Rattle.std.specs.Prelude.{if◌then◌else◌, is_none, MatchOption, Option, Some, None, ℕ, slice_get, bytes_eq}
use Rattle.std.specs.List.{list_any, starts_with}
use Rattle.gname.specs.Names.{Name, head_name}
use Rattle.gname.specs.Ids.{Id}
use Rattle.gpkt.specs.Packets.{Bytes}
use Rattle.gobject.specs.declared.node.Entry.{Entry}
use Rattle.gdag.specs.Peeling.{IsTagOf, PeelsTo}
use Rattle.grefs.specs.RefLists.{RefList, ref_at}
use Rattle.grefs.specs.declared.head.Head.{Head}
use Rattle.grefs.specs.declared.head.Head.TheVariants as heads
use Rattle.grequest.specs.declared.flag.LsRefsFlag.TheVariants.{Peel, Symrefs, Unborn}
use Rattle.grequest.specs.Asked.{LsRefsAsked, ls_has}
use Rattle.glsreply.specs.RefTexts.{RefLine}
use Rattle.glsreply.specs.LsReplies.{LsReply}
use Rattle.ganswer.specs.Servers.{Server}

-- ---- the requested refs

-- the id of the object that HEAD points at, directly or through a ref
abbrev pub head_id : {A : Type 0} → Head A → RefList → Option Id
head_id heads.None refs = None
head_id (heads.Id id) refs = Some id
head_id (heads.Symref target) refs = ref_at refs target

abbrev pub head_ref : Option Id → RefList
head_ref None = []
head_ref (Some id) = (head_name, id) ∷ []

-- HEAD, if it has an id, followed by the refs
abbrev pub all_refs : {A : Type 0} → Server A → RefList
all_refs server = head_ref (head_id server.head server.refs) ++ server.refs

-- the request includes the name: the name begins with a requested prefix, or the request has no prefixes
abbrev pub is_asked : List Bytes → Name → Bool
is_asked [] name = true
is_asked (prefix ∷ prefixes) name = list_any (starts_with nat_eq name) (prefix ∷ prefixes)

abbrev pub is_shown : List Bytes → Name × Id → Bool
is_shown prefixes ref = is_asked prefixes ref.0

-- ---- the attributes of refs

-- the name that HEAD points at
abbrev pub target_of : {A : Type 0} → Head A → Option Name
target_of heads.None = None
target_of (heads.Id id) = None
target_of (heads.Symref target) = Some target

-- the name of the ref that HEAD points at, if the request has `symrefs` and this is the line of HEAD
abbrev pub symref_of : {A : Type 0} → Head A → LsRefsAsked → Name → Option Name
symref_of head asked name = if ls_has asked Symrefs && bytes_eq name head_name then target_of head else None

-- the object `id` is a tag, and a chain of tags leads from this tag to the commit
pub record TagPeelsTo {A : Type 0} (g : List (Entry A)) (id commit : Id) : Type 0 where
  pub named : Id
  pub tag : IsTagOf g id named
  pub peels : PeelsTo g id commit

-- the commit that a tag peels to, or `None` if the object is not a tag or the tag peels to no commit
abbrev pub IsPeeled : {A : Type 0} → List (Entry A) → Id → Option Id → Type 0
IsPeeled g id peeled = MatchOption peeled ((commit : Id) → ¬ (TagPeelsTo g id commit)) (TagPeelsTo g id)

-- the commit that a tag peels to, if the request has `peel`
abbrev pub IsPeeledIf : {A : Type 0} → Bool → List (Entry A) → Id → Option Id → Type 0
IsPeeledIf false g id peeled = peeled ≡ None
IsPeeledIf true g id peeled = IsPeeled g id peeled

-- a line has exactly the requested attributes
pub record HasAttributes {A : Type 0} (server : Server A) (asked : LsRefsAsked) (line : RefLine) : Type 0 where
  pub symref : line.symref ≡ symref_of server.head asked line.name
  pub peeled : IsPeeledIf (ls_has asked Peel) server.graph.entries line.id line.peeled

-- ---- the lines

abbrev pub name_and_id : RefLine → Name × Id
name_and_id line = (line.name, line.id)

-- the reply has a line for each requested ref, in order, with the requested attributes
pub record ShowsLines {A : Type 0} (server : Server A) (asked : LsRefsAsked) (refs : RefList)
    (lines : List RefLine) : Type 0 where
  pub shown : map name_and_id lines ≡ filter (is_shown asked.prefixes) refs
  pub attributes : All (HasAttributes server asked) lines

-- ---- an unborn HEAD

-- the name that an unborn HEAD points at
abbrev pub missing_target : {A : Type 0} → Head A → RefList → Option Name
missing_target heads.None refs = None
missing_target (heads.Id id) refs = None
missing_target (heads.Symref target) refs = if is_none (ref_at refs target) then Some target else None

-- the name that an unborn HEAD points at, if the request includes HEAD and has `unborn`
abbrev pub unborn_of : {A : Type 0} → Server A → LsRefsAsked → Option Name
unborn_of server asked =
    if ls_has asked Unborn && is_asked asked.prefixes head_name then missing_target server.head server.refs else None

-- ---- the answer

-- the reply lists the requested refs, HEAD first, and, if requested, the name that an unborn HEAD points at
pub record LsAnswer {A : Type 0} (server : Server A) (asked : LsRefsAsked) (reply : LsReply) : Type 0 where
  pub lines : ShowsLines server asked (all_refs server) reply.lines
  pub unborn : reply.unborn ≡ unborn_of server asked

-- ---- peeled ids that are looked up before a request arrives

-- each entry of the list is the peeled id of the ref at the same position
abbrev pub KnowsPeels : {A : Type 0} → List (Entry A) → RefList → List (Option Id) → Type 0
KnowsPeels g refs peels =
    (k : ℕ) (ref : Name × Id) (peeled : Option Id)
    → slice_get refs k ≡ Some ref → slice_get peels k ≡ Some peeled → IsPeeled g ref.1 peeled
