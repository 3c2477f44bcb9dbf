-- Changes to a server: adding an object, setting a ref (git-update-ref(1)), and setting HEAD (git-symbolic-ref(1)). A
-- rejected change leaves the server as it was.
use Rattle.std.specs.Prelude.{◌≡◌, None, Result, Ok, Err}
use Rattle.gname.specs.Ids.{Id}
use Rattle.gname.specs.Names.{Name}
use Rattle.gobject.specs.declared.node.Entry.{Entry}
use Rattle.gobject.specs.Objects.{node_at}
use Rattle.gdag.specs.Graphs.{Holds, HoldsParents, IsFirstAbsent}
use Rattle.gdag.specs.Insert.{ComesIn, IsCause}
use Rattle.grefs.specs.RefLists.{CannotSet, RefList, SetsRef, ref_at}
use Rattle.grefs.specs.declared.fault.RefsFault.{RefsFault}
use Rattle.grefs.specs.declared.head.Head.{Head}
use Rattle.grefs.specs.declared.fault.RefsFault.TheVariants as refs
use Rattle.ganswer.specs.Servers.{Server, HoldsHead}
use Rattle.ganswer.specs.declared.fault.BuildFault.{BuildFault}
use Rattle.ganswer.specs.declared.fault.BuildFault.TheVariants as build

-- ---- an object

-- the reasons to reject a new object: the server lacks a parent, or the graph rejects the object
abbrev pub IsNotAdded : {A : Type 0} → Server A → Entry A → BuildFault A → Type 0
IsNotAdded server entry (build.MissingParent id) = IsFirstAbsent server.graph.entries entry.node.parents id
IsNotAdded server entry (build.Graph cause) =
    HoldsParents server.graph.entries entry × IsCause server.graph.format server.graph.entries entry cause
IsNotAdded server entry _ = ⊥

-- only the graph changes: the object is appended, unless the graph already held its id with the same kind and parents
pub record AddsObject {A : Type 0} (old : Server A) (entry : Entry A) (new : Server A) : Type 0 where
  pub parents : HoldsParents old.graph.entries entry
  pub format : new.graph.format ≡ old.graph.format
  pub comes : ComesIn old.graph.format old.graph.entries entry new.graph.entries
  pub refs : new.refs ≡ old.refs
  pub head : new.head ≡ old.head

abbrev pub Adds : {A : Type 0} → Server A → Entry A → Server A → Result (Unit {0}) (BuildFault A) → Type 0
Adds old entry new (Ok _) = AddsObject old entry new
Adds old entry new (Err fault) = (new ≡ old) × IsNotAdded old entry fault

-- ---- a ref

-- the reasons why the refs do not take a name: the name can't be set, or the name is new and memory runs out
abbrev pub IsNotTaken : RefList → Name → RefsFault → Type 0
IsNotTaken list name refs.Refs = CannotSet list name
IsNotTaken list name refs.Memory = (ref_at list name ≡ None) × ¬ (CannotSet list name)

-- the reasons to reject a ref update: the server does not hold the id, the name can't be set, or memory runs out
abbrev pub IsNotSet : {A : Type 0} → Server A → Name → Id → BuildFault A → Type 0
IsNotSet server name id (build.RefMissing missing) = (missing ≡ name) × (node_at server.graph.entries id ≡ None)
IsNotSet server name id (build.Refs cause) = Holds server.graph.entries id × IsNotTaken server.refs name cause
IsNotSet server name id _ = ⊥

-- only the refs change: the name now points at the id
pub record SetsOneRef {A : Type 0} (old : Server A) (name : Name) (id : Id) (new : Server A) : Type 0 where
  pub held : Holds old.graph.entries id
  pub graph : new.graph ≡ old.graph
  pub sets : SetsRef old.refs new.refs name id
  pub head : new.head ≡ old.head

abbrev pub Sets : {A : Type 0} → Server A → Name → Id → Server A → Result (Unit {0}) (BuildFault A) → Type 0
Sets old name id new (Ok _) = SetsOneRef old name id new
Sets old name id new (Err fault) = (new ≡ old) × IsNotSet old name id fault

-- ---- HEAD

-- HEAD is replaced, or a detached HEAD is rejected because the server does not hold its id
abbrev pub SetsHead : {A : Type 0} → Server A → Head A → Server A → Result (Unit {0}) (BuildFault A) → Type 0
SetsHead old head new (Ok _) = HoldsHead old.graph.entries head × (new ≡ record old { head = head })
SetsHead old head new (Err build.HeadMissing) = (new ≡ old) × ¬ (HoldsHead old.graph.entries head)
SetsHead old head new (Err _) = ⊥
