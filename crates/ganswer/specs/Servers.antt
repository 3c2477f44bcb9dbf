-- The contents of a server: a graph, refs and HEAD (gitglossary(7), "ref", "HEAD"). The graph holds each parent, and
-- the object that each ref or a detached HEAD points at.
use Rattle.std.specs.Prelude.{◌≡◌, ⊤, List, ◌∷◌, ◌++◌, All, None, Result, Ok, Err, flat_map}
use Rattle.std.specs.Map.{values_of}
use Rattle.gname.specs.Ids.{Id}
use Rattle.gname.specs.Names.{Name}
use Rattle.gobject.specs.declared.node.Entry.{Entry}
use Rattle.gobject.specs.Objects.{node_at}
use Rattle.gdag.specs.Graphs.{History, Holds, IsFirstAbsent, IsGraph}
use Rattle.gdag.specs.Reach.{IsClosed}
use Rattle.grefs.specs.Heads.{PointsBelowRefs}
use Rattle.grefs.specs.RefLists.{RefList, IsRefs}
use Rattle.grefs.specs.declared.head.Head.{Head}
use Rattle.grefs.specs.declared.head.Head.TheVariants as heads
use Rattle.ganswer.specs.declared.fault.BuildFault.{BuildFault}
use Rattle.ganswer.specs.declared.fault.BuildFault.TheVariants as build

-- a repository that is served
pub record Server (A : Type 0) : Type 0 where
  pub graph : History A
  pub refs : RefList
  pub head : Head A

abbrev pub server_of : {A : Type 0} → History A → RefList → Head A → Server A
server_of graph refs head = record { graph = graph; refs = refs; head = head }

-- the graph holds the id of each ref
abbrev pub HoldsRefs : {A : Type 0} → List (Entry A) → RefList → Type 0
HoldsRefs g refs = All (Holds g) (values_of refs)

-- the graph holds the id of HEAD, if HEAD is detached; a HEAD that points at a ref may be unborn
abbrev pub HoldsHead : {A : Type 0} → List (Entry A) → Head A → Type 0
HoldsHead g heads.None = ⊤
HoldsHead g (heads.Id id) = Holds g id
HoldsHead g (heads.Symref target) = ⊤

-- a valid server: the graph, the refs and HEAD are valid, and the graph holds all parents, the id of each ref, and the
-- id of a detached HEAD
pub record IsServer {A : Type 0} (server : Server A) : Type 0 where
  pub graph : IsGraph server.graph
  pub refs : IsRefs server.refs
  pub closed : IsClosed server.graph.entries
  pub held : HoldsRefs server.graph.entries server.refs
  pub head : HoldsHead server.graph.entries server.head
  pub target : PointsBelowRefs server.head

-- ---- creating a server

-- the parents of all objects, in insertion order
abbrev pub parents_in : {A : Type 0} → List (Entry A) → List Id
parents_in g = flat_map (λ entry. entry.node.parents) g

-- `name` is the name of the first ref whose id the graph does not hold
pub record IsFirstDangling {A : Type 0} (g : List (Entry A)) (refs : RefList) (name : Name) : Type 0 where
  pub front : RefList
  pub id : Id
  pub back : RefList
  pub parts : refs ≡ front ++ (name, id) ∷ back
  pub held : HoldsRefs g front
  pub absent : node_at g id ≡ None

-- The possible faults of creating a server: a missing parent, otherwise a ref with a missing id, otherwise a detached
-- HEAD with a missing id. If no object is missing, the only possible fault is out of memory for the name HEAD.
abbrev pub IsUnserved : {A : Type 0} → Server A → BuildFault A → Type 0
IsUnserved server (build.NotClosed id) = IsFirstAbsent server.graph.entries (parents_in server.graph.entries) id
IsUnserved server (build.RefMissing name) =
    IsClosed server.graph.entries × IsFirstDangling server.graph.entries server.refs name
IsUnserved server build.HeadMissing =
    IsClosed server.graph.entries × HoldsRefs server.graph.entries server.refs
    × ¬ (HoldsHead server.graph.entries server.head)
IsUnserved server build.Memory = IsServer server
IsUnserved server _ = ⊥

-- the result of creating a server: a server with exactly the given graph, refs and HEAD, or a fault
abbrev pub Makes : {A : Type 0} → Server A → Result (Server A) (BuildFault A) → Type 0
Makes parts (Ok server) = (server ≡ parts) × IsServer server
Makes parts (Err fault) = IsUnserved parts fault
