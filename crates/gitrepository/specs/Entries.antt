-- The graph entries of objects (gitglossary(7), "commit object", "tag object").
use Rattle.std.specs.Prelude.{◌≡◌, ◌⊎◌, ⊤, ℕ, List, Contains, Option, Some, map, slice_get}
use Rattle.std.specs.Option.{option_map}
use Rattle.gitcommitgraph.specs.Files.{Commit}
use Rattle.gname.specs.Ids.{Id}
use Rattle.gitobject.specs.Links.{IsTag}
use Rattle.gitobject.specs.Naming.{id_of}
use Rattle.gitobject.specs.declared.types.ObjectType.{ObjectType}
use Rattle.gitobject.specs.declared.types.ObjectType.TheVariants as types
use Rattle.gdag.specs.Graphs.{Holds}
use Rattle.gobject.specs.Objects.{node_of}
use Rattle.gobject.specs.declared.node.Kind.TheVariants as kinds
use Rattle.gobject.specs.declared.node.Entry.{Entry}
use Rattle.gitwalk.specs.Entries.{IsNodeOf, leaf}

-- the entry describes an object: its id is the id of the object, and its node is the node of the object
pub record IsOfObject {A : Type 0} (entry : Entry A) : Type 0 where
  pub kind : ObjectType
  pub body : List ℕ
  pub id : entry.id ≡ id_of kind body
  pub node : IsNodeOf kind body entry.node

-- the id of the commit at a position of a commit-graph
abbrev pub id_at : List Commit → ℕ → Option Id
id_at commits position = option_map (λ commit. commit.id) (slice_get commits position)

-- The entry describes a commit of the commit-graph. Its parents are the commits at the parent positions that the
-- commit-graph lists, in order.
pub record IsOfCommit {A : Type 0} (commits : List Commit) (entry : Entry A) : Type 0 where
  pub commit : Commit
  pub parents : List Id
  pub among : Contains commits commit
  pub id : entry.id ≡ commit.id
  pub named : map (id_at commits) commit.parents ≡ map Some parents
  pub node : entry.node ≡ node_of kinds.Commit parents

-- the entry describes an object, or a commit of the commit-graph
abbrev pub IsKnown : {A : Type 0} → List Commit → Entry A → Type 0
IsKnown commits entry = IsOfObject entry ⊎ IsOfCommit commits entry

-- objects of this type are leaves of a graph: trees and blobs
abbrev pub IsLeafType : ObjectType → Type 0
IsLeafType types.Tree = ⊤
IsLeafType types.Blob = ⊤
IsLeafType _ = ⊥

-- the entry is a tree or blob that a tag names, and the entries include this tag
pub record IsNamedLeaf {A : Type 0} (entries : List (Entry A)) (entry : Entry A) : Type 0 where
  pub kind : ObjectType
  pub tag : List ℕ
  pub named : IsTag tag entry.id kind
  pub is_leaf : IsLeafType kind
  pub node : entry.node ≡ leaf
  pub held : Holds entries (id_of types.Tag tag)

-- the entry describes an object, or is a tree or blob that a tag among the entries names
abbrev pub IsRead : {A : Type 0} → List (Entry A) → Entry A → Type 0
IsRead entries entry = IsOfObject entry ⊎ IsNamedLeaf entries entry
