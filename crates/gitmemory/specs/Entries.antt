-- The entries of commits and tags (gitglossary(7), "commit object", "tag object").
use Rattle.std.specs.Prelude.{◌≡◌, ⊤, ℕ, false, List, [], ◌∷◌, IsTrue}
use Rattle.gcomplete.specs.Stores.{is_history_type}
use Rattle.gname.specs.Ids.{Id}
use Rattle.gitobject.specs.Links.{IsCommit, IsTag}
use Rattle.gitobject.specs.Naming.{id_of}
use Rattle.gitobject.specs.declared.types.ObjectType.{ObjectType}
use Rattle.gitobject.specs.declared.types.ObjectType.TheVariants as types
use Rattle.gobject.specs.Objects.{node_of}
use Rattle.gobject.specs.declared.node.Entry.{Entry}
use Rattle.gobject.specs.declared.node.Kind.TheVariants as kinds
use Rattle.gobject.specs.declared.node.Node.{Node}

-- the node of an object: a commit's node has the parents in order, and a tag's node has the target, which is a commit
-- or a tag
abbrev pub IsNodeOf : {A : Type 0} → ObjectType → List ℕ → Node A → Type 0
IsNodeOf types.Commit body node =
    (tree : Id) × (parents : List Id) × IsCommit body tree parents
    × (node ≡ node_of kinds.Commit parents)
IsNodeOf types.Tag body node =
    (target : Id) × (kind : ObjectType) × IsTag body target kind × IsTrue (is_history_type kind)
    × (node ≡ node_of kinds.Tag (target ∷ []))
IsNodeOf types.Tree body node = ⊥
IsNodeOf types.Blob body node = ⊥

-- the object has no node: it is a tree, a blob, or a tag of a tree or a blob
abbrev pub HasNoNode : ObjectType → List ℕ → Type 0
HasNoNode types.Commit body = ⊥
HasNoNode types.Tag body = (target : Id) × (kind : ObjectType) × IsTag body target kind × (is_history_type kind ≡ false)
HasNoNode types.Tree body = ⊤
HasNoNode types.Blob body = ⊤

-- the entry of an object: its id is the id of the object, and its node is the node of the object
pub record IsEntryOf {A : Type 0} (kind : ObjectType) (body : List ℕ) (entry : Entry A) : Type 0 where
  pub id : entry.id ≡ id_of kind body
  pub node : IsNodeOf kind body entry.node

-- the entry of some object
pub record IsOfObject {A : Type 0} (entry : Entry A) : Type 0 where
  pub kind : ObjectType
  pub body : List ℕ
  pub is : IsEntryOf kind body entry
