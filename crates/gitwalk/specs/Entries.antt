-- The nodes and the ids of the entries of a graph (gitglossary(7), "commit object", "tag object").
use Rattle.std.specs.Prelude.{◌≡◌, ℕ, List, [], ◌∷◌, map}
use Rattle.gname.specs.Ids.{Id}
use Rattle.gitobject.specs.Links.{IsCommit, IsTag}
use Rattle.gitobject.specs.declared.types.ObjectType.{ObjectType}
use Rattle.gitobject.specs.declared.types.ObjectType.TheVariants as types
use Rattle.gobject.specs.Objects.{node_of}
use Rattle.gobject.specs.declared.node.Kind.TheVariants as kinds
use Rattle.gobject.specs.declared.node.Node.{Node}
use Rattle.gobject.specs.declared.node.Entry.{Entry}

-- the graph node of a tree or blob, which counts as a commit without parents
abbrev pub leaf : {A : Type 0} → Node A
leaf = node_of kinds.Commit []

-- the graph node of an object: a commit's node has the parents in order, a tag's node has the target, and the node of a
-- tree or blob has no parents
abbrev pub IsNodeOf : {A : Type 0} → ObjectType → List ℕ → Node A → Type 0
IsNodeOf types.Commit body node =
    (tree : Id) × (parents : List Id) × IsCommit body tree parents
    × (node ≡ node_of kinds.Commit parents)
IsNodeOf types.Tag body node =
    (target : Id) × (kind : ObjectType) × IsTag body target kind
    × (node ≡ node_of kinds.Tag (target ∷ []))
IsNodeOf types.Tree body node = node ≡ leaf
IsNodeOf types.Blob body node = node ≡ leaf

abbrev pub id_of_entry : {A : Type 0} → Entry A → Id
id_of_entry entry = entry.id

-- the ids of the entries
abbrev pub ids_of : {A : Type 0} → List (Entry A) → List Id
ids_of entries = map id_of_entry entries
