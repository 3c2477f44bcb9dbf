-- The objects of a repository: commits and tags with their ids (gitglossary(7), "commit object", "tag object").
use Rattle.std.specs.Prelude.{◌≡◌, ℕ, ◌≤◌, ⊤, Bool, List, [], ◌∷◌, length, find, position, All, Option, None}
use Rattle.std.specs.Str.{bytes_eq}
use Rattle.std.specs.Option.{option_map}
use Rattle.gname.specs.Ids.{Id, IsId}
use Rattle.gobject.specs.declared.node.Kind.{Kind}
use Rattle.gobject.specs.declared.node.Kind.TheVariants.{Tag}
use Rattle.gobject.specs.declared.node.Node.{Node}
use Rattle.gobject.specs.declared.node.Entry.{Entry}

-- the node with this kind and these parents
abbrev pub node_of : {A : Type 0} → Kind → List Id → Node A
node_of kind parents = record { kind = kind; parents = parents }

-- the entry with this id and this node
abbrev pub entry_of : {A : Type 0} → Id → Node A → Entry A
entry_of a node = record { id = a; node = node }

-- whether the id of an entry is `a`
abbrev pub has_id : {A : Type 0} → Id → Entry A → Bool
has_id a entry = bytes_eq entry.id a

-- the node of the first entry with the id
abbrev pub node_at : {A : Type 0} → List (Entry A) → Id → Option (Node A)
node_at g a = option_map (λ entry. entry.node) (find (has_id a) g)

-- the position of the first entry with the id
abbrev pub position_of : {A : Type 0} → List (Entry A) → Id → Option ℕ
position_of g a = position (has_id a) g

-- the id of an entry and the ids of its parents are valid object ids
pub record HasIds {A : Type 0} (entry : Entry A) : Type 0 where
  pub id : IsId entry.id
  pub parents : All IsId entry.node.parents

-- the ids of the entries are distinct
abbrev pub IdsDiffer : {A : Type 0} → List (Entry A) → Type 0
IdsDiffer [] = ⊤
IdsDiffer (entry ∷ g) = (node_at g entry.id ≡ None) × IdsDiffer g

-- the maximum number of parents of a node
abbrev pub max_parents : ℕ
max_parents = 64

-- a tag has exactly one parent, which is the object that it tags
abbrev pub IsTagShaped : {A : Type 0} → Node A → Type 0
IsTagShaped node = node.kind ≡ Tag → length node.parents ≡ 1

-- a well-shaped node: it has at most the maximum number of parents, and exactly one parent if it is a tag
pub record IsShaped {A : Type 0} (node : Node A) : Type 0 where
  pub few : length node.parents ≤ max_parents
  pub tag : IsTagShaped node
