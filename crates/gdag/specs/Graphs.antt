-- Graphs of commits and tags (gitglossary(7), "DAG", "parent"). A graph maps ids to nodes, and a node lists its
-- parents.
use Rattle.std.specs.Prelude.{◌≡◌, ℕ, ◌≤◌, List, ◌∷◌, ◌++◌, length, map, take, slice_get, Contains, All}
use Rattle.std.specs.Prelude.{None, Some, IsSome}
use Rattle.gname.specs.declared.formats.Format.{Format}
use Rattle.gname.specs.Ids.{Id, IsIdOf}
use Rattle.gobject.specs.declared.node.Node.{Node}
use Rattle.gobject.specs.declared.node.Entry.{Entry}
use Rattle.gobject.specs.Objects.{node_at, entry_of, IdsDiffer, IsShaped}

-- the value of a graph: its object format, and its entries in the order of insertion
pub record History (A : Type 0) : Type 0 where
  pub format : Format
  pub entries : List (Entry A)

-- the graph contains the id `a` with this node
abbrev pub IsNode : {A : Type 0} → List (Entry A) → Id → Node A → Type 0
IsNode g a node = node_at g a ≡ Some node

-- the graph contains the id `a`
abbrev pub Holds : {A : Type 0} → List (Entry A) → Id → Type 0
Holds g a = IsSome (node_at g a)

-- `a` is the first of the ids that the graph does not contain
pub record IsFirstAbsent {A : Type 0} (g : List (Entry A)) (ids : List Id) (a : Id) : Type 0 where
  pub front : List Id
  pub rest : List Id
  pub parts : ids ≡ front ++ a ∷ rest
  pub held : All (Holds g) front
  pub absent : node_at g a ≡ None

-- the graph contains `a`, and `b` is a parent of `a`
abbrev pub HasParent : {A : Type 0} → List (Entry A) → Id → Id → Type 0
HasParent {A} g a b = (node : Node A) × IsNode g a node × Contains node.parents b

-- the id and the parents of an entry have the given format
pub record HasIdsOf {A : Type 0} (format : Format) (entry : Entry A) : Type 0 where
  pub id : IsIdOf format entry.id
  pub parents : All (IsIdOf format) entry.node.parents

-- the maximum number of nodes of a graph
abbrev pub max_nodes : ℕ
max_nodes = 1048576

-- a valid graph: distinct ids of its format, well-shaped nodes, and not too many nodes
pub record IsGraph {A : Type 0} (g : History A) : Type 0 where
  pub differ : IdsDiffer g.entries
  pub ids : All (HasIdsOf g.format) g.entries
  pub shaped : All (λ entry. IsShaped entry.node) g.entries
  pub few : length g.entries ≤ max_nodes

-- the graph contains each parent of the entry
abbrev pub HoldsParents : {A : Type 0} → List (Entry A) → Entry A → Type 0
HoldsParents g entry = All (Holds g) entry.node.parents

-- each entry comes after all its parents
abbrev pub IsOrdered : {A : Type 0} → List (Entry A) → Type 0
IsOrdered {A} g =
    (position : ℕ) (entry : Entry A) → slice_get g position ≡ Some entry → HoldsParents (take position g) entry

-- the entries of a graph, from the pairs of ids and nodes in its map
abbrev pub entries_of : {A : Type 0} → List (Id × Node A) → List (Entry A)
entries_of pairs = map (λ pair. entry_of pair.0 pair.1) pairs

abbrev pub pairs_of : {A : Type 0} → List (Entry A) → List (Id × Node A)
pairs_of entries = map (λ entry. (entry.id, entry.node)) entries
