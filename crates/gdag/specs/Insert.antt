-- Insertion of entries into a graph. Either all entries of a list are inserted, or none of them.
use Rattle.std.specs.Prelude.{◌≡◌, ◌≢◌, ◌⊎◌, ◌↔◌, ℕ, ◌+◌, ◌<◌, ◌≤◌, Bool, true, false, List, [], ◌∷◌, ◌++◌, length}
use Rattle.std.specs.Prelude.{Contains, IsTrue, None, Result, Ok, Err}
use Rattle.gname.specs.declared.formats.Format.{Format}
use Rattle.gname.specs.Ids.{Id}
use Rattle.gdag.specs.declared.fault.GraphFault.{GraphFault}
use Rattle.gdag.specs.declared.fault.GraphFault.TheVariants.{OtherFormat, Conflict, TooMany}
use Rattle.gdag.specs.declared.fault.GraphFault.TheVariants.{TooManyParents, TagShape, Memory}
use Rattle.gobject.specs.declared.node.Node.{Node}
use Rattle.gobject.specs.declared.node.Entry.{Entry}
use Rattle.gobject.specs.Objects.{node_at, entry_of, IsShaped, IsTagShaped, max_parents}
use Rattle.gdag.specs.Graphs.{History, IsNode, HasIdsOf, HasParent, max_nodes}

-- the insertion of a valid entry: a new entry is appended if there is room, and an entry that the graph already
-- contains changes nothing
pub record ComesIn {A : Type 0} (format : Format) (old : List (Entry A)) (entry : Entry A)
    (new : List (Entry A)) : Type 0 where
  pub ids : HasIdsOf format entry
  pub shaped : IsShaped entry.node
  pub comes :
      (IsNode old entry.id entry.node × (new ≡ old)) ⊎ ((node_at old entry.id ≡ None) × (new ≡ old ++ entry ∷ []))
  pub room : node_at old entry.id ≡ None → length old < max_nodes

-- all entries of the list are inserted, one after the other
abbrev pub Inserts : {A : Type 0} → Format → List (Entry A) → List (Entry A) → List (Entry A) → Type 0
Inserts format old [] new = new ≡ old
Inserts {A} format old (entry ∷ entries) new =
    (next : List (Entry A)) × ComesIn format old entry next × Inserts format next entries new

-- the fault of a malformed node: `TooManyParents` if it has too many parents, and otherwise `TagShape`
abbrev pub IsMisshapen : {A : Type 0} → Node A → GraphFault → Type 0
IsMisshapen node TooManyParents = max_parents < length node.parents
IsMisshapen node TagShape = (length node.parents ≤ max_parents) × ¬ (IsTagShaped node)
IsMisshapen node _ = ⊥

-- the ids of an entry have the graph's format, and its node is well-shaped
pub record IsFit {A : Type 0} (format : Format) (entry : Entry A) : Type 0 where
  pub ids : HasIdsOf format entry
  pub shaped : IsShaped entry.node

-- the reason to refuse an entry, checked in this order: `OtherFormat`, a malformed node, `Conflict`, `TooMany`,
-- `Memory`
abbrev pub IsCause : {A : Type 0} → Format → List (Entry A) → Entry A → GraphFault → Type 0
IsCause format g entry (OtherFormat id) = (id ≡ entry.id) × ¬ (HasIdsOf format entry)
IsCause format g entry TooManyParents = HasIdsOf format entry × IsMisshapen entry.node TooManyParents
IsCause format g entry TagShape = HasIdsOf format entry × IsMisshapen entry.node TagShape
IsCause {A} format g entry (Conflict id) =
    IsFit format entry × (id ≡ entry.id) × ((other : Node A) × IsNode g id other × (other ≢ entry.node))
IsCause format g entry TooMany = IsFit format entry × (node_at g entry.id ≡ None) × (length g ≡ max_nodes)
IsCause format g entry Memory = IsFit format entry × (node_at g entry.id ≡ None) × (length g < max_nodes)

-- a list of entries is refused: the entries before some entry are inserted, and then that entry is refused
pub record IsRefused {A : Type 0} (format : Format) (old entries : List (Entry A)) (fault : GraphFault) : Type 0 where
  pub front : List (Entry A)
  pub entry : Entry A
  pub back : List (Entry A)
  pub parts : entries ≡ front ++ entry ∷ back
  pub so_far : List (Entry A)
  pub comes : Inserts format old front so_far
  pub cause : IsCause format so_far entry fault

-- a valid entry can be added: the entry is new and the graph has room (`true`), or the graph already contains the
-- entry (`false`)
abbrev pub Admits : {A : Type 0} → Format → List (Entry A) → Entry A → Bool → Type 0
Admits format g entry true = IsFit format entry × (node_at g entry.id ≡ None) × (length g < max_nodes)
Admits format g entry false = IsFit format entry × IsNode g entry.id entry.node

-- The outcome of adding one entry. On success the entry is inserted, and the result is whether its id was new. After a
-- fault the graph is unchanged.
abbrev pub AddsOne : {A : Type 0} → History A → Entry A → History A → Result Bool GraphFault → Type 0
AddsOne old entry new (Ok is_new) =
    (new.format ≡ old.format) × ComesIn old.format old.entries entry new.entries
    × (IsTrue is_new ↔ (node_at old.entries entry.id ≡ None))
AddsOne old entry new (Err fault) = (new ≡ old) × IsCause old.format old.entries entry fault

-- The outcome of adding a list. On success all entries of the list are inserted, and the result is the number of new
-- ids. After a fault the graph is unchanged.
abbrev pub Adds : {A : Type 0} → History A → List (Entry A) → History A → Result ℕ GraphFault → Type 0
Adds old entries new (Ok added) =
    (new.format ≡ old.format) × Inserts old.format old.entries entries new.entries
    × (length new.entries ≡ length old.entries + added)
Adds old entries new (Err fault) = (new ≡ old) × IsRefused old.format old.entries entries fault

-- the list has an entry with this id and this node
abbrev pub Lists : {A : Type 0} → List (Entry A) → Id → Node A → Type 0
Lists entries a node = Contains entries (entry_of a node)

-- each node of the new graph is a node of the old graph or of the list
abbrev pub AddsOnly : {A : Type 0} → List (Entry A) → List (Entry A) → List (Entry A) → Type 0
AddsOnly {A} old entries new =
    (a : Id) (node : Node A) → IsNode new a node → IsNode old a node ⊎ Lists entries a node

-- each parent of an id in the new graph is also a parent of that id in the old graph or in the list
abbrev pub AddsOnlyParents : {A : Type 0} → List (Entry A) → List (Entry A) → List (Entry A) → Type 0
AddsOnlyParents {A} old entries new =
    (a b : Id) → HasParent new a b →
    HasParent old a b ⊎ ((node : Node A) × Lists entries a node × Contains node.parents b)
