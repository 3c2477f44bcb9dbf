-- The repository of a Git directory (gitrepository-layout(5)).
use Rattle.std.specs.Prelude.{List, All}
use Rattle.gname.specs.Ids.{Id}
use Rattle.gobject.specs.declared.node.Entry.{Entry}
use Rattle.gdag.specs.Graphs.{Holds, IsOrdered, History}
use Rattle.gitcommitgraph.specs.Files.{Commit}
use Rattle.gitrepository.specs.Entries.{IsKnown}
use Rattle.grefs.specs.RefLists.{RefList}

-- Each entry of the graph describes an object, or a commit of the commit-graph. Parents precede their children.
pub record IsHistory {A : Type 0} (commits : List Commit) (graph : History A) : Type 0 where
  pub known : All (IsKnown commits) graph.entries
  pub order : IsOrdered graph.entries

-- the commits of the commit-graph, and the graph of the objects reached so far
pub record Reading (A : Type 0) : Type 0 where
  pub commits : List Commit
  pub graph : History A

-- the graph holds the object that each ref points to
abbrev pub AreHeld : {A : Type 0} → History A → RefList → Type 0
AreHeld graph refs = All (λ ref. Holds graph.entries ref.1) refs

-- the new graph holds each id that the old graph holds
abbrev pub KeepsHeld : {A : Type 0} → List (Entry A) → List (Entry A) → Type 0
KeepsHeld old new = (a : Id) → Holds old a → Holds new a
