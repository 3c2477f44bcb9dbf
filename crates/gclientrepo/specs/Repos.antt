-- A client's repository: objects, refs, and marks of connected objects. Git's manuals do not say what a client stores.
-- The marks, and the rule that the refs are always connected, are choices of this project.
use Rattle.std.specs.Map.{values_of}
use Rattle.std.specs.Prelude.{◌≡◌, List, Bool, ◌∷◌, ◌++◌}
use Rattle.gname.specs.Ids.{Id}
use Rattle.gname.specs.Names.{Name}
use Rattle.gobject.specs.declared.node.Entry.{Entry}
use Rattle.ggraph.specs.ConnectedRefs.{HasConnectedRefs}
use Rattle.gdag.specs.Graphs.{History}
use Rattle.gdag.specs.Reach.{IsConnected}
use Rattle.grefs.specs.RefLists.{RefList}
use Rattle.gwalk.specs.Marks.{AreConnected, Covers}

-- the contents of a repository; `known` marks connected objects
pub record RepoState (A : Type 0) : Type 0 where
  pub graph : History A
  pub refs : RefList
  pub known : List Bool

-- each ref and each marked object is connected, and every object that a ref reaches is marked
pub record IsConnectedRepo {A : Type 0} (repo : RepoState A) : Type 0 where
  pub connected_refs : HasConnectedRefs repo.graph.entries repo.refs
  pub connected : AreConnected repo.graph.entries repo.known
  pub covers : Covers repo.graph.entries (values_of repo.refs) repo.known

-- the name of the first ref that is not connected
pub record IsFirstUnconnected {A : Type 0} (g : List (Entry A)) (refs : RefList) (name : Name) : Type 0 where
  pub front : RefList
  pub id : Id
  pub back : RefList
  pub parts : refs ≡ front ++ (name, id) ∷ back
  pub connected_refs : HasConnectedRefs g front
  pub unconnected : ¬ (IsConnected g id)
