-- Refs that are connected in a graph.
use Rattle.std.specs.Map.{values_of}
use Rattle.std.specs.Prelude.{List, All}
use Rattle.gname.specs.Ids.{Id}
use Rattle.gname.specs.Names.{Name}
use Rattle.gobject.specs.declared.node.Entry.{Entry}
use Rattle.gdag.specs.Reach.{IsConnected, Keeps}
use Rattle.grefs.specs.RefLists.{RefList, SetsRef}

-- each ref is connected in the graph
abbrev pub HasConnectedRefs : {A : Type 0} → List (Entry A) → RefList → Type 0
HasConnectedRefs g refs = All (IsConnected g) (values_of refs)

-- connected refs stay connected when the graph changes but keeps all its nodes
abbrev pub ConnectedRefsStay : Type 0 → Type 0
ConnectedRefsStay A = (g h : List (Entry A)) (refs : RefList) → Keeps g h → HasConnectedRefs g refs → HasConnectedRefs h refs

-- connected refs stay connected when one of them is set to a connected id
abbrev pub SettingKeepsConnectedRefs : Type 0 → Type 0
SettingKeepsConnectedRefs A =
    (g : List (Entry A)) (old new : RefList) (name : Name) (id : Id)
    → HasConnectedRefs g old → IsConnected g id → SetsRef old new name id → HasConnectedRefs g new
