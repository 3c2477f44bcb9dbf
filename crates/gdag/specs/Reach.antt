-- Reachability (gitglossary(7), "reachable"): a commit reaches its parents and all that they reach, and a tag reaches
-- its object and all that the object reaches.
use Rattle.std.specs.Prelude.{◌≡◌, List, ◌++◌, Contains}
use Rattle.gname.specs.Ids.{Id}
use Rattle.gobject.specs.declared.node.Node.{Node}
use Rattle.gobject.specs.declared.node.Entry.{Entry}
use Rattle.gdag.specs.Graphs.{Holds, HasParent, IsNode}

-- an id reaches itself and all that its parents in the graph reach
pub data Reaches {A : Type 0} (g : List (Entry A)) : Id → Id → Type 0 where
  here : {a : Id} → Reaches g a a
  onward : {a b c : Id} → HasParent g a b → Reaches g b c → Reaches g a c

-- at least one of the ids reaches `b`
abbrev pub SomeReaches : {A : Type 0} → List (Entry A) → List Id → Id → Type 0
SomeReaches g ids b = (a : Id) × Contains ids a × Reaches g a b

-- the id `a` is connected: the graph contains `a` and all that `a` reaches
abbrev pub IsConnected : {A : Type 0} → List (Entry A) → Id → Type 0
IsConnected g a = (b : Id) → Reaches g a b → Holds g b

-- the graph is closed: it contains each parent of each of its objects
abbrev pub IsClosed : {A : Type 0} → List (Entry A) → Type 0
IsClosed g = (a b : Id) → HasParent g a b → Holds g b

-- two graphs agree: each id that both contain has the same node in both
abbrev pub Agree : {A : Type 0} → List (Entry A) → List (Entry A) → Type 0
Agree {A} g h = (a : Id) (m n : Node A) → IsNode g a m → IsNode h a n → m ≡ n

-- the graph `g` grows to `h`: `h` is `g` with more entries appended
abbrev pub Grows : {A : Type 0} → List (Entry A) → List (Entry A) → Type 0
Grows {A} g h = (more : List (Entry A)) × (h ≡ g ++ more)

-- `h` keeps the nodes of `g`: the graph `h` contains each node of `g` under the same id
abbrev pub Keeps : {A : Type 0} → List (Entry A) → List (Entry A) → Type 0
Keeps {A} g h = (a : Id) (node : Node A) → IsNode g a node → IsNode h a node
