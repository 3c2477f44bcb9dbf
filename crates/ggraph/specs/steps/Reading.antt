-- Definitions for the proofs of reading a repository text: the lines that are allowed next, and the state after each
-- line.
use Rattle.std.specs.Prelude.{◌≡◌, ◌⊎◌, ⊤, ℕ, List, [], ◌∷◌, ◌++◌}
use Rattle.gname.specs.Ids.{Id}
use Rattle.gname.specs.Names.{Name}
use Rattle.gname.specs.declared.formats.Format.{Format}
use Rattle.gname.specs.declared.formats.Format.TheVariants.{Sha1}
use Rattle.gobject.specs.PlainPackText.{node_text}
use Rattle.gobject.specs.declared.node.Entry.{Entry}
use Rattle.gdag.specs.Graphs.{History}
use Rattle.grefs.specs.RefLists.{RefList}
use Rattle.grefs.specs.declared.head.Head.{Head}
use Rattle.grefs.specs.declared.head.Head.TheVariants as head_is
use Rattle.ggraph.specs.RepositoryText.{IsHead, MayFollow, RefMayFollow, first_line, head_line, last_line, ref_line}
use Rattle.ggraph.specs.declared.fault.LoadFault.{LoadFault}
use Rattle.ggraph.specs.declared.fault.LoadFault.TheVariants.{Memory, Text, ParentLater}
use Rattle.ggraph.specs.declared.text.Order.{Order}
use Rattle.ggraph.specs.declared.text.Order.TheVariants.{Any, ParentsFirst}
use Rattle.ggraph.specs.declared.text.reading.Reading.{Reading}
use Rattle.ggraph.specs.declared.text.reading.TextStage.{TextStage}
use Rattle.ggraph.specs.declared.text.reading.TextStage.TheVariants.{First, Nodes, Refs, Last, Done}

-- the contents of one line of a repository text
pub data Item (A : Type 0) : Type 0 where
  begins : Format → Item A
  node : Entry A → Item A
  ref : Name × Id → Item A
  heads : Head A → Item A
  ends : Item A

-- the line of an item
abbrev pub line_of : {A : Type 0} → Item A → List ℕ
line_of (begins format) = first_line format
line_of (node entry) = node_text entry
line_of (ref it) = ref_line it
line_of (heads head) = head_line head
line_of ends = last_line

-- whether the contents of the item must be stored
abbrev pub IsKept : {A : Type 0} → Item A → Type 0
IsKept (node entry) = ⊤
IsKept (ref it) = ⊤
IsKept (heads (head_is.Symref target)) = ⊤
IsKept _ = ⊥

-- the graph with one more entry
abbrev pub with_entry : {A : Type 0} → History A → Entry A → History A
with_entry g entry = record { format = g.format; entries = g.entries ++ entry ∷ [] }

-- the state of reading before the first line
abbrev pub nothing_read : {A : Type 0} → Reading A
nothing_read =
    record { stage = First; graph = record { format = Sha1; entries = [] }; refs = []; head = head_is.None }

-- the stages at which the line of a ref or of HEAD is allowed next
abbrev pub RefMayCome : TextStage → Type 0
RefMayCome stage = (stage ≡ Nodes) ⊎ (stage ≡ Refs)

-- the item is allowed next
abbrev pub MayCome : {A : Type 0} → Order → Reading A → Item A → Type 0
MayCome order old (begins format) = old.stage ≡ First
MayCome order old (node entry) = (old.stage ≡ Nodes) × MayFollow order old.graph.format old.graph.entries entry
MayCome order old (ref it) = RefMayCome old.stage × RefMayFollow old.graph.format old.refs it
MayCome order old (heads head) = RefMayCome old.stage × IsHead old.graph.format head
MayCome order old ends = old.stage ≡ Last

-- the state of reading after the item
abbrev pub after : {A : Type 0} → Reading A → Item A → Reading A
after old (begins format) = record old { stage = Nodes; graph = record { format = format; entries = [] } }
after old (node entry) = record old { graph = with_entry old.graph entry }
after old (ref it) = record old { stage = Refs; refs = old.refs ++ it ∷ [] }
after old (heads head) = record old { stage = Last; head = head }
after old ends = record old { stage = Done }

-- the line is allowed next, and `new` is the state after the line
abbrev pub ComesNext : {A : Type 0} → Order → Reading A → List ℕ → Reading A → Type 0
ComesNext {A} order old line new =
    (item : Item A) × (line ≡ line_of item) × MayCome order old item × (new ≡ after old item)

-- the line is not the line of any item that is allowed next
abbrev pub NeverComes : {A : Type 0} → Order → Reading A → List ℕ → Type 0
NeverComes {A} order old line = (item : Item A) → line ≡ line_of item → MayCome order old item → ⊥

-- The fault of a refused line. `Memory`: the line is allowed next, and has contents to store. `Text`: the line is not
-- allowed even under `Any`. `ParentLater`: the line is allowed under `Any`, but not under `ParentsFirst`.
abbrev pub RefusesLine : {A : Type 0} → Order → Reading A → List ℕ → ℕ → LoadFault → Type 0
RefusesLine {A} order old line number Memory =
    (item : Item A) × (line ≡ line_of item) × MayCome order old item × IsKept item
RefusesLine order old line number (Text at) = (at ≡ number) × NeverComes Any old line
RefusesLine {A} order old line number (ParentLater at) =
    (at ≡ number) × (order ≡ ParentsFirst) × NeverComes ParentsFirst old line
    × (item : Item A) × (line ≡ line_of item) × MayCome Any old item

-- the reason to refuse an entry
abbrev pub RefusesEntry : {A : Type 0} → Order → History A → Entry A → ℕ → LoadFault → Type 0
RefusesEntry order g entry number Memory = MayFollow order g.format g.entries entry
RefusesEntry order g entry number (Text at) = (at ≡ number) × (MayFollow Any g.format g.entries entry → ⊥)
RefusesEntry order g entry number (ParentLater at) =
    (at ≡ number) × (order ≡ ParentsFirst) × MayFollow Any g.format g.entries entry
    × (MayFollow ParentsFirst g.format g.entries entry → ⊥)

-- the reason to refuse a ref
abbrev pub RefusesRef : Format → RefList → Name × Id → ℕ → LoadFault → Type 0
RefusesRef format refs it number Memory = RefMayFollow format refs it
RefusesRef format refs it number (Text at) = (at ≡ number) × (RefMayFollow format refs it → ⊥)
RefusesRef format refs it number _ = ⊥
