-- Loading of a repository text: the line at which loading fails, and the reason.
use Rattle.std.specs.Prelude.{◌≡◌, ◌≢◌, ◌⊎◌, ℕ, ◌+◌, List, [], ◌∷◌, ◌++◌, length, Result, MatchResult}
use Rattle.gname.specs.Ids.{Id}
use Rattle.gname.specs.Names.{Name}
use Rattle.gobject.specs.PlainPackText.{GoesOn, IsInLine, node_text, text_of}
use Rattle.gobject.specs.declared.node.Entry.{Entry}
use Rattle.gdag.specs.Graphs.{History, IsOrdered}
use Rattle.grefs.specs.RefLists.{RefList}
use Rattle.grefs.specs.declared.head.Head.{Head}
use Rattle.grefs.specs.declared.head.Head.TheVariants.{Symref}
use Rattle.ggraph.specs.RepositoryText.{IsLoadable, head_line, lines_of, ref_line, repository_text}
use Rattle.ggraph.specs.declared.fault.LoadFault.{LoadFault}
use Rattle.ggraph.specs.declared.fault.LoadFault.TheVariants.{Memory, Text, ParentLater}
use Rattle.ggraph.specs.declared.text.Order.{Order}
use Rattle.ggraph.specs.declared.text.Order.TheVariants.{Any, ParentsFirst}
use Rattle.ggraph.specs.declared.text.Repository.{Repository}

-- the lines are the beginning of the text of some repository
pub record BeginsText (A : Type 0) (order : Order) (lines : List (List ℕ)) : Type 0 where
  pub graph : History A
  pub refs : RefList
  pub head : Head A
  pub loadable : IsLoadable order graph refs head
  pub more : List (List ℕ)
  pub parts : lines_of graph refs head ≡ lines ++ more

-- the lines are the complete text of some repository
pub record IsWholeText (A : Type 0) (order : Order) (lines : List (List ℕ)) : Type 0 where
  pub graph : History A
  pub refs : RefList
  pub head : Head A
  pub loadable : IsLoadable order graph refs head
  pub parts : lines_of graph refs head ≡ lines

-- the line after these lines is wrong: no repository text, with its nodes in any order, begins with `lines` and that
-- line
abbrev pub IsWrongLine : (A : Type 0) → List ℕ → List (List ℕ) → Type 0
IsWrongLine A text lines = (line : List ℕ) × GoesOn text lines line × ¬ (BeginsText A Any (lines ++ line ∷ []))

-- after these lines the text ends too early: inside a line, or before the last line of a repository text
abbrev pub EndsEarly : (A : Type 0) → Order → List ℕ → List (List ℕ) → Type 0
EndsEarly A order text lines =
    (rest : List ℕ) × (text ≡ text_of lines ++ rest) × IsInLine rest × (rest ≡ [] → ¬ (IsWholeText A order lines))

-- the line after these lines is wrong only because a parent is not on an earlier line
abbrev pub NamesLaterParent : (A : Type 0) → List ℕ → List (List ℕ) → Type 0
NamesLaterParent A text lines =
    (line : List ℕ) × GoesOn text lines line
    × ¬ (BeginsText A ParentsFirst (lines ++ line ∷ [])) × BeginsText A Any (lines ++ line ∷ [])

-- a line with contents to store: the line of a node, of a ref, or of a symbolic HEAD
abbrev pub IsKeptLine : (A : Type 0) → List ℕ → Type 0
IsKeptLine A line =
    ((entry : Entry A) × (line ≡ node_text entry)) ⊎ ((ref : Name × Id) × (line ≡ ref_line ref))
    ⊎ ((target : Name) × (line ≡ head_line {A = A} (Symref target)))

-- the line after these lines is valid, and has contents to store
abbrev pub TakesMemory : (A : Type 0) → Order → List ℕ → List (List ℕ) → Type 0
TakesMemory A order text lines =
    (line : List ℕ) × GoesOn text lines line × BeginsText A order (lines ++ line ∷ []) × IsKeptLine A line

-- The fault of a refused text. `Text` and `ParentLater` report the first line that is wrong or missing. `Memory` is
-- possible only at a valid line with contents to store, if all earlier lines are valid.
abbrev pub StopsAt : (A : Type 0) → Order → List ℕ → LoadFault → Type 0
StopsAt A order text Memory = (lines : List (List ℕ)) × TakesMemory A order text lines
StopsAt A order text (Text number) =
    (lines : List (List ℕ)) × (number ≡ length lines + 1) × BeginsText A order lines
    × (IsWrongLine A text lines ⊎ EndsEarly A order text lines)
StopsAt A order text (ParentLater number) =
    (order ≡ ParentsFirst)
    × ((lines : List (List ℕ)) × (number ≡ length lines + 1) × BeginsText A order lines × NamesLaterParent A text lines)

-- the text of a valid repository is loaded as that repository, unless memory runs out
abbrev pub AcceptsText : (A : Type 0) → Order → List ℕ → Result (Repository A) LoadFault → Type 0
AcceptsText A order text result =
    (graph : History A) (refs : RefList) (head : Head A) → IsLoadable order graph refs head
    → text ≡ repository_text graph refs head
    → MatchResult result (λ it. (it.graph ≡ graph) × (it.refs ≡ refs) × (it.head ≡ head)) (λ fault. fault ≡ Memory)

-- in a repository that is loaded with `ParentsFirst`, each node comes after its parents
abbrev pub ParentsFirstIsOrdered : Type 0 → Type 0
ParentsFirstIsOrdered A =
    (graph : History A) (refs : RefList) (head : Head A) → IsLoadable ParentsFirst graph refs head
    → IsOrdered graph.entries

-- apart from out of memory, a text has at most one possible fault for each order; the fault contains the line number
abbrev pub TextsStopOnce : Type 0 → Type 0
TextsStopOnce A =
    (order : Order) (text : List ℕ) (a b : LoadFault) → StopsAt A order text a → StopsAt A order text b
    → a ≢ Memory → b ≢ Memory → a ≡ b
