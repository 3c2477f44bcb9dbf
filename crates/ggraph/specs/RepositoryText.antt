-- The text format of a repository. The first line names the object format. One line for each node follows, in insertion
-- order, and then one line for each ref, in name order. The last two lines are the line of HEAD and the line `end`.
-- Each line ends with LF, and ids are in lower case.
use Rattle.std.specs.Prelude.{◌≡◌, ⊤, ℕ, List, [], ◌∷◌, ◌++◌, map, codes}
use Rattle.gname.specs.Ids.{Id, IsIdOf, id_text}
use Rattle.gname.specs.Names.{Name}
use Rattle.gname.specs.declared.formats.Format.{Format}
use Rattle.gname.specs.declared.formats.Format.TheVariants.{Sha1, Sha256}
use Rattle.gobject.specs.PlainPackText.{node_text, text_of}
use Rattle.gobject.specs.declared.node.Entry.{Entry}
use Rattle.grefs.specs.Laws.{MayComeNext as NameMayComeNext}
use Rattle.grefs.specs.RefLists.{RefList, IsBelowRefs}
use Rattle.grefs.specs.declared.head.Head.{Head}
use Rattle.grefs.specs.declared.head.Head.TheVariants as head_is
use Rattle.ggraph.specs.declared.text.Order.{Order}
use Rattle.ggraph.specs.declared.text.Order.TheVariants.{Any, ParentsFirst}
use Rattle.gdag.specs.Graphs.{History, HoldsParents}
use Rattle.gdag.specs.Laws.{MayComeNext}

-- ---- lines

abbrev pub first_line : Format → List ℕ
first_line Sha1 = codes "gitv2 1"
first_line Sha256 = codes "gitv2 2 sha256"

-- the line of a ref, with its id and its name
abbrev pub ref_line : Name × Id → List ℕ
ref_line ref = codes "r " ++ (id_text ref.1 ++ (codes " " ++ ref.0))

-- the line of HEAD
abbrev pub head_line : {A : Type 0} → Head A → List ℕ
head_line (head_is.Id id) = codes "h id " ++ id_text id
head_line (head_is.Symref target) = codes "h ref " ++ target
head_line _ = codes "h none"

abbrev pub last_line : List ℕ
last_line = codes "end"

-- the lines of a repository's text; a node has the same line as in a plain pack
abbrev pub lines_of : {A : Type 0} → History A → RefList → Head A → List (List ℕ)
lines_of g refs head =
    first_line g.format ∷ (map node_text g.entries ++ (map ref_line refs ++ (head_line head ∷ last_line ∷ [])))

-- the text of a repository: all its lines
abbrev pub repository_text : {A : Type 0} → History A → RefList → Head A → List ℕ
repository_text g refs head = text_of (lines_of g refs head)

-- ---- valid contents of a text

-- a valid HEAD: detached at an id of the format, symbolic with a target below `refs/`, or missing
abbrev pub IsHead : {A : Type 0} → Format → Head A → Type 0
IsHead format (head_is.Id id) = IsIdOf format id
IsHead format (head_is.Symref target) = IsBelowRefs target
IsHead format _ = ⊤

-- each parent of the entry is on an earlier line, if the order demands it
abbrev pub ComesAfter : {A : Type 0} → Order → List (Entry A) → Entry A → Type 0
ComesAfter Any g entry = ⊤
ComesAfter ParentsFirst g entry = HoldsParents g entry

-- the entry may follow these entries: the entry could be appended to their graph, and follows its parents if the order
-- demands that
pub record MayFollow {A : Type 0} (order : Order) (format : Format) (g : List (Entry A))
    (entry : Entry A) : Type 0 where
  pub comes : MayComeNext format g entry
  pub after : ComesAfter order g entry

-- the ref may follow these refs: a ref with its name could be appended to them, and its id has the format
pub record RefMayFollow (format : Format) (refs : RefList) (ref : Name × Id) : Type 0 where
  pub comes : NameMayComeNext refs ref.0
  pub id : IsIdOf format ref.1

-- P holds for each element of the list, with the list of the elements before it as the first argument
abbrev pub EachFollows : {X : Type 0} → (List X → X → Type 0) → List X → Type 0
EachFollows {X} P xs = (front : List X) (x : X) (rest : List X) → xs ≡ front ++ x ∷ rest → P front x

-- a valid repository: each node may follow the nodes before it, each ref may follow the refs before it, and HEAD is
-- valid
pub record IsLoadable {A : Type 0} (order : Order) (g : History A) (refs : RefList) (head : Head A) : Type 0 where
  pub nodes : EachFollows (MayFollow order g.format) g.entries
  pub refs_follow : EachFollows (RefMayFollow g.format) refs
  pub stands : IsHead g.format head
