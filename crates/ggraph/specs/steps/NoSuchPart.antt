-- Definitions for the proofs about refused lines. Most of these definitions state that a part of a line is malformed.
use Rattle.std.specs.Prelude.{◌≡◌, ℕ, ◌≤◌, List, ◌∷◌, ◌++◌, length, All, codes}
use Rattle.gname.specs.Ids.{Id, IsIdOf, id_text}
use Rattle.gname.specs.Names.{Name}
use Rattle.gname.specs.declared.formats.Format.{Format}
use Rattle.gobject.specs.Objects.{max_parents}
use Rattle.gobject.specs.PlainPackText.{ids_text, letter}
use Rattle.gobject.specs.declared.node.Kind.{Kind}
use Rattle.grefs.specs.RefLists.{IsBelowRefs}
use Rattle.grefs.specs.declared.head.Head.{Head}
use Rattle.grefs.specs.declared.head.Head.TheVariants as head_is
use Rattle.ggraph.specs.RepositoryText.{IsHead, head_line}

-- the text does not begin with an id of the format
abbrev pub BeginsWithNoId : Format → List ℕ → Type 0
BeginsWithNoId format text = (id : Id) (rest : List ℕ) → IsIdOf format id → text ≡ id_text id ++ rest → ⊥

-- the text does not begin with a space and an id of the format
abbrev pub BeginsWithNoSpacedId : Format → List ℕ → Type 0
BeginsWithNoSpacedId format text =
    (id : Id) (rest : List ℕ) → IsIdOf format id → text ≡ codes " " ++ (id_text id ++ rest) → ⊥

-- the text is not the text of a list of at most `max_parents` ids of the format
abbrev pub IsNoParents : Format → List ℕ → Type 0
IsNoParents format text =
    (ids : List Id) → All (IsIdOf format) ids → length ids ≤ max_parents → text ≡ ids_text ids → ⊥

-- the line does not begin with the letter of a kind of node
abbrev pub IsNoNode : List ℕ → Type 0
IsNoNode line = (kind : Kind) (rest : List ℕ) → line ≡ letter kind ∷ rest → ⊥

-- the line does not begin with `r` and a space
abbrev pub IsNoRef : List ℕ → Type 0
IsNoRef line = (rest : List ℕ) → line ≡ codes "r " ++ rest → ⊥

-- the text does not begin with an id of the format and a space
abbrev pub BeginsWithNoRefId : Format → List ℕ → Type 0
BeginsWithNoRefId format text =
    (id : Id) (rest : List ℕ) → IsIdOf format id → text ≡ id_text id ++ (codes " " ++ rest) → ⊥

-- the text is not the text of an id of the format
abbrev pub IsNoIdText : Format → List ℕ → Type 0
IsNoIdText format text = (id : Id) → IsIdOf format id → text ≡ id_text id → ⊥

-- HEAD is detached at the id with this text
abbrev pub IsHeadAt : {A : Type 0} → Format → List ℕ → Head A → Type 0
IsHeadAt format text (head_is.Id id) = (text ≡ id_text id) × IsIdOf format id
IsHeadAt format text _ = ⊥

-- HEAD is symbolic, and its target is the ref with this name
abbrev pub IsHeadOn : {A : Type 0} → List ℕ → Head A → Type 0
IsHeadOn text (head_is.Symref target) = (target ≡ text) × IsBelowRefs text
IsHeadOn text _ = ⊥

-- the line is not the line of any valid HEAD
abbrev pub IsNoHead : (A : Type 0) → Format → List ℕ → Type 0
IsNoHead A format line = (head : Head A) → IsHead format head → line ≡ head_line head → ⊥

-- the line is the line of some symbolic HEAD
abbrev pub IsSymrefLine : (A : Type 0) → List ℕ → Type 0
IsSymrefLine A line = (target : Name) × IsBelowRefs target × (line ≡ head_line {A = A} (head_is.Symref target))
