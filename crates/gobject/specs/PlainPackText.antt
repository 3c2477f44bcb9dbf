-- The text of a plain pack. Each line ends with a line feed, and one space separates the parts of a line. The first
-- line is `GPK1`. Each entry has a line: `c` for a commit or `t` for a tag, its id, and the ids of its parents. The
-- last line is `end` and the number of entries.
use Rattle.std.specs.Prelude.{◌≡◌, ◌≢◌, ◌⊎◌, ⊤, ℕ, ◌+◌, ◌<◌, ◌≤◌, List, [], ◌∷◌, ◌++◌, length, map, slice_index, codes}
use Rattle.std.specs.Prelude.{decimal}
use Rattle.std.specs.List.{flat_map}
use Rattle.gname.specs.Ids.{Id, IsIdText, id_text}
use Rattle.gname.specs.Limits.{max_pack}
use Rattle.gobject.specs.declared.node.Kind.{Kind}
use Rattle.gobject.specs.declared.node.Kind.TheVariants.{Commit, Tag}
use Rattle.gobject.specs.declared.node.Entry.{Entry}
use Rattle.gobject.specs.declared.fault.PackFault.{PackFault}
use Rattle.gobject.specs.declared.fault.PackFault.TheVariants as pack_faults
use Rattle.gobject.specs.declared.fault.IndexFault.{IndexFault}
use Rattle.gobject.specs.declared.fault.IndexFault.TheVariants as index_faults

-- the bytes of a line, followed by a line feed
abbrev pub line : List ℕ → List ℕ
line text = text ++ 10 ∷ []

-- the text of the lines, each with its line feed
abbrev pub text_of : List (List ℕ) → List ℕ
text_of [] = []
text_of (first ∷ lines) = line first ++ text_of lines

-- ---- writing

-- the first line of a plain pack
abbrev pub header : List ℕ
header = codes "GPK1"

-- the letter of a kind: `c` for a commit, `t` for a tag
abbrev pub letter : Kind → ℕ
letter Commit = 99
letter Tag = 116

-- the ids in the line of an entry: its own id, and the ids of its parents
abbrev pub ids_of : {A : Type 0} → Entry A → List Id
ids_of entry = entry.id ∷ entry.node.parents

-- the text of the ids, each after a space
abbrev pub ids_text : List Id → List ℕ
ids_text ids = flat_map (λ id. 32 ∷ id_text id) ids

-- the line of an entry
abbrev pub node_text : {A : Type 0} → Entry A → List ℕ
node_text entry = letter entry.node.kind ∷ ids_text (ids_of entry)

-- the last line of a plain pack with `n` entries
abbrev pub end_text : ℕ → List ℕ
end_text n = codes "end " ++ decimal n

-- the lines of the plain pack of some entries
abbrev pub pack_lines : {A : Type 0} → List (Entry A) → List (List ℕ)
pack_lines list = header ∷ (map node_text list ++ end_text (length list) ∷ [])

-- the plain pack of some entries
unfoldable pub pack_text : {A : Type 0} → List (Entry A) → List ℕ
pack_text list = text_of (pack_lines list)

-- the fault of packing: `TooLarge` if the pack has too many bytes, and otherwise `Memory`
abbrev pub PackRefuses : List ℕ → PackFault → Type 0
PackRefuses text pack_faults.Memory = length text ≤ max_pack
PackRefuses text pack_faults.TooLarge = max_pack < length text
PackRefuses text pack_faults.Other = ⊥

-- ---- reading, with the digits of ids in either case

-- the text has the digits of each id, in upper or lower case, after a space
abbrev pub IsIdsText : List ℕ → List Id → Type 0
IsIdsText text [] = text ≡ []
IsIdsText text (id ∷ ids) =
    (digits more : List ℕ) × (text ≡ 32 ∷ digits ++ more) × IsIdText digits id × IsIdsText more ids

-- the text is a line of the entry, with the digits of ids in upper or lower case
abbrev pub IsNodeText : {A : Type 0} → List ℕ → Entry A → Type 0
IsNodeText text entry = (ids : List ℕ) × (text ≡ letter entry.node.kind ∷ ids) × IsIdsText ids (ids_of entry)

-- the texts are lines of the entries, one for each entry
abbrev pub AreNodeTexts : {A : Type 0} → List (List ℕ) → List (Entry A) → Type 0
AreNodeTexts [] [] = ⊤
AreNodeTexts (text ∷ lines) (entry ∷ list) = IsNodeText text entry × AreNodeTexts lines list
AreNodeTexts [] (entry ∷ list) = ⊥
AreNodeTexts (text ∷ lines) [] = ⊥

-- the lines are the lines of a plain pack of the entries
pub record ArePackLines {A : Type 0} (lines : List (List ℕ)) (list : List (Entry A)) : Type 0 where
  pub nodes : List (List ℕ)
  pub are : lines ≡ header ∷ (nodes ++ end_text (length list) ∷ [])
  pub each : AreNodeTexts nodes list

-- the bytes are a plain pack of the entries
pub record IsPack {A : Type 0} (bytes : List ℕ) (list : List (Entry A)) : Type 0 where
  pub lines : List (List ℕ)
  pub whole : bytes ≡ text_of lines
  pub are : ArePackLines lines list

-- ---- the first wrong line

-- a text without line feeds
abbrev pub IsInLine : List ℕ → Type 0
IsInLine text = (at : ℕ) → slice_index text at ≢ 10

-- the lines are the beginning of some plain pack
pub record BeginsPack (A : Type 0) (lines : List (List ℕ)) : Type 0 where
  pub list : List (Entry A)
  pub more : List (List ℕ)
  pub are : ArePackLines (lines ++ more) list

-- the lines are a complete plain pack
abbrev pub IsWholePack : (A : Type 0) → List (List ℕ) → Type 0
IsWholePack A lines = (list : List (Entry A)) × ArePackLines lines list

-- the bytes begin with the lines and then the line `next`
abbrev pub GoesOn : List ℕ → List (List ℕ) → List ℕ → Type 0
GoesOn bytes lines next = (rest : List ℕ) × (bytes ≡ text_of (lines ++ next ∷ []) ++ rest) × IsInLine next

-- the line after these lines is wrong: no plain pack begins with `lines` and that line
abbrev pub IsWrongLine : (A : Type 0) → List ℕ → List (List ℕ) → Type 0
IsWrongLine A bytes lines = (next : List ℕ) × GoesOn bytes lines next × ¬ (BeginsPack A (lines ++ next ∷ []))

-- after these lines the bytes end too early: inside a line, or before the last line of a plain pack
abbrev pub EndsEarly : (A : Type 0) → List ℕ → List (List ℕ) → Type 0
EndsEarly A bytes lines =
    (rest : List ℕ) × (bytes ≡ text_of lines ++ rest) × IsInLine rest × (rest ≡ [] → ¬ (IsWholePack A lines))

-- the number, counted from 1, of the first line that is wrong or missing; the lines before that line are the beginning
-- of a plain pack
abbrev pub IsBadLine : (A : Type 0) → List ℕ → ℕ → Type 0
IsBadLine A bytes at =
    (lines : List (List ℕ)) × (at ≡ length lines + 1) × BeginsPack A lines
    × (IsWrongLine A bytes lines ⊎ EndsEarly A bytes lines)

-- the bytes contain an entry to store: valid lines, and then the line of an entry or the beginning of such a line up to
-- the space after a parent
pub record TakesMemory (A : Type 0) (bytes : List ℕ) : Type 0 where
  pub nodes : List (List ℕ)
  pub list : List (Entry A)
  pub text : List ℕ
  pub entry : Entry A
  pub end : ℕ
  pub rest : List ℕ
  pub parts : bytes ≡ text_of (header ∷ nodes) ++ (text ++ end ∷ rest)
  pub before : AreNodeTexts nodes list
  pub node : IsNodeText text entry
  pub ends : ((end ≡ 32) × (entry.node.parents ≢ [])) ⊎ (end ≡ 10)

-- the fault of refused bytes: a bad line, or out of memory for an entry
abbrev pub IndexRefuses : (A : Type 0) → List ℕ → IndexFault → Type 0
IndexRefuses A bytes index_faults.Memory = TakesMemory A bytes
IndexRefuses A bytes (index_faults.Bad at) = IsBadLine A bytes at
IndexRefuses A bytes index_faults.Other = ⊥
