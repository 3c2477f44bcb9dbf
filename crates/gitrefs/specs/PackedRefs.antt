-- The file `packed-refs` (git-pack-refs(1); gitrepository-layout(5), "packed-refs").
use Rattle.std.specs.Prelude.{◌≡◌, ◌≢◌, ◌⊎◌, ℕ, ◌&&◌, Bool, List, [], ◌∷◌, ◌++◌, All, codes}
use Rattle.std.specs.Prelude.{Option, None, Some, filter, is_none, map, nat_eq}
use Rattle.std.specs.List.{starts_with}
use Rattle.gname.specs.Ids.{Id}
use Rattle.gname.specs.Names.{name_fault}
use Rattle.gitrefs.specs.Ids.{BeginsWithId}
use Rattle.gitrefs.specs.declared.packed.PackedRef.{PackedRef}

-- the line of a ref: the name, the id, and the peeled id if a line `^ID` follows
pub record PackedLine : Type 0 where
  pub name : List ℕ
  pub id : Id
  pub peeled : Option Id

-- the text begins with a line of an id, a space and a name, and `rest` follows this line
pub record BeginsWithRef (text : List ℕ) (line : PackedLine) (rest : List ℕ) : Type 0 where
  pub after_id : List ℕ
  pub id : BeginsWithId text line.id after_id
  pub clean : All (λ b. b ≢ 10) line.name
  pub parts : after_id ≡ 32 ∷ (line.name ++ 10 ∷ rest)

-- the text begins with a line of `^` and the peeled id, and `rest` follows the line; if there is no peeled id, `rest`
-- is the whole text, which does not begin with `^`
abbrev pub BeginsWithPeeled : List ℕ → Option Id → List ℕ → Type 0
BeginsWithPeeled text None rest = (text ≡ rest) × ((more : List ℕ) → ¬ (text ≡ codes "^" ++ more))
BeginsWithPeeled text (Some id) rest =
    (line : List ℕ) × (text ≡ codes "^" ++ line) × BeginsWithId line id (10 ∷ rest)

-- the text begins with the line of a ref and, if the ref has a peeled id, the line of the peeled id; `rest` follows
abbrev pub BeginsWithLine : List ℕ → PackedLine → List ℕ → Type 0
BeginsWithLine text line rest =
    (next : List ℕ) × BeginsWithRef text line next × BeginsWithPeeled next line.peeled rest

-- the text consists of exactly these lines
abbrev pub HasPackedLines : List ℕ → List PackedLine → Type 0
HasPackedLines text [] = text ≡ []
HasPackedLines text (line ∷ lines) =
    (rest : List ℕ) × BeginsWithLine text line rest × HasPackedLines rest lines

-- the text begins with a header that contains `words`, and `rest` follows the header
pub record HasHeader (text words rest : List ℕ) : Type 0 where
  pub clean : All (λ b. b ≢ 10) words
  pub parts : text ≡ codes "# pack-refs with:" ++ (words ++ 10 ∷ rest)

-- the text begins with a header that `rest` follows, or does not begin with `#` and equals `rest`
abbrev pub BeginsWithHeader : List ℕ → List ℕ → Type 0
BeginsWithHeader text rest = ((words : List ℕ) × HasHeader text words rest)
    ⊎ ((text ≡ rest) × ((more : List ℕ) → ¬ (text ≡ codes "#" ++ more)))

-- whether the name in a line is a ref name below refs/; parsing ignores all other lines
abbrev pub names_ref : PackedLine → Bool
names_ref line = is_none (name_fault line.name) && starts_with nat_eq line.name (codes "refs/")

-- the refs in the text of packed-refs, in the order of the lines
abbrev pub PackedLinesOf : List ℕ → List PackedLine → Type 0
PackedLinesOf text refs = (rest : List ℕ) × (lines : List PackedLine) × BeginsWithHeader text rest
    × HasPackedLines rest lines × (refs ≡ filter names_ref lines)

-- the parsed line for a ref of `packed-refs`
abbrev pub line_of : {A : Type 0} → PackedRef A → PackedLine
line_of ref = record { name = ref.name; id = ref.id; peeled = ref.peeled }

abbrev pub PackedRefsOf : {A : Type 0} → List ℕ → List (PackedRef A) → Type 0
PackedRefsOf text refs = PackedLinesOf text (map line_of refs)

-- a valid text of packed-refs
abbrev pub IsPackedRefsFile : List ℕ → Type 0
IsPackedRefsFile text = (refs : List PackedLine) × PackedLinesOf text refs
