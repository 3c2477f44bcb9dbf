-- The text of a value (git-config(1), "CONFIGURATION FILE", "Syntax").
use Rattle.std.specs.Prelude.{◌≡◌, ◌⊎◌, ℕ, ◌==◌, ◌||◌, not, Bool, true, false, if◌then◌else◌}
use Rattle.std.specs.Prelude.{Option, Some, None, List, [], ◌∷◌, ◌++◌, All, map}
use Rattle.gitconfig.specs.Bytes.{EndsValue, is_blank, is_mark}
use Rattle.gitconfig.specs.declared.pieces.Piece.{Piece}
use Rattle.gitconfig.specs.declared.pieces.Piece.TheVariants.{Byte, Blank, Quote, Continuation}

-- the byte that a backslash and this byte encode; the escapes are `\n`, `\t`, `\b`, `\"` and `\\`
abbrev pub escape : ℕ → Option ℕ
escape c = if c == 110 then Some 10 else (if c == 116 then Some 9 else (if c == 98 then Some 8 else
    (if c == 34 || c == 92 then Some c else None)))

-- a byte that must be escaped or quoted: an LF, a quote or a backslash, and outside quotes also a blank, `#` or `;`
abbrev pub is_special : Bool → ℕ → Bool
is_special quoted b = b == 10 || b == 34 || b == 92 || (if quoted then false else is_blank b || is_mark b)

-- The text begins with a piece of a value, followed by `rest`. A piece is a plain or escaped byte, a blank outside
-- quotes, a quote, or a backslash at the end of a line.
abbrev pub BeginsWithPiece : Bool → List ℕ → Piece → List ℕ → Type 0
BeginsWithPiece quoted text (Byte b) rest = ((text ≡ b ∷ rest) × (is_special quoted b ≡ false))
    ⊎ ((c : ℕ) × (text ≡ 92 ∷ c ∷ rest) × (escape c ≡ Some b))
BeginsWithPiece quoted text (Blank b) rest = (text ≡ b ∷ rest) × (quoted ≡ false) × (is_blank b ≡ true)
BeginsWithPiece quoted text Quote rest = text ≡ 34 ∷ rest
BeginsWithPiece quoted text Continuation rest = text ≡ 92 ∷ 10 ∷ rest

-- whether the text after a piece is inside quotes
abbrev pub is_quoted_after : Bool → Piece → Bool
is_quoted_after quoted Quote = not quoted
is_quoted_after quoted piece = quoted

-- the text begins with a value that consists of these pieces, followed by `rest`
abbrev pub HasPieces : Bool → List ℕ → List Piece → List ℕ → Type 0
HasPieces quoted text [] rest = (text ≡ rest) × (quoted ≡ false) × EndsValue rest
HasPieces quoted text (piece ∷ pieces) rest =
    (next : List ℕ) × BeginsWithPiece quoted text piece next
    × HasPieces (is_quoted_after quoted piece) next pieces rest

-- the bytes of the pieces, each with a flag that marks a blank outside quotes
abbrev pub mark_pieces : List Piece → List (ℕ × Bool)
mark_pieces [] = []
mark_pieces (Byte b ∷ pieces) = (b, false) ∷ mark_pieces pieces
mark_pieces (Blank b ∷ pieces) = (b, true) ∷ mark_pieces pieces
mark_pieces (Quote ∷ pieces) = mark_pieces pieces
mark_pieces (Continuation ∷ pieces) = mark_pieces pieces

abbrev pub is_marked : ℕ × Bool → Type 0
is_marked b = b.1 ≡ true

-- the value consists of the bytes without the unquoted blanks at both ends
pub record IsTrimmed (bytes : List (ℕ × Bool)) (value : List ℕ) : Type 0 where
  pub before : List (ℕ × Bool)
  pub kept : List (ℕ × Bool)
  pub after : List (ℕ × Bool)
  pub parts : bytes ≡ before ++ (kept ++ after)
  pub blank_before : All is_marked before
  pub blank_after : All is_marked after
  pub first : (b : ℕ × Bool) (more : List (ℕ × Bool)) → kept ≡ b ∷ more → b.1 ≡ false
  pub last : (b : ℕ × Bool) (more : List (ℕ × Bool)) → kept ≡ more ++ b ∷ [] → b.1 ≡ false
  pub is : value ≡ map (λ b. b.0) kept

-- the text begins with a value, followed by `rest`
abbrev pub BeginsWithValue : List ℕ → List ℕ → List ℕ → Type 0
BeginsWithValue text value rest =
    (pieces : List Piece) × HasPieces false text pieces rest × IsTrimmed (mark_pieces pieces) value
