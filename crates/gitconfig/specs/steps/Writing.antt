-- The effects of appending parts of a configuration.
use Rattle.std.specs.Prelude.{◌≡◌, ℕ, ◌&&◌, Bool, true, false, List, [], ◌∷◌, ◌++◌, map}
use Rattle.std.specs.List.{list_all}
use Rattle.std.specs.Char.{is_ascii_lowercase}
use Rattle.gitconfig.specs.Bytes.{EndsValue}
use Rattle.gitconfig.specs.Configs.{HasItems, Item}
use Rattle.gitconfig.specs.Values.{BeginsWithPiece, BeginsWithValue, HasPieces}
use Rattle.gitconfig.specs.declared.pieces.Piece.{Piece}
use Rattle.gitconfig.specs.declared.pieces.Piece.TheVariants.{Byte}

-- whether a text consists of one or more lower-case letters
abbrev pub is_word : List ℕ → Bool
is_word [] = false
is_word (b ∷ word) = is_ascii_lowercase b && list_all is_ascii_lowercase word

-- if a text of other items is appended to this text, the result consists of these items and then the other items
abbrev pub HoldsItems : List Item → List ℕ → Type 0
HoldsItems items text = (rest : List ℕ) (more : List Item) → HasItems rest more → HasItems (text ++ rest) (items ++ more)

-- the new text is the old text, followed by a text of these items
pub record AddsItems (items : List Item) (old new : List ℕ) : Type 0 where
  pub text : List ℕ
  pub after : new ≡ old ++ text
  pub holds : HoldsItems items text

-- the appended text reads back as this value, if the text that follows is empty, or begins with an LF or a comment
abbrev pub AddsValue : List ℕ → List ℕ → List ℕ → Type 0
AddsValue value old new = (text : List ℕ) × (new ≡ old ++ text)
    × ((rest : List ℕ) → EndsValue rest → BeginsWithValue (32 ∷ text ++ rest) value rest)

-- the new text is the old text, followed by the bytes of a quoted value
abbrev pub AddsQuoted : List ℕ → List ℕ → List ℕ → Type 0
AddsQuoted value old new = (text : List ℕ) × (new ≡ old ++ text)
    × ((rest : List ℕ) (more : List Piece) (end : List ℕ) → HasPieces true rest more end
    → HasPieces true (text ++ rest) (map Byte value ++ more) end)

abbrev pub AddsByte : ℕ → List ℕ → List ℕ → Type 0
AddsByte byte old new = (text : List ℕ) × (new ≡ old ++ text)
    × ((rest : List ℕ) → BeginsWithPiece true (text ++ rest) (Byte byte) rest)
