-- Object ids and their hexadecimal texts (gitprotocol-common(5), "ABNF Notation": `obj-id`).
use Rattle.std.specs.Prelude.{◌≡◌, ◌≢◌, ℕ, ◌<◌, ◌==◌, Bool, false, if◌then◌else◌, List, length, take, slice_index, Result, Ok, Err}
use Rattle.std.specs.List.{AllPass}
use Rattle.std.specs.Ordering.{nat_cmp, on, then_cmp}
use Rattle.std.specs.declared.cmp.Ordering.{Ordering}
use Rattle.std.specs.Cmp.Lexicographic.{slice_cmp}
use Rattle.hex.specs.Hex.{IsBytes, decode_of, encode_lower, encode_upper, is_hex_digit}
use Rattle.hex.specs.declared.error.FromHexError.{FromHexError}
use Rattle.hex.specs.declared.error.FromHexError.TheVariants.{InvalidHexCharacter}
use Rattle.gname.specs.Formats.{id_length, id_text_length}
use Rattle.gname.specs.declared.formats.Format.{Format}
use Rattle.gname.specs.declared.formats.Format.TheVariants.{Sha1, Sha256}
use Rattle.gname.specs.declared.ids.OidFault.{OidFault}
use Rattle.gname.specs.declared.ids.OidFault.TheVariants.{Length, Digit}

-- the bytes of an object id
abbrev pub Id : Type 0
Id = List ℕ

-- a valid object id of a format: bytes, in the number that the format requires
pub record IsIdOf (format : Format) (id : Id) : Type 0 where
  pub long : length id ≡ id_length format
  pub bytes : IsBytes id

-- whether the bytes have the length of an id of the format
abbrev pub has_format : Format → Id → Bool
has_format format id = length id == id_length format

-- the format of an object id, which follows from the length of the id
abbrev pub format_of : Id → Format
format_of id = if length id == id_length Sha1 then Sha1 else Sha256

-- a valid object id
abbrev pub IsId : Id → Type 0
IsId id = IsIdOf (format_of id) id

-- the order of ids: SHA-1 before SHA-256, and ids of one format by their bytes
abbrev pub id_cmp : Id → Id → Ordering
id_cmp = then_cmp (on (λ id. id_length (format_of id)) nat_cmp) (slice_cmp nat_cmp)

-- the text has two hexadecimal digits for each byte of the id, in upper or lower case
pub record IsIdTextOf (format : Format) (text : List ℕ) (id : Id) : Type 0 where
  pub long : length text ≡ id_text_length format
  pub spells : decode_of text ≡ Ok id

abbrev pub IsIdText : List ℕ → Id → Type 0
IsIdText text id = IsIdTextOf (format_of id) text id

-- the hexadecimal text of an id in lower case
abbrev pub id_text : Id → List ℕ
id_text id = encode_lower id

abbrev pub upper_id_text : Id → List ℕ
upper_id_text id = encode_upper id

-- the byte at position `at` is the first in the text that is not a hexadecimal digit
pub record IsFirstBadDigit (text : List ℕ) (at : ℕ) : Type 0 where
  pub inside : at < length text
  pub before : AllPass is_hex_digit (take at text)
  pub bad : is_hex_digit (slice_index text at) ≡ false

-- the result of parsing a text as an object id: the id, or `Length` for a wrong length, or `Digit` with the position of
-- the first byte that is not a digit
abbrev pub ReadsId : Format → List ℕ → Result Id OidFault → Type 0
ReadsId format text (Ok id) = IsIdTextOf format text id × IsIdOf format id
ReadsId format text (Err Length) = length text ≢ id_text_length format
ReadsId format text (Err (Digit at)) = (length text ≡ id_text_length format) × IsFirstBadDigit text at

-- the fault of an object id for each fault of the `hex` crate
abbrev pub id_fault_of : FromHexError → OidFault
id_fault_of (InvalidHexCharacter c at) = Digit at
id_fault_of _ = Length
