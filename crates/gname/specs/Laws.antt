-- The laws of object ids, ref names and prefixes.
use Rattle.std.specs.Prelude.{◌≡◌, ◌≢◌, ℕ, ◌<◌, ◌≤◌, Bool, true, false, List, length, codes, nat_eq, All, Some}
use Rattle.std.specs.Prelude.{MatchOption, Result, Ok}
use Rattle.std.specs.List.{AllPass, starts_with}
use Rattle.hex.specs.Hex.{is_hex_digit}
use Rattle.gname.specs.Ids.{Id, IsId, IsIdOf, IsIdText, IsIdTextOf, ReadsId, format_of, id_text, upper_id_text}
use Rattle.gname.specs.declared.formats.Format.{Format}
use Rattle.gname.specs.Names.{IsPrefix, IsRefName, first_place, head_name, is_bad_byte, max_name, name_fault, prefix_fault}
use Rattle.gname.specs.declared.ids.OidFault.{OidFault}
use Rattle.gname.specs.declared.faults.NameFault.TheVariants.{Memory}

-- the text of an id, in lower case or in upper case, encodes that id
abbrev pub IdsHaveTexts : Type 0
IdsHaveTexts = (id : Id) → IsId id → IsIdText (id_text id) id × IsIdText (upper_id_text id) id

-- a text whose bytes are all above 32: it has no spaces, and no control characters except perhaps DEL
abbrev pub IsClean : List ℕ → Type 0
IsClean text = All (λ b. 32 < b) text

-- the text of an id has only hexadecimal digits, and so neither control characters nor spaces; the encoded id is valid
pub record IdTextFacts (text : List ℕ) (id : Id) : Type 0 where
  pub spelt : IsId id
  pub digits : AllPass is_hex_digit text
  pub clean : IsClean text

abbrev pub IdTextsAreDigits : Type 0
IdTextsAreDigits = (text : List ℕ) (id : Id) → IsIdText text id → IdTextFacts text id

-- a text encodes at most one id
abbrev pub TextsSpellOneId : Type 0
TextsSpellOneId = (text : List ℕ) (a b : Id) → IsIdText text a → IsIdText text b → a ≡ b

-- in each format the result of parsing a text is unique; if the text encodes an id, the result is that id
abbrev pub TextsHaveOneReading : Type 0
TextsHaveOneReading = (format : Format) (text : List ℕ) →
    ((id : Id) → IsIdTextOf format text id → ReadsId format text (Ok id))
    × ((a b : Result Id OidFault) → ReadsId format text a → ReadsId format text b → a ≡ b)

-- an id of a format is a valid id, and has only that format
abbrev pub IdsHaveOneFormat : Type 0
IdsHaveOneFormat = (format : Format) (id : Id) → IsIdOf format id → IsId id × (format_of id ≡ format)

-- A ref name is not empty, is not longer than the limit, and has no forbidden bytes. A ref name is HEAD or begins with
-- refs/. A ref name is also a valid prefix.
pub record NameFacts (text : List ℕ) : Type 0 where
  pub some : 0 < length text
  pub within : length text ≤ max_name
  pub clean : IsClean text
  pub bytes : All (λ b. is_bad_byte b ≡ false) text
  pub below : text ≢ head_name → starts_with nat_eq text (codes "refs/") ≡ true
  pub prefix : IsPrefix text

-- a prefix is not longer than the limit, and has no forbidden bytes
pub record PrefixFacts (text : List ℕ) : Type 0 where
  pub within : length text ≤ max_name
  pub clean : IsClean text
  pub bytes : All (λ b. is_bad_byte b ≡ false) text

abbrev pub NamesAreClean : Type 0
NamesAreClean = (text : List ℕ) → IsRefName text → NameFacts text

abbrev pub PrefixesAreClean : Type 0
PrefixesAreClean = (text : List ℕ) → IsPrefix text → PrefixFacts text

-- no rule of names and prefixes reports out of memory
abbrev pub RulesNeverReportMemory : Type 0
RulesNeverReportMemory = (text : List ℕ) → (name_fault text ≢ Some Memory) × (prefix_fault text ≢ Some Memory)

-- `first_place` returns the first position of the text that passes the test, or `None` if no position passes the test
abbrev pub FirstPlacesAreFirst : Type 0
FirstPlacesAreFirst = (test : ℕ → Bool) (text : List ℕ) →
    MatchOption (first_place test text) ((j : ℕ) → j ≤ length text → test j ≡ false)
    (λ at. (at ≤ length text) × (test at ≡ true) × ((j : ℕ) → j < at → test j ≡ false))
