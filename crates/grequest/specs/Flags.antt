-- Flags: the arguments of a command that have no value (gitprotocol-v2(5), "ls-refs", "fetch"). Each command has a
-- table of flags and their texts.
use Rattle.std.specs.Prelude.{ℕ, Bool, false, List, [], ◌∷◌, if◌then◌else◌, Option, Some, None, slice_index_or}
use Rattle.std.specs.Str.{bytes_eq}
use Rattle.gpkt.specs.Packets.{Bytes}

abbrev pub Table : Type 0 → Type 0
Table F = List (F × List ℕ)

-- the flag with this text
abbrev pub flag_in : {F : Type 0} → Table F → Bytes → Option F
flag_in [] text = None
flag_in (row ∷ rows) text = if bytes_eq text row.1 then Some row.0 else flag_in rows text

-- ---- sets of flags

-- a set of flags: a boolean for each flag of the table
abbrev pub FlagsOf : {F : Type 0} → Table F → Type 0
FlagsOf [] = Unit {0}
FlagsOf (row ∷ rows) = Bool × FlagsOf rows

-- the set of flags for which the test is true
abbrev pub flags_where : {F : Type 0} (table : Table F) → (F → Bool) → FlagsOf table
flags_where [] passes = tt
flags_where (row ∷ rows) passes = (passes row.0, flags_where rows passes)

-- the boolean of the flag, at the index of the flag's number, or false if the list is too short
abbrev pub flag_at : {F : Type 0} → (F → ℕ) → List Bool → F → Bool
flag_at number kept flag = slice_index_or kept (number flag) false

-- the set of flags that a list of booleans represents; the boolean of a flag is at the index of the flag's number
abbrev pub flags_at : {F : Type 0} → (F → ℕ) → (table : Table F) → List Bool → FlagsOf table
flags_at number table kept = flags_where table (flag_at number kept)

module _ {F : Type 0} (same : F → F → Bool) where
  -- the flag is in the set
  abbrev pub has_flag : (table : Table F) → FlagsOf table → F → Bool
  has_flag [] flags flag = false
  has_flag (row ∷ rows) flags flag = if same flag row.0 then flags.0 else has_flag rows flags.1 flag

  -- the set of flags, with one flag added or removed
  abbrev pub with_flag : (table : Table F) → FlagsOf table → F → Bool → FlagsOf table
  with_flag table flags flag is_set =
      flags_where table (λ other. if same other flag then is_set else has_flag table flags other)
