-- Definitions for reading the tables of a pack index.
use Rattle.std.specs.Prelude.{◌≡◌, ℕ, ◌+◌, ◌≤◌, if◌then◌else◌, List, ◌++◌, length}
use Rattle.std.specs.List.{flat_map}
use Rattle.gitpack.specs.Indexes.{crc_bytes, id_bytes, is_short, long_bytes, short_offsets}
use Rattle.gitpack.specs.declared.index.IndexEntry.{IndexEntry}

-- the tables of a pack index after the fan-out table
abbrev pub index_rows : List IndexEntry → List ℕ
index_rows lines = flat_map id_bytes lines ++ (flat_map crc_bytes lines ++ (short_offsets 0 lines ++ flat_map long_bytes lines))

-- the tables contain exactly these entries, if earlier entries have `longs` offsets in the table of 64-bit offsets
pub record AreRows (ids crcs offsets long_offsets : List ℕ) (longs : ℕ) (lines : List IndexEntry) : Type 0 where
  pub of_ids : ids ≡ flat_map id_bytes lines
  pub of_crcs : crcs ≡ flat_map crc_bytes lines
  pub of_offsets : offsets ≡ short_offsets longs lines
  pub of_longs : long_offsets ≡ flat_map long_bytes lines

-- the number for an entry in the table of 32-bit offsets, if earlier entries have `longs` offsets in the table of
-- 64-bit offsets
abbrev pub short_of : ℕ → IndexEntry → ℕ
short_of longs e = if is_short e then e.offset else (2147483648 + longs)

-- the number of 64-bit offsets up to and including this entry, if earlier entries have `longs` 64-bit offsets
abbrev pub longs_with : ℕ → IndexEntry → ℕ
longs_with longs e = if is_short e then longs else (longs + 1)

-- the unread parts of the tables after some entries are read
pub record AreLeft (ids crcs offsets long_offsets : List ℕ) (read lines : List IndexEntry) : Type 0 where
  pub more : List IndexEntry
  pub longs : ℕ
  pub parts : lines ≡ read ++ more
  pub few : longs ≤ length read
  pub rows : AreRows ids crcs offsets long_offsets longs more
