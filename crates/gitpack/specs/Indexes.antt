-- The pack index of version 2 (gitformat-pack(5), "Version 2 pack-*.idx files support packs larger than 4 GiB").
use Rattle.std.specs.Prelude.{◌≡◌, ℕ, zero, suc, ◌+◌, ◌<◌, ◌^◌, Bool, if◌then◌else◌, nat_le, nat_lt, List, [], ◌∷◌, ◌++◌, codes, length, slice_index, count_by, map, All, MatchOption, Option}
use Rattle.std.specs.List.{flat_map}
use Rattle.std.specs.List.Sorted.{IsSortedByKey}
use Rattle.std.specs.Int.{w32, w64, to_be_bytes}
use Rattle.sha1.specs.Sha1.{sha1}
use Rattle.gname.specs.Ids.{Id, IsIdOf, id_cmp}
use Rattle.gname.specs.declared.formats.Format.TheVariants.{Sha1}
use Rattle.gitpack.specs.declared.index.IndexEntry.{IndexEntry}
use Rattle.gitpack.specs.declared.indexing.IndexedEntry.{IndexedEntry}

-- the content of a pack index: its entries, and the checksum of the pack
pub record Index : Type 0 where
  pub entries : List IndexEntry
  pub checksum : Id

abbrev pub entry_id : IndexEntry → Id
entry_id e = e.id

-- a valid entry of an index: a SHA-1 id, a CRC-32 of at most 32 bits, and an offset of at most 64 bits
pub record IsLine (e : IndexEntry) : Type 0 where
  pub id : IsIdOf Sha1 e.id
  pub crc : e.crc < 2 ^ 32
  pub offset : e.offset < 2 ^ 64

-- the entries of an index: fewer than 2^31 valid entries, sorted by id
pub record AreEntries (entries : List IndexEntry) : Type 0 where
  pub lines : All IsLine entries
  pub sorted : IsSortedByKey entry_id id_cmp entries
  pub few : length entries < 2 ^ 31

-- an index that can be written: valid entries, sorted by id, and a SHA-1 checksum
pub record HasText (index : Index) : Type 0 where
  pub entries : AreEntries index.entries
  pub checksum : IsIdOf Sha1 index.checksum

-- ---- the tables of a pack index

-- the signature and version of a pack index
abbrev pub index_header : List ℕ
index_header = 255 ∷ (codes "tOc" ++ to_be_bytes w32 2)

-- whether the first byte of an entry's id is at most `byte`
abbrev pub begins_within : ℕ → IndexEntry → Bool
begins_within byte e = nat_le (slice_index e.id 0) byte

abbrev pub ids_within : ℕ → List IndexEntry → ℕ
ids_within byte entries = count_by (begins_within byte) entries

-- the first n numbers of the fan-out table: for each byte value below n, the number of ids whose first byte is at most
-- this value
unfoldable pub fan_out : ℕ → List IndexEntry → List ℕ
fan_out zero entries = []
fan_out (suc byte) entries = fan_out byte entries ++ to_be_bytes w32 (ids_within byte entries)

-- the bytes of an entry's id
abbrev pub id_bytes : IndexEntry → List ℕ
id_bytes e = e.id

abbrev pub crc_bytes : IndexEntry → List ℕ
crc_bytes e = to_be_bytes w32 e.crc

-- whether the offset of an entry fits in 31 bits, and so is stored in the table of 32-bit offsets
abbrev pub is_short : IndexEntry → Bool
is_short e = nat_lt e.offset 2147483648

-- The table of 32-bit offsets: for each entry its offset, or 2^31 plus the position of its offset in the table of
-- 64-bit offsets. The earlier entries have `longs` offsets in the table of 64-bit offsets.
abbrev pub short_offsets : ℕ → List IndexEntry → List ℕ
short_offsets longs [] = []
short_offsets longs (e ∷ entries) =
    if is_short e then to_be_bytes w32 e.offset ++ short_offsets longs entries
    else to_be_bytes w32 (2147483648 + longs) ++ short_offsets (longs + 1) entries

-- the bytes of an entry in the table of 64-bit offsets, or none if the offset fits in 31 bits
abbrev pub long_bytes : IndexEntry → List ℕ
long_bytes e = if is_short e then [] else to_be_bytes w64 e.offset

-- the signature, the version and the tables of an index with these entries
abbrev pub index_tables : List IndexEntry → List ℕ
index_tables entries =
    index_header ++ fan_out 256 entries ++ flat_map id_bytes entries ++ flat_map crc_bytes entries
    ++ short_offsets 0 entries ++ flat_map long_bytes entries

-- the bytes of an index without the index's own checksum
abbrev pub index_body : Index → List ℕ
index_body index = index_tables index.entries ++ index.checksum

-- the bytes of an index, which end with the SHA-1 of all other bytes
abbrev pub index_text : Index → List ℕ
index_text index = index_body index ++ sha1 (index_body index)

-- a text that is an index, except that the index's own checksum may be wrong
pub record IsIndex (index : Index) (text : List ℕ) : Type 0 where
  pub own : List ℕ
  pub long : length own ≡ 20
  pub parts : text ≡ index_body index ++ own

-- a text that is not an index, even if the index's own checksum is ignored
abbrev pub IsNoIndex : List ℕ → Type 0
IsNoIndex text = (index : Index) → HasText index → ¬ (IsIndex index text)

-- the result of reading a text: the index with this text, or `None` if the text is not an index
abbrev pub ReadsIndex : List ℕ → Option Index → Type 0
ReadsIndex text found = MatchOption found (IsNoIndex text) (λ index. HasText index × IsIndex index text)

-- ---- indexed packs

-- an indexed pack: its objects, and its checksum
pub record Indexed : Type 0 where
  pub entries : List IndexedEntry
  pub checksum : Id

abbrev pub object_id : IndexedEntry → Id
object_id e = e.entry.id

-- the entry of an object in the index
abbrev pub line_of : IndexedEntry → IndexEntry
line_of e = e.entry

-- the objects of a pack: fewer than 2^31 objects with valid index entries, sorted by id
pub record AreObjects (entries : List IndexedEntry) : Type 0 where
  pub lines : All (λ e. IsLine (line_of e)) entries
  pub sorted : IsSortedByKey object_id id_cmp entries
  pub few : length entries < 2 ^ 31

-- a pack whose index can be written
pub record IsIndexed (pack : Indexed) : Type 0 where
  pub objects : AreObjects pack.entries
  pub checksum : IsIdOf Sha1 pack.checksum

-- the index of an indexed pack
abbrev pub index_of : Indexed → Index
index_of pack = record { entries = map line_of pack.entries; checksum = pack.checksum }
