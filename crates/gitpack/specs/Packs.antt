-- Packs (gitformat-pack(5), "pack-*.pack files have the following format").
use Rattle.std.specs.Prelude.{◌≡◌, ℕ, List, ◌++◌, codes, drop, length, take}
use Rattle.std.specs.Int.{w32, to_be_bytes}
use Rattle.sha1.specs.Sha1.{sha1}
use Rattle.gitpack.specs.Entries.{IsHead}
use Rattle.gitpack.specs.declared.entry.EntryForm.{EntryForm}

-- the header of a pack: the signature, version 2, and the number of entries
abbrev pub pack_header : ℕ → List ℕ
pack_header count = codes "PACK" ++ (to_be_bytes w32 2 ++ to_be_bytes w32 count)

-- a pack entry: the entry header, and the zlib stream
pub record IsEntry (form : EntryForm) (size : ℕ) (stream text : List ℕ) : Type 0 where
  pub head : List ℕ
  pub is : IsHead form size head
  pub parts : text ≡ head ++ stream

-- the bytes `new` are the bytes `old`, followed by one more entry
pub record AddsEntry (form : EntryForm) (size : ℕ) (stream old new : List ℕ) : Type 0 where
  pub text : List ℕ
  pub entry : IsEntry form size stream text
  pub after : new ≡ old ++ text

-- the bytes with their SHA-1 appended as the trailer
abbrev pub with_trailer : List ℕ → List ℕ
with_trailer bytes = bytes ++ sha1 bytes

-- a pack with this entry count and trailer: a pack header, any bytes, and the SHA-1 of both
pub record IsFramed (count : ℕ) (trailer pack : List ℕ) : Type 0 where
  pub entries : List ℕ
  pub parts : pack ≡ (pack_header count ++ entries) ++ trailer
  pub trails : trailer ≡ sha1 (pack_header count ++ entries)

-- `part` is the part of `bytes` that begins at `start`
abbrev pub IsPart : List ℕ → ℕ → List ℕ → Type 0
IsPart bytes start part = part ≡ take (length part) (drop start bytes)
