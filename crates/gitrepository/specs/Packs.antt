-- Outgoing and incoming packs (gitformat-pack(5)).
use Rattle.std.specs.Prelude.{◌≡◌, ℕ, List, ◌++◌, length, All}
use Rattle.std.specs.List.{concat}
use Rattle.gcomplete.specs.Naming.{IsNameOf}
use Rattle.gname.specs.Ids.{Id}
use Rattle.gobject.specs.declared.node.Entry.{Entry}
use Rattle.gitpack.specs.Packs.{IsEntry, IsFramed, pack_header, with_trailer}
use Rattle.gitpack.specs.declared.entry.EntryForm.{EntryForm}
use Rattle.gitrepository.specs.Entries.{IsRead}
use Rattle.gitwalk.specs.Gathering.{Fates, IsGathered, sent_count}

-- the bytes of a pack entry: a header and a stream
pub record IsEntryText (text : List ℕ) : Type 0 where
  pub form : EntryForm
  pub size : ℕ
  pub stream : List ℕ
  pub is : IsEntry form size stream text

-- the bytes are a pack header for `count` entries, followed by exactly `put` entries
pub record HasPut (count put : ℕ) (bytes : List ℕ) : Type 0 where
  pub texts : List (List ℕ)
  pub each : All IsEntryText texts
  pub many : length texts ≡ put
  pub is : bytes ≡ pack_header count ++ concat texts

-- a whole pack of `count` entries: a header that says so, these entries, and the trailer
pub record IsWholePack (count : ℕ) (pack : List ℕ) : Type 0 where
  pub bytes : List ℕ
  pub put : HasPut count count bytes
  pub is : pack ≡ with_trailer bytes

-- A pack of these commits and tags, which has one entry for each object that is sent for them. The objects that were
-- read to find the sent objects have the ids by which they were read.
pub record IsPackOf {A : Type 0} (entries : List (Entry A)) (pack : List ℕ) : Type 0 where
  pub fates : Fates
  pub gathered : IsGathered IsNameOf entries fates
  pub whole : IsWholePack (sent_count fates) pack

-- the trailer of the pack is this checksum, which is the SHA-1 of all preceding bytes
abbrev pub IsChecksumOf : Id → List ℕ → Type 0
IsChecksumOf checksum pack = (count : ℕ) × IsFramed count checksum pack

-- An indexed pack: its trailer is the SHA-1 of all preceding bytes. Each returned entry describes an object, or is a
-- tree or blob that a tag among the entries names.
pub record IsIndexed {A : Type 0} (pack : List ℕ) (entries : List (Entry A)) : Type 0 where
  pub count : ℕ
  pub trailer : List ℕ
  pub framed : IsFramed count trailer pack
  pub each : All (IsRead entries) entries
