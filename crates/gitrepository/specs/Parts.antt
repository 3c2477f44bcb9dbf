-- A pack that is returned in parts (gitformat-pack(5)).
use Rattle.std.specs.Prelude.{◌≡◌, ℕ, ◌+◌, ◌≤◌, true, false, IsTrue, List, [], ◌++◌, length, drop}
use Rattle.gcomplete.specs.Naming.{IsNameOf}
use Rattle.sha1.specs.Sha1.{Holds}
use Rattle.gitpack.specs.Packs.{with_trailer}
use Rattle.gobject.specs.declared.node.Entry.{Entry}
use Rattle.gitwalk.specs.Gathering.{Fates, IsGathered, sent_count}
use Rattle.gitrepository.specs.Packs.{HasPut}
use Rattle.gitrepository.specs.declared.outgoing.Outgoing.{Outgoing}

-- the bytes that were built and not yet returned
abbrev pub rest_of : {A : Type 0} → Outgoing A → List ℕ
rest_of pack = drop pack.given pack.bytes.items

-- A pack of `count` entries. The bytes returned so far, followed by the bytes not yet returned, are the header and all
-- entries built so far. Once the trailer is built, all these bytes are the whole pack.
pub record IsGoing {A : Type 0} (count : ℕ) (pack : Outgoing A) (given : List ℕ) : Type 0 where
  pub counted : pack.count ≡ count
  pub whole : IsTrue pack.is_between_entries
  pub text : List ℕ
  pub entries : HasPut count pack.put text
  pub going : pack.has_trailer ≡ false → Holds pack.sum text × (given ++ rest_of pack ≡ text)
  pub over : pack.has_trailer ≡ true → (pack.put ≡ count) × (given ++ rest_of pack ≡ with_trailer text)

-- a call that returns no bytes: if `given` are the bytes returned before the call, they are also the bytes returned
-- after the call
abbrev pub GoesOn : {A : Type 0} → Outgoing A → Outgoing A → Type 0
GoesOn old new = (count : ℕ) (given : List ℕ) → IsGoing count old given → IsGoing count new given

-- the pack of these commits and tags is to have one entry for each object that is sent for them, and no bytes were
-- returned
pub record IsBegun {A B : Type 0} (entries : List (Entry A)) (pack : Outgoing B) : Type 0 where
  pub fates : Fates
  pub gathered : IsGathered IsNameOf entries fates
  pub going : IsGoing (sent_count fates) pack []

-- the whole pack was returned
abbrev pub IsGivenWhole : {A : Type 0} → Outgoing A → Type 0
IsGivenWhole pack = IsTrue pack.has_trailer × (length pack.bytes.items ≤ pack.given)
