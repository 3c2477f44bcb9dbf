-- Pack entries and their inflated contents (gitformat-pack(5)).
use Rattle.std.specs.Prelude.{◌≡◌, ℕ, List, [], length}
use Rattle.gitpack.specs.Entries.{BeginsWithHead}
use Rattle.gitpack.specs.declared.entry.EntryForm.{EntryForm}
use Rattle.gzlib.specs.Inflate.{Inflates}

-- The bytes are an entry header with this form and size, followed by a zlib stream up to the end. The text has the size
-- in the header, and the stream ends with the checksum of the text. No definition says how the stream encodes the text.
pub record IsInflatedFrom (bytes : List ℕ) (form : EntryForm) (size : ℕ) (text : List ℕ) : Type 0 where
  pub stream : List ℕ
  pub head : BeginsWithHead bytes form size stream
  pub sized : length text ≡ size
  pub inflates : Inflates stream size [] text (length stream)
