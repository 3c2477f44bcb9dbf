-- The representation of an object id in memory.
use Rattle.std.specs.Prelude.{◌≡◌, ◌==◌, if◌then◌else◌, length, refl}
use Rattle.gname.specs.declared.formats.Format.TheVariants as format
use Rattle.gname.specs.declared.ids.Digest.{Digest}
use Rattle.gname.specs.declared.ids.Digest.TheVariants.{Sha1, Sha256}
use Rattle.gname.specs.Formats.{id_length}
use Rattle.gname.specs.Ids.{Id, IsIdOf}

-- the bytes of a digest
abbrev pub digest_bytes : Digest → Id
digest_bytes (Sha1 bytes) = bytes
digest_bytes (Sha256 bytes) = bytes

abbrev pub digest_of : Id → Digest
digest_of bytes = if length bytes == id_length format.Sha1 then Sha1 bytes else Sha256 bytes

-- a digest has as many bytes as an id of its format
abbrev pub IsDigest : Digest → Type 0
IsDigest (Sha1 bytes) = IsIdOf format.Sha1 bytes
IsDigest (Sha256 bytes) = IsIdOf format.Sha256 bytes

-- converting a digest to its bytes and back returns the same digest
pub digest_of-bytes : (digest : Digest) → IsDigest digest → digest_of (digest_bytes digest) ≡ digest
digest_of-bytes (Sha1 bytes) h = rw h.long refl
digest_of-bytes (Sha256 bytes) h = rw h.long refl
