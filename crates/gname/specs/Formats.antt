-- The formats of object ids (gitprotocol-v2(5), "object-format"): the hash functions that name objects.
use Rattle.std.specs.Prelude.{ℕ, ◌*◌, List, codes}
use Rattle.gname.specs.declared.formats.Format.{Format}
use Rattle.gname.specs.declared.formats.Format.TheVariants.{Sha1, Sha256}

-- the number of bytes of an object id
abbrev pub id_length : Format → ℕ
id_length Sha1 = 20
id_length Sha256 = 32

-- the number of hexadecimal digits of an object id
abbrev pub id_text_length : Format → ℕ
id_text_length format = 2 * id_length format

-- the maximum number of hexadecimal digits of an object id
abbrev pub max_id_text : ℕ
max_id_text = id_text_length Sha256

-- the name of a format
abbrev pub format_name : Format → List ℕ
format_name Sha1 = codes "sha1"
format_name Sha256 = codes "sha256"
