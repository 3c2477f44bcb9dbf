-- The protocol version that a client requests (gitprotocol-v2(5), "SSH and File Transport").
use Rattle.std.specs.Prelude.{ℕ, Bool, ◌==◌, List, codes}
use Rattle.std.specs.List.{list_any, slice_split}
use Rattle.std.specs.Str.{bytes_eq}

abbrev pub is_colon : ℕ → Bool
is_colon b = b == 58

abbrev pub is_version_2 : List ℕ → Bool
is_version_2 key = bytes_eq key (codes "version=2")

-- whether one of the colon-separated keys is `version=2`
abbrev pub names_version_2 : List ℕ → Bool
names_version_2 keys = list_any is_version_2 (slice_split is_colon keys)
