-- The maximum lengths in bytes of the texts that are written.
use Rattle.std.specs.Prelude.{ℕ, ◌+◌}
use Rattle.gname.specs.Formats.{max_id_text}
use Rattle.gname.specs.Names.{max_name}

-- the maximum length of ` symref-target:` with a name
abbrev pub max_symref_text : ℕ
max_symref_text = 15 + max_name

-- the maximum length of ` peeled:` with an id
abbrev pub max_peeled_text : ℕ
max_peeled_text = 8 + max_id_text

abbrev pub max_ref_text : ℕ
max_ref_text = max_id_text + 1 + max_name + max_symref_text + max_peeled_text
