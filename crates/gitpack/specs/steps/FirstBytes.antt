-- Definitions for writing the fan-out table of a pack index.
use Rattle.std.specs.Prelude.{ℕ, zero, suc, Bool, nat_eq, List, slice_index, count_by}
use Rattle.gitpack.specs.Indexes.{ids_within}
use Rattle.gitpack.specs.declared.index.IndexEntry.{IndexEntry}

-- whether the id of an entry begins with this byte
abbrev pub begins_with : ℕ → IndexEntry → Bool
begins_with byte e = nat_eq (slice_index e.id 0) byte

abbrev pub ids_beginning : ℕ → List IndexEntry → ℕ
ids_beginning byte entries = count_by (begins_with byte) entries

-- the number of ids whose first byte is less than this byte
abbrev pub ids_below : ℕ → List IndexEntry → ℕ
ids_below zero entries = 0
ids_below (suc byte) entries = ids_within byte entries
