use Rattle.std.proofs.Common.{◌≡◌, ◌++◌, take}
use Rattle.std.specs.List.{flat_map}
use Rattle.gitpack.specs.Indexes.{crc_bytes}
use Rattle.gitpack.proofs.index_writing.put_crcs.Given as goal

abbrev pub invariant-loop-entry : goal.invariant-loop-entry
invariant-loop-entry g l = l.out.items ≡ l.initial.out.items ++ flat_map crc_bytes (take l.entry-index l.entries)
