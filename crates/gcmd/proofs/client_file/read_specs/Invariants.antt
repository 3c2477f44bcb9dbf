use Rattle.std.proofs.Common.{take, map}
use Rattle.std.specs.List.{AllZip}
use Rattle.std.specs.Prelude.{string_bytes}
use Rattle.grefs.specs.Refspecs.{IsSpec}
use Rattle.gcmd.proofs.client_file.read_specs.Given as goal

abbrev pub invariant-loop-word : goal.invariant-loop-word
invariant-loop-word g l = AllZip IsSpec (map string_bytes (take l.word-index l.words)) l.specs.items
