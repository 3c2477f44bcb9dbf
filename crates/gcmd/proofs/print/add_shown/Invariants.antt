use Rattle.std.proofs.Common.{◌≡◌, ◌++◌, map, take}
use Rattle.gcmd.specs.Printing.{printable}
use Rattle.gcmd.proofs.print.add_shown.Given as goal

abbrev pub invariant-loop-byte : goal.invariant-loop-byte
invariant-loop-byte l = l.text.items ≡ l.initial.text.items ++ map printable (take l.byte-index l.piece)
