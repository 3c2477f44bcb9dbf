-- None of the rows so far has the text.
use Rattle.std.proofs.Common.{◌≡◌, drop}
use Rattle.grequest.specs.Flags.{flag_in}
use Rattle.grequest.specs.steps.Flags.{table_in}
use Rattle.grequest.proofs.flag.flag_in.Given as goal

abbrev pub invariant-loop-flag : goal.invariant-loop-flag
invariant-loop-flag g l = flag_in (table_in l.table) l.text ≡ flag_in (table_in (drop l.flag-index l.table)) l.text
