-- Both arrays set the same flags of the rows so far.
use Rattle.std.proofs.Common.{◌≡◌, drop}
use Rattle.grequest.specs.Flags.{flag_at}
use Rattle.grequest.specs.steps.Flags.{table_in}
use Rattle.grequest.proofs.FlagLemmas.{agree}
use Rattle.grequest.proofs.flag.are_same_flags.Given as goal

abbrev pub invariant-loop-flag : goal.invariant-loop-flag
invariant-loop-flag g l =
    agree (flag_at g.F.Flag.number l.left) (flag_at g.F.Flag.number l.right) (table_in l.table)
    ≡ agree (flag_at g.F.Flag.number l.left) (flag_at g.F.Flag.number l.right) (table_in (drop l.flag-index l.table))
