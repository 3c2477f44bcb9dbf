use Rattle.std.proofs.Common.{true, false, arith}
use Rattle.std.proofs.lemmas.Grind.{common_steps}
use Rattle.grequest.specs.Flags.{flag_at}
use Rattle.grequest.specs.steps.Flags.{table_in}
use Rattle.grequest.proofs.FlagLemmas.{agree_same}
use Rattle.grequest.proofs.flag.are_same_flags.Goals as goal

pub returns-then-left-number : goal.returns-then-left-number
returns-then-left-number g c =
    agree_same (flag_at g.F.Flag.number c.args.left.now) (flag_at g.F.Flag.number c.args.right.now) (table_in c.args.table.now) false
    (grind (arith, common_steps))

pub returns : goal.returns
returns g c =
    agree_same (flag_at g.F.Flag.number c.args.left.now) (flag_at g.F.Flag.number c.args.right.now) (table_in c.args.table.now) true
    (grind (arith, common_steps))
