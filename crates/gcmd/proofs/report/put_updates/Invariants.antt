use Rattle.std.proofs.Common.{◌≡◌, ◌++◌, take}
use Rattle.gcmd.specs.Reporting.{update_lines}
use Rattle.gcmd.proofs.report.put_updates.Given as goal

abbrev pub invariant-loop-place : goal.invariant-loop-place
invariant-loop-place g l =
    l.text.items ≡ l.initial.text.items ++ update_lines (take l.place l.asks) (take l.place l.updates)
