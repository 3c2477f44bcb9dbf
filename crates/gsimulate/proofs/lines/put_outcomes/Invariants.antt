use Rattle.std.proofs.Common.{◌≡◌, ◌++◌, take}
use Rattle.std.specs.List.{flat_map}
use Rattle.gsimulate.specs.Lines.{outcome_line}
use Rattle.gsimulate.proofs.lines.put_outcomes.Given as goal

abbrev pub invariant-loop-index : goal.invariant-loop-index
invariant-loop-index g l = l.text.items ≡ l.initial.text.items ++ flat_map outcome_line (take l.index l.outcomes)
