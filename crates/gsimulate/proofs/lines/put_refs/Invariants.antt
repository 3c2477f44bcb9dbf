use Rattle.std.proofs.Common.{◌≡◌, ◌++◌, take}
use Rattle.std.specs.List.{flat_map}
use Rattle.gsimulate.specs.Lines.{ref_line}
use Rattle.gsimulate.proofs.lines.put_refs.Given as goal

abbrev pub invariant-loop-reference : goal.invariant-loop-reference
invariant-loop-reference g l = l.text.items ≡ l.initial.text.items ++ flat_map ref_line (take l.reference-index l.refs)
