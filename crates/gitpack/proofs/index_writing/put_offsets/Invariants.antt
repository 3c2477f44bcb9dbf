use Rattle.std.proofs.Common.{◌≡◌, ◌≤◌, ◌++◌, drop}
use Rattle.gitpack.specs.Indexes.{short_offsets}
use Rattle.gitpack.proofs.index_writing.put_offsets.Given as goal

abbrev pub invariant-loop-entry : goal.invariant-loop-entry
invariant-loop-entry g l =
    (l.out.items ++ short_offsets l.longs (drop l.entry-index l.entries) ≡ l.initial.out.items ++ short_offsets 0 l.entries)
    × (l.longs ≤ l.entry-index)
