use Rattle.std.proofs.Common.{◌≡◌, ◌++◌, drop}
use Rattle.gwalk.specs.Walks.{marked_entries}
use Rattle.gwalk.proofs.sending.entries_at.Given as goal

abbrev pub invariant-loop-position : goal.invariant-loop-position
invariant-loop-position g l =
    l.list.items ++ marked_entries (drop l.position l.graph.entries) (drop l.position l.marks) ≡ marked_entries l.graph.entries l.marks
