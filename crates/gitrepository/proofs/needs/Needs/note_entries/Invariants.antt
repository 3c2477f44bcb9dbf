use Rattle.std.proofs.Common.{◌≡◌, List, ◌++◌, length, All}
use Rattle.std.specs.List.{filter_map}
use Rattle.gcomplete.specs.Batches.{KeepsTypes}
use Rattle.gitobject.specs.Trees.{Entry, IsEntry, entry_link, tree_text}
use Rattle.gitrepository.specs.steps.Arriving.{IsNeeded}
use Rattle.gitrepository.proofs.needs.Needs.note_entries.Given as goal

abbrev pub invariant-loop-rest : goal.invariant-loop-rest
invariant-loop-rest g l =
    (done : List Entry) × All IsEntry done × (l.body ≡ tree_text done ++ l.rest)
    × All (IsNeeded l.self) (filter_map entry_link done) × KeepsTypes l.fn.self l.self

abbrev pub decreases-loop-rest : goal.decreases-loop-rest
decreases-loop-rest g l = length l.rest
