use Rattle.std.proofs.Common.{◌≡◌, List, ◌++◌, length, All}
use Rattle.std.specs.List.{filter_map}
use Rattle.gitobject.specs.Trees.{Entry, IsEntry, entry_link, tree_text}
use Rattle.gitwalk.specs.Gathering.{is_sent}
use Rattle.gitwalk.specs.steps.Walking.{Notes}
use Rattle.gitwalk.proofs.walk.Walk.walk_entries.Given as goal

abbrev pub invariant-loop-rest : goal.invariant-loop-rest
invariant-loop-rest g l =
    (done : List Entry) × All IsEntry done × (l.body ≡ tree_text done ++ l.rest)
    × Notes g.S.WalkedStore.located l.fn.self (filter_map entry_link done) (is_sent l.fate) l.self

abbrev pub decreases-loop-rest : goal.decreases-loop-rest
decreases-loop-rest g l = length l.rest
