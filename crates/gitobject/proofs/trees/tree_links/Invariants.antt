use Rattle.std.proofs.Common.{◌≡◌, List, ◌++◌, length, All}
use Rattle.std.specs.List.{filter_map}
use Rattle.gitobject.specs.Trees.{Entry, IsEntry, entry_link, tree_text}
use Rattle.gitobject.proofs.trees.tree_links.Given as goal

abbrev pub invariant-loop-rest : goal.invariant-loop-rest
invariant-loop-rest g l =
    (done : List Entry) × All IsEntry done × (l.body ≡ tree_text done ++ l.rest)
    × (l.links.items ≡ filter_map entry_link done)

abbrev pub decreases-loop-rest : goal.decreases-loop-rest
decreases-loop-rest g l = length l.rest
