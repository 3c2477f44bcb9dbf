use Rattle.std.proofs.Common.{◌≡◌, ◌++◌, length}
use Rattle.std.specs.Vec.Iter.{into_iter_items, into_iter_len}
use Rattle.gdag.specs.Insert.{Inserts}
use Rattle.gdag.proofs.graph.Graph.insert_all.Given as goal

abbrev pub invariant-loop-entry : goal.invariant-loop-entry
invariant-loop-entry g l =
    (l.self.format ≡ l.initial.self.format)
    × Inserts l.initial.self.format l.initial.self.entries l.yielded l.self.entries
    × (l.yielded ++ into_iter_items l.entry-iterator ≡ into_iter_items l.initial.entry-iterator)
    × (into_iter_len l.entry-iterator ≡ length (into_iter_items l.entry-iterator))
