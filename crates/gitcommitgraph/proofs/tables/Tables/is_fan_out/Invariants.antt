use Rattle.std.proofs.Common.{◌≡◌, ℕ, ◌<◌, List, slice_index_or, count_by}
use Rattle.gitcommitgraph.specs.Files.{number}
use Rattle.gitcommitgraph.specs.Texts.{begins_within}
use Rattle.gitcommitgraph.proofs.tables.Tables.is_fan_out.Given as goal

abbrev pub invariant-loop-byte : goal.invariant-loop-byte
invariant-loop-byte l =
    (b : ℕ) (d : List ℕ) → b < l.byte → number (slice_index_or l.self.fan_out.now b d) ≡ count_by (begins_within b) l.self.ids.now
