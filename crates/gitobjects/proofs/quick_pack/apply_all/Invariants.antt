use Rattle.std.proofs.Common.{length}
use Rattle.gitobjects.proofs.quick_pack.apply_all.Given as goal

abbrev pub decreases-loop-delta : goal.decreases-loop-delta
decreases-loop-delta g l = length l.deltas.items
