use Rattle.std.proofs.Common.{length}
use Rattle.gitobjects.proofs.reader.ObjectReader.apply_all.Given as goal

abbrev pub decreases-loop-start : goal.decreases-loop-start
decreases-loop-start g l = length l.deltas.items
