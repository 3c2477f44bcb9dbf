use Rattle.std.proofs.Common.{length}
use Rattle.gitrepository.proofs.ref_tips.add_tags.Given as goal

abbrev pub decreases-loop-tag : goal.decreases-loop-tag
decreases-loop-tag g l = length l.tags.items
