use Rattle.std.proofs.Common.{All, take}
use Rattle.gname.specs.Ids.{IsIdOf}
use Rattle.ggraph.specs.Saving.{ref_ids}
use Rattle.ggraph.proofs.text.saving.other_ref.Given as goal

abbrev pub invariant-loop-pair : goal.invariant-loop-pair
invariant-loop-pair g l = All (IsIdOf l.fn.format) (ref_ids (take l.pair-index l.refs))
