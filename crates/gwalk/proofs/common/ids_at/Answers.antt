use Rattle.std.proofs.Common.{arith}
use Rattle.std.proofs.lemmas.Grind.{common_steps}
use Rattle.std.proofs.lemmas.List.Elements.{filter_map-append}
use Rattle.gwalk.proofs.common.ids_at.Goals as goal

pub loop-position-preserved : goal.loop-position-preserved
loop-position-preserved g c = grind (arith, common_steps, filter_map-append)
