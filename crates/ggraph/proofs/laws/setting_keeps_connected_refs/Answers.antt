use Rattle.ggraph.proofs.ConnectedRefsLemmas.{setting_keeps_connected_refs}
use Rattle.ggraph.proofs.laws.setting_keeps_connected_refs.Goals as goal

pub returns : goal.returns
returns g c = setting_keeps_connected_refs
