use Rattle.ggraph.proofs.SaveLemmas.{other_in_head_result, other_in_refs}
use Rattle.ggraph.proofs.text.saving.other_id.Goals as goal

pub returns-in-Some : goal.returns-in-Some
returns-in-Some g c = other_in_refs c.args.format c.args.refs.now c.args.head.now c.in-Some.id c.in-Some.ensures

pub returns-in-None : goal.returns-in-None
returns-in-None g c = other_in_head_result c.args.format c.args.refs.now c.args.head.now c.other_head.result c.in-None.ensures c.other_head.ensures
