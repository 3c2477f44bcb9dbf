use Rattle.ggraph.proofs.TextLemmas.{no_id_more, no_id_front}
use Rattle.ggraph.proofs.text.lines.head_at.Goals as goal

pub returns-else-is_empty : goal.returns-else-is_empty
returns-else-is_empty g c =
    no_id_more c.text_laws.ensures c.args.format c.args.digits.now c.in-Some.found.0 c.in-Some.found.1.now c.in-Some.ensures.0 c.in-Some.ensures.1
    (λ none. (let empty = rw none at c.is_empty.ensures in cc))

pub returns-in-None : goal.returns-in-None
returns-in-None g c = no_id_front c.text_laws.ensures c.args.format c.args.digits.now c.in-None.ensures
