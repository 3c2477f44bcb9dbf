use Rattle.std.proofs.Common.{◌∙◌}
use Rattle.gwalk.proofs.sending.send_list_tags.Goals as goal

pub returns-clause-answer : goal.returns-clause-answer
returns-clause-answer g c =
    let tips = c.as_slice.ensures.value ∙ c.in_ok-tips.ensures in
    rw tips at c.in_ok-list_to_send.ensures.list

pub returns-clause-entries : goal.returns-clause-entries
returns-clause-entries g c =
    (c.sent_are_entries.ensures c.args.graph.now c.in_ok-list_to_send.field-0.items c.args.wants.now c.args.commons.now _ c.in_ok-list_to_send.ensures.graph c.in_ok-list_to_send.ensures.list).0
