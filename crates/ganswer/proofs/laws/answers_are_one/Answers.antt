use Rattle.ganswer.proofs.AnswerLemmas.{answers_are_one}
use Rattle.ganswer.proofs.BoundedPacks.{bounded}
use Rattle.ganswer.proofs.laws.answers_are_one.Goals as goal

pub returns : goal.returns
returns g c =
    answers_are_one c.one_list_to_send.ensures c.sent_are_entries.ensures _ _ _ _ _ (bounded c.loses_nothing.ensures) c.peels_to_one.ensures
