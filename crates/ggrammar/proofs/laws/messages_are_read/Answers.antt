use Rattle.ggrammar.proofs.BytesLemmas.{LawsOfBytes-always}
use Rattle.ggrammar.proofs.laws.messages_are_read.Goals as goal

pub returns : goal.returns
returns c =
    LawsOfBytes-always c.one_begins.ensures c.one_reading.ensures c.refused_front.ensures.no_packet c.has_four_bytes.ensures
    c.one_outcome.ensures c.every_front.ensures
