use Rattle.gitrefs.proofs.TextLemmas.{read_back}
use Rattle.gitrefs.proofs.laws.written_refs_read_back.Goals as goal

pub returns : goal.returns
returns c = read_back c.ids_have_one_format.ensures c.ids_have_texts.ensures c.texts_have_one_reading.ensures c.names_are_clean.ensures
