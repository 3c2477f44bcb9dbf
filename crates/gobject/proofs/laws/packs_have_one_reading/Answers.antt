use Rattle.gobject.proofs.PlainPackLaw.{packs_have_one_reading}
use Rattle.gobject.proofs.laws.packs_have_one_reading.Goals as goal

pub returns : goal.returns
returns g c = λ bytes a b. packs_have_one_reading c.id_texts_are_digits.ensures c.texts_spell_one_id.ensures bytes a b
