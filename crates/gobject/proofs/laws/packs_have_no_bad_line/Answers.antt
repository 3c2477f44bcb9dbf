use Rattle.gobject.proofs.PlainPackLaw.{packs_have_no_bad_line}
use Rattle.gobject.proofs.laws.packs_have_no_bad_line.Goals as goal

pub returns : goal.returns
returns g c = λ bytes list at. packs_have_no_bad_line c.id_texts_are_digits.ensures c.texts_spell_one_id.ensures bytes at list
