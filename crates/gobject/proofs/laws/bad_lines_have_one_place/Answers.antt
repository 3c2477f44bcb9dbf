use Rattle.gobject.proofs.PlainPackLaw.{bad_lines_have_one_place}
use Rattle.gobject.proofs.laws.bad_lines_have_one_place.Goals as goal

pub returns : goal.returns
returns g c = λ bytes a b. bad_lines_have_one_place c.id_texts_are_digits.ensures c.texts_spell_one_id.ensures bytes a b
