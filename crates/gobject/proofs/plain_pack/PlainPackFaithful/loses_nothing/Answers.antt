use Rattle.gobject.proofs.PlainPackLaw.{loses_nothing}
use Rattle.gobject.proofs.plain_pack.PlainPackFaithful.loses_nothing.Goals as goal

pub returns : goal.returns
returns g c = loses_nothing c.ids_have_texts.ensures c.id_texts_are_digits.ensures c.texts_spell_one_id.ensures g.row.A.Denot
