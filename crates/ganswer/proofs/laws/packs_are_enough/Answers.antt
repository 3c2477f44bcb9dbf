use Rattle.gobject.specs.Packs.{MayPack}
use Rattle.ganswer.proofs.LawLemmas.{packs_are_enough}
use Rattle.ganswer.proofs.laws.packs_are_enough.Goals as goal

pub returns : goal.returns
returns g c = λ packer. packs_are_enough c.commons_are_held.ensures c.sent_are_entries.ensures c.sending_is_enough.ensures (MayPack (g.K.Packer.packs packer))
