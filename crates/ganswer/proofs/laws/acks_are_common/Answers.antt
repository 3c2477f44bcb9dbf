use Rattle.gobject.specs.Packs.{MayPack}
use Rattle.ganswer.proofs.LawLemmas.{acks_are_common}
use Rattle.ganswer.proofs.laws.acks_are_common.Goals as goal

pub returns : goal.returns
returns g c = λ packer. acks_are_common c.commons_are_held.ensures (MayPack (g.K.Packer.packs packer))
