use Rattle.gobject.specs.Packs.{MayPack}
use Rattle.gserve.proofs.TalkLemmas.{serving_is_talking}
use Rattle.gserve.proofs.laws.serving_is_talking.Goals as goal

pub returns : goal.returns
returns g c = λ packer. serving_is_talking (MayPack (g.K.Packer.packs packer)) (g.K.Packer.pack_fails packer)
