use Rattle.gobject.specs.Packs.{MayPack}
use Rattle.ganswer.proofs.FitLemmas.{fetch_answers_fit}
use Rattle.ganswer.proofs.laws.fetch_answers_fit.Goals as goal

pub returns : goal.returns
returns g c = λ packer. fetch_answers_fit c.positions_are_nodes.ensures (MayPack (g.K.Packer.packs packer))
