use Rattle.std.proofs.Common.{ap}
use Rattle.ganswer.specs.OnePack.{OnePack}
use Rattle.gserver.proofs.serving.serve.Goals as goal

pub returns-clause-packer : goal.returns-clause-packer
returns-clause-packer g c = ap (λ (p : OnePack g.row.K.Denot). p.packer) c.converse.ensures.packer
