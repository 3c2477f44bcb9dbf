use Rattle.ganswer.proofs.LawLemmas.{held_wants_are_served}
use Rattle.ganswer.proofs.laws.held_wants_are_served.Goals as goal

pub returns : goal.returns
returns g c = λ packer. held_wants_are_served c.sent_are_entries.ensures (g.K.Packer.pack_fails packer)
