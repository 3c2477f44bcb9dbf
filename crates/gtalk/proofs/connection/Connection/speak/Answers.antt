use Rattle.std.proofs.Common.{◌∙◌, refl, sym}
use Rattle.gtalk.proofs.Moves.{same_goes, speaks, speaks_goes}
use Rattle.gtalk.proofs.connection.Connection.speak.Goals as goal

pub returns-clause-moves : goal.returns-clause-moves
returns-clause-moves g c = λ received sent h.
    speaks g.C.Conversation.holds c.args.self.now c.say.new.self _ c.say.new.out received sent c.requires.all_sent c.say.ensures.said h

pub returns-clause-goes : goal.returns-clause-goes
returns-clause-goes g c =
    speaks_goes g.C.Conversation.holds g.C.Conversation.turn c.args.self.now c.say.new.self _ c.say.new.out c.requires.turn c.requires.all_sent c.say.ensures.said

pub returns-in-Err-clause-goes : goal.returns-in-Err-clause-goes
returns-in-Err-clause-goes g c = same_goes g.C.Conversation.holds g.C.Conversation.turn c.args.self.now _ refl refl refl (c.take.ensures.after ∙ sym c.in-None.is ∙ c.take.ensures.value) refl
