use Rattle.gtalk.proofs.Moves.{sends, sends_goes}
use Rattle.gtalk.proofs.connection.Connection.note_sent.Goals as goal

pub returns-clause-moves : goal.returns-clause-moves
returns-clause-moves g c = λ received sent h. sends g.C.Conversation.holds c.args.self.now c.args.count _ received sent h

pub returns-clause-goes : goal.returns-clause-goes
returns-clause-goes g c = sends_goes g.C.Conversation.holds g.C.Conversation.turn c.args.self.now c.args.count _
