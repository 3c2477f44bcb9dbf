use Rattle.std.proofs.Common.{refl}
use Rattle.gtalk.proofs.Moves.{begun}
use Rattle.gtalk.proofs.connection.Connection.with_room.Goals as goal

pub returns-clause-begins : goal.returns-clause-begins
returns-clause-begins g c = begun g.C.Conversation.holds _ refl c.args.room.nothing c.args.room.unsent
