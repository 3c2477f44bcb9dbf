use Rattle.gtalk.proofs.Moves.{no_move}
use Rattle.gevents.proofs.Counting.{none_counted}
use Rattle.gevents.proofs.moving.write_some.Goals as goal

pub returns-in-Err-clause-sends : goal.returns-in-Err-clause-sends
returns-in-Err-clause-sends g c =
    none_counted g.C.Conversation.holds c.args.connection.now _ _ (no_move g.C.Conversation.holds c.args.connection.now) c.in-Err.ensures.bytes
