use Rattle.std.proofs.Common.{[], append-nil, arith, subst, sym}
use Rattle.gpkt.specs.PacketReading.{IsPartialPacket}
use Rattle.gtalk.specs.declared.conversation.Stop.TheVariants as stop
use Rattle.gtalk.proofs.Moves.{stops_goes}
use Rattle.gtalk.proofs.connection.Connection.receive_failure.Goals as goal

pub returns-clause-goes : goal.returns-clause-goes
returns-clause-goes g c =
    stops_goes g.C.Conversation.holds g.C.Conversation.turn c.args.self.now c.stop.new.self stop.Failed [] c.args.self.now.incoming _ c.requires.goes_on
    (λ part. subst IsPartialPacket (sym (append-nil c.args.self.now.incoming.bytes)) part) (sym (append-nil c.args.self.now.incoming.bytes)) c.stop.ensures.stopped (omega arith) (λ enough is. cc is)
