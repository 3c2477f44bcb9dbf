use Rattle.std.proofs.Common.{[], Some, append-nil, arith, subst, sym}
use Rattle.gtalk.specs.Partial.{IsStopped}
use Rattle.gtalk.proofs.Moves.{ended_well, kept_end, stops_goes}
use Rattle.gtalk.proofs.connection.Connection.receive_end.Goals as goal

pub returns-clause-goes : goal.returns-clause-goes
returns-clause-goes g c =
    stops_goes g.C.Conversation.holds g.C.Conversation.turn c.args.self.now c.stop.new.self _ [] c.args.self.now.incoming _ c.requires.goes_on
    (λ part. subst (IsStopped (Some c.end-why.result)) (sym (append-nil c.args.self.now.incoming.bytes)) (c.end-why.ensures.stopped part)) (kept_end c.end-why.result c.args.self.now.incoming.bytes c.end-why.ensures.end) c.stop.ensures.stopped (omega arith) (λ enough. ended_well c.end-why.result c.end-why.ensures.end)
