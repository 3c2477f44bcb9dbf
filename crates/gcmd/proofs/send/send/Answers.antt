use Rattle.gcmd.proofs.OutputLemmas.{SendsTo-flushed}
use Rattle.gcmd.proofs.send.send.Goals as goal

pub returns-in-Ok : goal.returns-in-Ok
returns-in-Ok g c =
    SendsTo-flushed g.W.Sink c.args.sink.now c.put.new.sink c.flush.new.self c.args.bytes.now c.flush.result c.in-Ok.ensures
    c.flush.ensures.bytes c.flush.ensures.passed_on c.flush.ensures.kept c.flush.ensures.down c.flush.ensures.loans
