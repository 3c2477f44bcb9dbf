use Rattle.std.proofs.lemmas.Result.{err_from_is_err_and}
use Rattle.gcmd.proofs.LinesLemmas.{IsPutting-none, IsPutting-next, IsPutting-failed}
use Rattle.gcmd.proofs.lines.put_digits.Goals as goal

pub loop-rest-init : goal.loop-rest-init
loop-rest-init g c = IsPutting-none g.W.Sink c.args.output.now c.args.bytes.now

pub returns-in_err-put_chunk : goal.returns-in_err-put_chunk
returns-in_err-put_chunk g c =
    let p = err_from_is_err_and c.from_residual.result c.from_residual.ensures.1 in
    rw p.1
    (IsPutting-failed g.W.Sink c.args.output.now c.loop-rest.output c.put_chunk.new.output c.args.bytes.now c.loop-rest.rest.now
    c.min-count.result p.0 c.loop-rest.invariant c.in_err-put_chunk.ensures)

pub loop-rest-preserved : goal.loop-rest-preserved
loop-rest-preserved g c =
    IsPutting-next g.W.Sink c.args.output.now c.loop-rest.output c.put_chunk.new.output c.args.bytes.now c.loop-rest.rest.now
    c.min-count.result c.loop-rest.invariant c.in_ok-put_chunk.ensures
