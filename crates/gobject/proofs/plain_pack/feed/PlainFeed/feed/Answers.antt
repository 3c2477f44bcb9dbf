use Rattle.std.proofs.lemmas.Result.{err_from_is_err_and}
use Rattle.gobject.specs.steps.PlainPackReading.{separator_byte}
use Rattle.gobject.proofs.PlainPackFeed.{fed_up_to_part, feeds_refused, feeds_rest}
use Rattle.gobject.proofs.plain_pack.feed.PlainFeed.feed.Goals as goal

pub returns-in_err-end_part : goal.returns-in_err-end_part
returns-in_err-end_part g c =
    let p = err_from_is_err_and c.from_residual.result c.from_residual.ensures.1 in
    rw (p.1, p.2) (feeds_refused c.args.self.now c.loop-text.self c.end_part.new.self c.args.piece.now c.loop-text.rest.now c.in-Some.text.now c.in-Some.after.now (separator_byte c.in-Some.separator) c.in_err-end_part.field-0.0 c.loop-text.invariant c.in-Some.ensures.whole c.in_err-end_part.ensures)

pub loop-text-preserved : goal.loop-text-preserved
loop-text-preserved g c =
    fed_up_to_part c.args.self.now c.loop-text.self c.end_part.new.self c.args.piece.now c.loop-text.rest.now c.in-Some.text.now c.in-Some.after.now (separator_byte c.in-Some.separator) tt c.loop-text.invariant c.in-Some.ensures.whole c.in_ok-end_part.ensures

pub returns : goal.returns
returns g c = feeds_rest c.args.self.now c.loop-text.self c.keep.new.self c.args.piece.now c.loop-text.rest.now c.keep.result c.loop-text.invariant c.keep.ensures
