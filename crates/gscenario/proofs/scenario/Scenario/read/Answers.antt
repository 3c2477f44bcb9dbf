use Rattle.std.proofs.Common.{sym}
use Rattle.std.proofs.lemmas.Result.{err_from_is_err_and}
use Rattle.gobject.proofs.PlainPackFeed.{nil-of_empty}
use Rattle.gscenario.proofs.LineLemmas.{all_read, goes_on, reads_no_line, stops_at, takes_memory}
use Rattle.gscenario.proofs.scenario.Scenario.read.Goals as goal

pub loop-pair-init : goal.loop-pair-init
loop-pair-init g c = rw c.new-events.ensures.items (reads_no_line c.args.text.now)

pub returns-in_err-event : goal.returns-in_err-event
returns-in_err-event g c =
    let p = err_from_is_err_and c.from_residual.result c.from_residual.ensures.1 in
    rw (p.1, p.2) (takes_memory _ _ _ _ _ _ c.loop-pair.invariant c.in-Some.ensures c.in_err-event.ensures)

pub returns-in-None : goal.returns-in-None
returns-in-None g c =
    stops_at _ _ _ _ _ _ c.loop-pair.invariant c.in-Some.ensures _ c.in-None.is c.in_ok-event.ensures

pub loop-pair-preserved : goal.loop-pair-preserved
loop-pair-preserved g c =
    goes_on _ _ _ _ _ _ c.loop-pair.invariant c.in-Some.ensures _ _ _ c.in-Some-2.is c.in_ok-event.ensures
    c.in_ok-keep-in-Some-2.ensures

pub returns-then-is_empty : goal.returns-then-is_empty
returns-then-is_empty g c =
    all_read c.args.text.now c.loop-pair.rest.now c.loop-pair.events.items c.loop-pair.number c.loop-pair.invariant
    (nil-of_empty c.loop-pair.rest.now (sym c.if-is_empty.ensures))
