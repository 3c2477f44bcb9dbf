use Rattle.std.proofs.Common.{◌≡◌, [], Bool, true, false, not, rules, refl}
use Rattle.std.proofs.lemmas.Result.{err_from_is_err_and}
use denote.Enum.Bare.{same_true}
use Rattle.ggraph.specs.contracts.text.reading.TextStage.{the_type}
use Rattle.ggraph.specs.declared.fault.LoadFault.TheVariants.{Text}
use Rattle.ggraph.specs.declared.text.reading.TextStage.TheVariants.{Done}
use Rattle.ggraph.proofs.text.loading.load.Goals.{then-not-is_empty-via-then-not-is_empty, then-not-is_empty-via-else-not-is_empty+then-ne}
use Rattle.ggraph.proofs.LoadLemmas.{progress_more, progress_done}
use Rattle.ggraph.proofs.Stopping.{accepts_err, accepts_ok, stops_early, stops_refused}
use Rattle.ggraph.proofs.WholeLemmas.{whole_read}
use Rattle.ggraph.proofs.text.loading.load.Given.{Over}
use Rattle.ggraph.proofs.text.loading.load.Goals as goal

not_false : (b : Bool) → false ≡ not b → b ≡ true
not_false true h = refl
not_false false h = cc

pub loop-pair-preserved : goal.loop-pair-preserved
loop-pair-preserved g c =
    progress_more c.args.order c.args.text.now c.loop-pair.rest.now c.in-Some.pair.0.now c.in-Some.pair.1.now c.loop-pair.reading c.take_line.new.self c.loop-pair.number c.loop-pair.invariant c.in-Some.ensures.0 c.in_ok-take_line.ensures.ok

pub returns-clause-ok : goal.returns-clause-ok
returns-clause-ok g c =
    let done : c.loop-pair.reading.stage ≡ Done = same_true the_type (search rules) _ _ (not_false _ c.if-ne.ensures) in
    let read = progress_done c.args.order c.args.text.now c.loop-pair.rest.now c.loop-pair.reading c.loop-pair.number c.loop-pair.invariant c.if-not-is_empty.ensures done in
    whole_read c.args.order c.args.text.now read.0 c.loop-pair.reading.graph c.loop-pair.reading.refs c.loop-pair.reading.head read.1

pub returns-clause-accepts : goal.returns-clause-accepts
returns-clause-accepts g c =
    let done : c.loop-pair.reading.stage ≡ Done = same_true the_type (search rules) _ _ (not_false _ c.if-ne.ensures) in
    let read = progress_done c.args.order c.args.text.now c.loop-pair.rest.now c.loop-pair.reading c.loop-pair.number c.loop-pair.invariant c.if-not-is_empty.ensures done in
    let whole = whole_read c.args.order c.args.text.now read.0 c.loop-pair.reading.graph c.loop-pair.reading.refs c.loop-pair.reading.head read.1 in
    accepts_ok c.text_laws.ensures c.args.order c.args.text.now (record { graph = c.loop-pair.reading.graph; refs = c.loop-pair.reading.refs; head = c.loop-pair.reading.head }) whole.0 whole.1

pub returns-in_err-take_line-clause-refused : goal.returns-in_err-take_line-clause-refused
returns-in_err-take_line-clause-refused g c =
    let p = err_from_is_err_and c.from_residual.result c.from_residual.ensures.1 in
    rw (p.1, p.2) (stops_refused c.text_laws.ensures c.args.order c.args.text.now c.loop-pair.rest.now c.in-Some.pair.0.now c.in-Some.pair.1.now c.loop-pair.reading c.loop-pair.number c.in_err-take_line.field-0.0 c.loop-pair.invariant c.in-Some.ensures.0 c.in-Some.ensures.1 c.in_err-take_line.ensures.refused)

pub returns-in_err-take_line-clause-accepts : goal.returns-in_err-take_line-clause-accepts
returns-in_err-take_line-clause-accepts g c =
    let p = err_from_is_err_and c.from_residual.result c.from_residual.ensures.1 in
    let stops = stops_refused c.text_laws.ensures c.args.order c.args.text.now c.loop-pair.rest.now c.in-Some.pair.0.now c.in-Some.pair.1.now c.loop-pair.reading c.loop-pair.number c.in_err-take_line.field-0.0 c.loop-pair.invariant c.in-Some.ensures.0 c.in-Some.ensures.1 c.in_err-take_line.ensures.refused in
    rw (p.1, p.2) (accepts_err c.text_laws.ensures c.args.order c.args.text.now c.in_err-take_line.field-0.0 stops)

early : (g : Over) (c : goal.Joined-reading-2 g) → c.loop-pair.rest.now ≡ [] → c.loop-pair.reading.stage ≡ Done → ⊥
early g c none done =
    elim c.then-not-is_empty.branch [ then-not-is_empty-via-then-not-is_empty w ↦ (let h = rw none at w.if-not-is_empty.ensures in cc) | then-not-is_empty-via-else-not-is_empty+then-ne w ↦ (let h = rw done at w.if-ne.ensures in cc) ]

pub returns-then-not-is_empty-clause-refused : goal.returns-then-not-is_empty-clause-refused
returns-then-not-is_empty-clause-refused g c =
    stops_early c.text_laws.ensures c.args.order c.args.text.now c.loop-pair.rest.now c.loop-pair.reading c.loop-pair.number c.loop-pair.invariant c.in_default.ensures (early g c)

pub returns-then-not-is_empty-clause-accepts : goal.returns-then-not-is_empty-clause-accepts
returns-then-not-is_empty-clause-accepts g c =
    accepts_err c.text_laws.ensures c.args.order c.args.text.now (Text c.loop-pair.number)
    (stops_early c.text_laws.ensures c.args.order c.args.text.now c.loop-pair.rest.now c.loop-pair.reading c.loop-pair.number c.loop-pair.invariant c.in_default.ensures (early g c))
