use Rattle.std.proofs.Common.{◌≤◌, ◌<◌, length, rules, sym}
use Rattle.std.proofs.lemmas.Option.{get_or_from_slice_get}
use Rattle.gsimulate.specs.Lines.{outcome_line}
use Rattle.gsimulate.proofs.LineLemmas.{lines_all, lines_more}
use Rattle.gsimulate.proofs.lines.put_outcomes.Goals as goal

pub loop-index-preserved : goal.loop-index-preserved
loop-index-preserved g c =
    let inside : c.loop-index.index < length c.args.outcomes.now = search rules in
    let outcome = c.outcome_at.result in
    lines_more outcome_line c.args.outcomes.now c.loop-index.index outcome c.args.text.now.items c.loop-index.text.items
    c.put_line.new.text.items inside (sym (get_or_from_slice_get c.args.outcomes.now c.loop-index.index outcome outcome c.outcome_at.ensures))
    c.loop-index.invariant c.in_ok-put_line.ensures

pub returns : goal.returns
returns g c =
    let past : length c.args.outcomes.now ≤ c.loop-index.index = search rules in
    lines_all outcome_line c.args.outcomes.now c.loop-index.index c.args.text.now.items c.loop-index.text.items past c.loop-index.invariant
