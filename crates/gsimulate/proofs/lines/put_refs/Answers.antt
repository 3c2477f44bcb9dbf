use Rattle.std.proofs.Common.{◌<◌, length, arith}
use Rattle.gsimulate.specs.Lines.{ref_line}
use Rattle.gsimulate.proofs.LineLemmas.{lines_more}
use Rattle.gsimulate.proofs.lines.put_refs.Goals as goal

pub loop-reference-preserved : goal.loop-reference-preserved
loop-reference-preserved g c =
    let inside : c.loop-reference.reference-index < length c.args.refs.now = omega arith in
    lines_more ref_line c.args.refs.now c.loop-reference.reference-index c.reference-item.result c.args.text.now.items
    c.loop-reference.text.items c.put_ref.new.text.items inside c.reference-item.is c.loop-reference.invariant c.in_ok-put_ref.ensures
