use Rattle.std.proofs.Common.{[], ◌∷◌, ◌++◌, map, sym, ◌∙◌}
use Rattle.std.proofs.lemmas.Bool.{false≢true}
use Rattle.gitrefs.specs.PackedRefs.{line_of}
use Rattle.gitrefs.specs.steps.Lines.{line_at}
use Rattle.gitrefs.proofs.PackedLemmas.{kept_more, lines_after, lines_end, lines_more, no_more}
use Rattle.gitrefs.proofs.packed.parse_lines.Goals as goal

pub returns-in_default : goal.returns-in_default
returns-in_default g c has =
    let rest = c.loop-rest.rest.now in
    let left = c.loop-rest.invariant.3 has.0 has.1 in
    no_more rest (λ over. false≢true (sym c.loop-rest-test.true ∙ c.is_over.ensures.1 over)) c.in_default.ensures.line left.0 left.1

pub loop-rest-preserved : goal.loop-rest-preserved
loop-rest-preserved g c =
    let inv = c.loop-rest.invariant in
    let text = c.args.text.now in let rest = c.loop-rest.rest.now in
    let after = c.in-Some.parts.1.now in let line = line_at c.in-Some.parts.0 in let begins = c.in-Some.ensures.line in (
      inv.0 ++ line ∷ [],
      kept_more inv.0 line (map line_of c.loop-rest.refs.items) (map line_of c.push_ref.new.refs.items) inv.1 c.in_default-push_ref.ensures,
      lines_more text rest after inv.0 line inv.2 begins,
      λ lines has. let left = inv.3 lines has in lines_after rest after line begins left.0 left.1,
    )

pub returns : goal.returns
returns g c =
    let inv = c.loop-rest.invariant in
    (inv.0, lines_end c.args.text.now c.loop-rest.rest.now inv.0 inv.2 (c.is_over.ensures.0 c.loop-rest-test.false), inv.1)
