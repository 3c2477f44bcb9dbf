use Rattle.std.proofs.Common.{◌++◌, ◌<◌, List, ℕ, length, map, ap, ◌∙◌, arith}
use Rattle.gobject.specs.PlainPackText.{line, text_of}
use Rattle.ggraph.specs.RepositoryText.{ref_line}
use Rattle.ggraph.proofs.SaveLemmas.{lines_more, next_seen}
use Rattle.ggraph.proofs.text.saving.put_refs.Goals as goal

pub loop-pair-preserved : goal.loop-pair-preserved
loop-pair-preserved g c =
    let inside : c.loop-pair.pair-index < length c.args.refs.now = omega arith in
    let seen = next_seen c.args.refs.now c.loop-pair.pair-index c.pair-item.result inside c.pair-item.is in
    c.in_ok-put_ref.ensures
    ∙ ap (λ (t : List ℕ). t ++ line (ref_line c.pair-item.result)) c.loop-pair.invariant
    ∙ lines_more ref_line c.args.text.now.items _ c.pair-item.result
    ∙ ap (λ xs. c.args.text.now.items ++ text_of (map ref_line xs)) seen
