use Rattle.std.proofs.Common.{◌+◌, ◌++◌, ◌∷◌, ◌∙◌, ap, sym, codes, map, drop}
use Rattle.ggrammar.specs.Texts.{text_packet}
use Rattle.grequest.specs.RequestWriting.{prefix_packet}
use Rattle.grequest.proofs.WriteLemmas.{coming_next}
use Rattle.grequest.proofs.write.write_prefixes.Goals as goal

pub returns-in_err-write_text : goal.returns-in_err-write_text
returns-in_err-write_text g c =
    let next = (coming_next prefix_packet c.args.prefixes.now c.loop-prefix.prefix-index c.prefix-item.result c.loop-prefix-test.true c.prefix-item.is ∙ ap (λ text. text_packet (codes "ref-prefix " ++ text) ∷ map prefix_packet (drop (c.loop-prefix.prefix-index + 1) c.args.prefixes.now)) (sym c.as_bytes.ensures.bytes)) in
    c.writes_packets.ensures.part _ _ _ _ (c.writes_packets.ensures.fails _ _ _ _ _ _ _ _ _ c.loop-prefix.invariant next c.in_err-write_text.ensures c.from_residual.ensures.1)

pub loop-prefix-preserved : goal.loop-prefix-preserved
loop-prefix-preserved g c =
    let next = (coming_next prefix_packet c.args.prefixes.now c.loop-prefix.prefix-index c.prefix-item.result c.loop-prefix-test.true c.prefix-item.is ∙ ap (λ text. text_packet (codes "ref-prefix " ++ text) ∷ map prefix_packet (drop (c.loop-prefix.prefix-index + 1) c.args.prefixes.now)) (sym c.as_bytes.ensures.bytes)) in
    c.writes_packets.ensures.goes_on _ _ _ _ _ _ _ c.loop-prefix.invariant next c.in_ok-write_text.ensures
