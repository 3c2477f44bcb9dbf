use Rattle.std.proofs.Common.{[], ◌∷◌, map, codes, append_assoc, arith}
use Rattle.gpkt.specs.Packets.{Flush}
use Rattle.ggrammar.specs.Endings.{ends_with}
use Rattle.ggrammar.specs.Texts.{text_packet}
use Rattle.gfetchreply.specs.FetchReplies.{data_packet, pieces}
use Rattle.gfetchreply.proofs.WritingLemmas.{headed, heading_fails}
use Rattle.gfetchreply.proofs.write.write_pack.Goals as goal

pub returns-in_err-text : goal.returns-in_err-text
returns-in_err-text g c =
    heading_fails c.writes_packets.ensures (text_packet (codes "packfile")) _ c.in_err-text.ensures (omega arith)
    c.from_residual.ensures.1

pub returns-in_err-write_pieces : goal.returns-in_err-write_pieces
returns-in_err-write_pieces g c =
    let law = c.writes_packets.ensures in
    law.fails _ _ _ _ _ _ _ _ _ (headed law (text_packet (codes "packfile")) _ c.in_ok-text.ensures (omega arith))
    (append_assoc (map data_packet (pieces c.args.pack.now)) (Flush ∷ []) (ends_with c.args.ends))
    c.in_err-write_pieces.ensures c.from_residual-in_err-write_pieces.ensures.1

pub returns : goal.returns
returns g c =
    let law = c.writes_packets.ensures in
    law.ends _ _ _ _ _ _
    (law.after_part _ _ _ _ _ _ _ (headed law (text_packet (codes "packfile")) _ c.in_ok-text.ensures (omega arith))
    (append_assoc (map data_packet (pieces c.args.pack.now)) (Flush ∷ []) (ends_with c.args.ends))
    c.in_ok-write_pieces.ensures) c.write_end.ensures
