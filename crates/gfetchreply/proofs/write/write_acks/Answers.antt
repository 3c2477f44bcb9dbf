use Rattle.std.proofs.Common.{[], ◌∷◌, map, append_assoc, arith}
use Rattle.gpkt.specs.Packets.{Flush}
use Rattle.ggrammar.specs.Endings.{ends_with}
use Rattle.gfetchreply.specs.FetchReplies.{ack_packet, heading_packet, nak_if_none}
use Rattle.gfetchreply.proofs.WritingLemmas.{headed, heading_fails}
use Rattle.gfetchreply.proofs.write.write_acks.Goals as goal

pub returns-in_err-text : goal.returns-in_err-text
returns-in_err-text g c =
    heading_fails c.writes_packets.ensures heading_packet _ c.in_err-text.ensures (omega arith) c.from_residual.ensures.1

pub returns-in_err-write_ids_or_nak : goal.returns-in_err-write_ids_or_nak
returns-in_err-write_ids_or_nak g c =
    let law = c.writes_packets.ensures in
    law.fails _ _ _ _ _ _ _ _ _ (headed law heading_packet _ c.in_ok-text.ensures (omega arith))
    (append_assoc (nak_if_none (map ack_packet c.args.ids.now)) (Flush ∷ []) (ends_with c.args.ends))
    c.in_err-write_ids_or_nak.ensures c.from_residual-in_err-write_ids_or_nak.ensures.1

pub returns : goal.returns
returns g c =
    let law = c.writes_packets.ensures in
    law.ends _ _ _ _ _ _
    (law.after_part _ _ _ _ _ _ _ (headed law heading_packet _ c.in_ok-text.ensures (omega arith))
    (append_assoc (nak_if_none (map ack_packet c.args.ids.now)) (Flush ∷ []) (ends_with c.args.ends))
    c.in_ok-write_ids_or_nak.ensures) c.write_end.ensures
