use Rattle.std.proofs.Common.{[], ◌∷◌, map, Ok, Err, refl, append_assoc, arith}
use Rattle.gpkt.specs.Packets.{Delim}
use Rattle.gfetchreply.specs.FetchReplies.{ack_packet, heading_packet, ready_packet}
use Rattle.gfetchreply.proofs.WritingLemmas.{headed, heading_fails}
use Rattle.gfetchreply.proofs.write.write_ready.Goals as goal

pub returns-in_err-text : goal.returns-in_err-text
returns-in_err-text g c =
    heading_fails c.writes_packets.ensures heading_packet _ c.in_err-text.ensures (omega arith) c.from_residual.ensures.1

pub returns-in_err-write_ids : goal.returns-in_err-write_ids
returns-in_err-write_ids g c =
    let law = c.writes_packets.ensures in
    law.fails _ _ _ _ _ _ _ _ _ (headed law heading_packet _ c.in_ok-text.ensures (omega arith))
    (append_assoc (map ack_packet c.args.ids.now) _ _)
    c.in_err-write_ids.ensures c.from_residual-in_err-write_ids.ensures.1

pub returns-in_err-text-2 : goal.returns-in_err-text-2
returns-in_err-text-2 g c =
    let law = c.writes_packets.ensures in
    let ready = c.in_err-text-2.ensures in
    law.fails _ _ _ _ _ (ready_packet ∷ []) _ _ _
    (law.after_part _ _ _ _ _ _ _ (headed law heading_packet _ c.in_ok-text.ensures (omega arith))
    (append_assoc (map ack_packet c.args.ids.now) _ _)
    c.in_ok-write_ids.ensures) refl
    (law.fitting _ _ (Err _) ready_packet ready.written ready.too_long (omega arith))
    c.from_residual-in_err-text-2.ensures.1

pub returns-in_err-delim : goal.returns-in_err-delim
returns-in_err-delim g c =
    let law = c.writes_packets.ensures in
    let ready = c.in_ok-text-2.ensures in
    let delim = c.in_err-delim.ensures in
    law.fails _ _ _ _ _ (Delim ∷ []) _ _ _
    (law.goes_on _ _ _ _ _ (ready_packet ∷ []) _
    (law.after_part _ _ _ _ _ _ _ (headed law heading_packet _ c.in_ok-text.ensures (omega arith))
    (append_assoc (map ack_packet c.args.ids.now) _ _)
    c.in_ok-write_ids.ensures) refl
    (law.fitting _ _ (Ok tt) ready_packet ready.written ready.too_long (omega arith))) refl
    (law.line _ _ (Err _) Delim delim.written delim.fits) c.from_residual-in_err-delim.ensures.1

pub returns : goal.returns
returns g c =
    let law = c.writes_packets.ensures in
    let ready = c.in_ok-text-2.ensures in
    let delim = c.in_ok-delim.ensures in
    law.ends _ _ _ _ _ _
    (law.goes_on _ _ _ _ _ (Delim ∷ []) _
    (law.goes_on _ _ _ _ _ (ready_packet ∷ []) _
    (law.after_part _ _ _ _ _ _ _ (headed law heading_packet _ c.in_ok-text.ensures (omega arith))
    (append_assoc (map ack_packet c.args.ids.now) _ _)
    c.in_ok-write_ids.ensures) refl
    (law.fitting _ _ (Ok tt) ready_packet ready.written ready.too_long (omega arith))) refl
    (law.line _ _ (Ok tt) Delim delim.written delim.fits)) c.write_pack.ensures
