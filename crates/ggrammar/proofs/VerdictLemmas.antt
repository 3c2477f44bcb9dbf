-- Verdicts: packets are rejected only because of their content, and an error of the peer takes precedence.
use Rattle.std.proofs.Common.{◌≡◌, ℕ, Bool, true, false, cond, List, Option, Some, None, refl, ap}
use Rattle.gpkt.specs.Packets.{Packet, Data}
use Rattle.ggrammar.specs.Endings.{after_flush}
use Rattle.ggrammar.specs.Grammar.{Verdict, Open, Whole, Refused, if_room}
use Rattle.ggrammar.specs.MessageBytes.{IsForPacket}
use Rattle.ggrammar.specs.MessageReading.{IsAccepted}
use Rattle.ggrammar.specs.PeerErrors.{peer_error, unless_error}
use Rattle.ggrammar.specs.declared.fault.Why.TheVariants.{Limit, UnexpectedFrame}

-- ---- rejection because of the content of a packet

pub of_test : (test : Bool) (one other : Verdict) → IsForPacket one → IsForPacket other
    → IsForPacket (cond test one other)
of_test true one other h k = h
of_test false one other h k = k

pub of_room : (test : Bool) → IsForPacket (if_room test)
of_room test = of_test test Open (Refused Limit) tt tt

pub past_error : (said : Option (List ℕ)) (verdict : Verdict) → IsForPacket verdict
    → IsForPacket (unless_error said verdict)
past_error (Some said) verdict h = tt
past_error None verdict h = h

-- a packet after the flush is rejected only because of its content
pub of_end : (packet : Packet) → IsForPacket (after_flush packet)
of_end (Data payload) = past_error (peer_error payload) (Refused UnexpectedFrame) tt
of_end _ = tt

-- ---- accepted packets

pub open_unless : (said : Option (List ℕ)) (verdict : Verdict) → unless_error said verdict ≡ Open → verdict ≡ Open
open_unless None verdict e = e
open_unless (Some said) verdict e = cc

pub whole_unless : (said : Option (List ℕ)) (verdict : Verdict) → unless_error said verdict ≡ Whole → verdict ≡ Whole
whole_unless None verdict e = e
whole_unless (Some said) verdict e = cc

pub accepted_unless : (said : Option (List ℕ)) (verdict : Verdict) → IsAccepted (unless_error said verdict)
    → IsAccepted verdict
accepted_unless None verdict h = h
accepted_unless (Some said) verdict h = absurd h

pub room_left : (room : Bool) → if_room room ≡ Open → room ≡ true
room_left true e = refl
room_left false e = cc

pub room_goes_on : (room : Bool) → room ≡ true → if_room room ≡ Open
room_goes_on room e = ap if_room e

-- the verdict on room for a packet never completes a message
pub room_not_whole : (room : Bool) → if_room room ≡ Whole → ⊥
room_not_whole true e = cc
room_not_whole false e = cc
