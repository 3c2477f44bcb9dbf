-- Writing the packets of a message, one after another.
use Rattle.std.specs.Prelude.{◌≡◌, ◌≢◌, ℕ, ◌<◌, ◌↔◌, Bool, false, List, [], ◌∷◌, ◌++◌, length, Option, Result, Ok, Err}
use Rattle.std.specs.Prelude.{IfErr, IsErrAnd, IsErrOf}
use Rattle.gpkt.specs.Packets.{Bytes, Packet, canonical, canonical_all, max_payload, payload_of}
use Rattle.gpkt.specs.Laws.{Fits}
use Rattle.gpkt.specs.PacketWriting.{Writer, HasWritten}
use Rattle.gpkt.specs.declared.fault.WriteFault.{WriteFault}
use Rattle.gpkt.specs.declared.fault.WriteFault.TheVariants.{Payload}

module _
    {W : Type 0} (contents_of passed_on_of : W → Option Bytes) (is_down : W → Bool)
    (loans_of : W → List ℕ)
  where
    -- the effect of one call that writes these packets, none of which is too long
    pub record WritesPackets (old new : Writer W) (result : Result Unit WriteFault) (lines : List Packet) : Type 0 where
      pub written : HasWritten contents_of passed_on_of is_down loans_of old new result (canonical_all lines)
      pub fits : IfErr result (λ fault. fault ≢ Payload)

    -- The first packets of `lines` were written, and the packets of `coming` remain. A call that writes `coming`
    -- followed by more packets completes a write of `lines` followed by the same packets.
    pub record IsWriting (start now : Writer W) (lines coming : List Packet) : Type 0 where
      pub joins : (more : List Packet) (new : Writer W) (result : Result Unit WriteFault)
          → WritesPackets now new result (coming ++ more) → WritesPackets start new result (lines ++ more)

    -- the effect of one call that writes a part of a message; the part may have no packets
    abbrev pub WritesPart : Writer W → Writer W → Result Unit WriteFault → List Packet → Type 0
    WritesPart old new (Ok done) part = IsWriting old new part []
    WritesPart old new (Err fault) part = WritesPackets old new (Err fault) part

    -- ---- laws

    -- a call that does not fail with `Payload` writes its packet
    abbrev pub WritesPacket : Type 0
    WritesPacket =
        (old new : Writer W) (result : Result Unit WriteFault) (line : Packet)
        → HasWritten contents_of passed_on_of is_down loans_of old new result (canonical line)
        → IfErr result (λ fault. fault ≢ Payload) → WritesPackets old new result (line ∷ [])

    -- a call writes its packet if the packet is not too long
    abbrev pub WritesFitting : Type 0
    WritesFitting =
        (old new : Writer W) (result : Result Unit WriteFault) (line : Packet)
        → HasWritten contents_of passed_on_of is_down loans_of old new result (canonical line)
        → (IsErrOf result Payload ↔ ((old.failed ≡ false) × (max_payload < length (payload_of line)))) → Fits line
        → WritesPackets old new result (line ∷ [])

    -- a call that writes packets is also a call that writes a part of a message
    abbrev pub PacketsArePart : Type 0
    PacketsArePart =
        (old new : Writer W) (result : Result Unit WriteFault) (lines : List Packet)
        → WritesPackets old new result lines → WritesPart old new result lines

    -- before the first packet is written, all packets remain
    abbrev pub StartsWriting : Type 0
    StartsWriting = (start : Writer W) (lines : List Packet) → IsWriting start start lines lines

    -- after some packets are written, the packets after them remain
    abbrev pub GoesOnWriting : Type 0
    GoesOnWriting =
        (start now next : Writer W) (lines coming front rest : List Packet) → IsWriting start now lines coming
        → coming ≡ front ++ rest → WritesPackets now next (Ok tt) front → IsWriting start next lines rest

    -- after a part is written, the packets after it remain
    abbrev pub GoesOnAfterPart : Type 0
    GoesOnAfterPart =
        (start now next : Writer W) (lines coming part rest : List Packet) → IsWriting start now lines coming
        → coming ≡ part ++ rest → WritesPart now next (Ok tt) part → IsWriting start next lines rest

    -- if writing some of the remaining packets fails, the write of all packets fails with the same fault
    abbrev pub FailsWriting : Type 0
    FailsWriting =
        (start now new : Writer W) (lines coming front rest : List Packet) (fault : WriteFault)
        (result : Result Unit WriteFault) → IsWriting start now lines coming → coming ≡ front ++ rest
        → WritesPackets now new (Err fault) front → IsErrAnd result (λ other. other ≡ fault)
        → WritesPackets start new result lines

    -- a call that writes the remaining packets completes the write of all packets
    abbrev pub EndsWriting : Type 0
    EndsWriting =
        (start now new : Writer W) (lines coming : List Packet) (result : Result Unit WriteFault)
        → IsWriting start now lines coming → WritesPackets now new result coming → WritesPackets start new result lines
