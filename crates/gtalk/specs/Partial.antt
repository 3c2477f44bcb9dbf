-- A packet that has arrived only in part (gitprotocol-common(5), "pkt-line Format").
use Rattle.std.specs.Prelude.{◌≡◌, ℕ, Bool, true, false, ◌+◌, ◌≤◌, ◌⊎◌, ◌++◌}
use Rattle.std.specs.Prelude.{[], length, Option, Some, None, Result, Ok, Err}
use Rattle.std.specs.Io.KnownBytes.{IsAtEnd}
use Rattle.gpkt.specs.Change.{Change, WhereKnown}
use Rattle.gpkt.specs.Packets.{Bytes, Packet, Spells, digit_count, max_packet}
use Rattle.gpkt.specs.PacketReading.{AnnouncesAtFront, IsPartialPacket, NoPacket}
use Rattle.gpkt.specs.declared.fault.PacketFault.{PacketFault}
use Rattle.gpkt.specs.declared.fault.PacketFault.TheVariants.{Truncated, Memory}
use Rattle.gtalk.specs.declared.conversation.Stop.{Stop}
use Rattle.gtalk.specs.declared.conversation.Stop.TheVariants as stop

-- the buffer for the bytes of one packet: the received bytes, and the capacity of the buffer
pub record Buffered : Type 0 where
  pub bytes : Bytes
  pub room : ℕ

-- the bytes do not go beyond the four digits, or beyond the packet that the digits announce
abbrev pub IsWithinPacket : Bytes → Type 0
IsWithinPacket bytes =
    (length bytes ≤ digit_count)
    ⊎ ((announced : ℕ) × AnnouncesAtFront bytes announced × (length bytes ≤ announced) × (announced ≤ max_packet))

-- up to `missing` more bytes do not go beyond the digits, or beyond the packet that the digits announce
pub record Lacks (bytes : Bytes) (missing : ℕ) : Type 0 where
  pub within : (more : Bytes) → length more ≤ missing → IsWithinPacket (bytes ++ more)
  pub room : length bytes + missing ≤ max_packet

-- the result of decoding the bytes: a complete packet, `None` for an incomplete packet, or the reason why the bytes are
-- not a packet
abbrev pub IsFound : Bytes → Result (Option Packet) PacketFault → Type 0
IsFound bytes (Ok (Some packet)) = Spells packet bytes
IsFound bytes (Ok None) = IsPartialPacket bytes
IsFound bytes (Err fault) = NoPacket fault bytes

-- the bytes after the last packet match the reason why no more packets arrive; if an allocation failed, these bytes may
-- be a whole packet
abbrev pub IsStopped : Option Stop → Bytes → Type 0
IsStopped None partial = IsPartialPacket partial
IsStopped (Some stop.Ended) partial = partial ≡ []
IsStopped (Some (stop.Refused Memory)) partial = IsWithinPacket partial
IsStopped (Some (stop.Refused fault)) partial = NoPacket fault partial
IsStopped (Some stop.Failed) partial = IsPartialPacket partial

-- the received bytes are stored, unless there was no memory for them
abbrev pub IsKept : Option Stop → Bytes → Bytes → Type 0
IsKept (Some (stop.Refused Memory)) partial kept = Unit {0}
IsKept stopped partial kept = kept ≡ partial

-- while more packets may arrive, the stored bytes are an incomplete packet
abbrev pub IsPartial : Option Stop → Bytes → Type 0
IsPartial None kept = IsPartialPacket kept
IsPartial (Some why) kept = Unit {0}

-- if no more packets arrive, the reason is that received bytes were refused, not that the input ended
abbrev pub IsByBytes : Option Stop → Type 0
IsByBytes None = Unit {0}
IsByBytes (Some (stop.Refused Truncated)) = ⊥
IsByBytes (Some (stop.Refused fault)) = Unit {0}
IsByBytes (Some why) = ⊥

-- no more packets arrive because the input has ended
abbrev pub IsByEnd : Option Stop → Type 0
IsByEnd (Some stop.Ended) = Unit {0}
IsByEnd (Some (stop.Refused Truncated)) = Unit {0}
IsByEnd other = ⊥

-- The unread bytes of the source and whether the source has failed, for each reason why no more packets arrive. The
-- source is at its end after `Ended` and `Truncated`. The source has failed after `Failed`, and only then.
abbrev pub LeavesSource : Option Stop → Option Bytes → Bool → Type 0
LeavesSource None remaining down = down ≡ false
LeavesSource (Some stop.Ended) remaining down = IsAtEnd remaining × (down ≡ false)
LeavesSource (Some (stop.Refused Truncated)) remaining down = IsAtEnd remaining × (down ≡ false)
LeavesSource (Some (stop.Refused fault)) remaining down = down ≡ false
LeavesSource (Some stop.Failed) remaining down = down ≡ true

-- at most `limit` bytes are read, if the unread bytes are known
abbrev pub ReadsFew : ℕ → Change → Type 0
ReadsFew limit read = WhereKnown read (λ old new. length old ≤ limit + length new)
