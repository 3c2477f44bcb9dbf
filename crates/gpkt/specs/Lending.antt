-- The state of a packet reader after the borrow of the returned packet has ended.
use Rattle.std.specs.Borrow.{Fml, RattleType, MutBor}
use Rattle.std.specs.Io.BufRead.{Rests}
use Rattle.std.specs.Prelude.{Bool, List, ℕ, Option, Result}
use Rattle.std.specs.declared.alloc.Allocator.{Ghosts}
use Rattle.gpkt.specs.PacketReading.{Reader, HasRead, read_of}
use Rattle.gpkt.specs.Packets.{Bytes}
use Rattle.gpkt.specs.contracts.reading.PacketReader.{the_row}
use Rattle.gpkt.specs.declared.fault.PacketFault.{PacketFault}
use Rattle.gpkt.specs.declared.packet.Packet.{Packet as LentPacket}

module _
    (S A : RattleType) (alloc : Ghosts A.Denot) (remaining_of : S.Denot → Option Bytes) (is_down : S.Denot → Bool)
    (loans_of : S.Denot → List ℕ)
  where
    abbrev pub LendsPacket : MutBor (Reader S.Denot) → Result (Option LentPacket) PacketFault → Fml
    LendsPacket reader result =
        Rests (the_row S A alloc) reader (λ new. HasRead remaining_of is_down loans_of reader.now new (read_of result))
