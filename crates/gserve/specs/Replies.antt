-- Writing a reply of a server without a connection (gitprotocol-v2(5), "Command Request").
use Rattle.std.specs.Prelude.{◌≡◌, ℕ, Bool, List, Option, Result, Ok}
use Rattle.gpkt.specs.PacketWriting.{Writer}
use Rattle.gpkt.specs.declared.fault.WriteFault.{WriteFault}
use Rattle.gpkt.specs.Packets.{Bytes}
use Rattle.ggrammar.specs.Writing.{WritesPackets}
use Rattle.ggrammar.specs.declared.ends.Ends.{Ends}
use Rattle.ganswer.specs.Answers.{Reply, Nothing}
use Rattle.gserver.specs.Exchanges.{reply_packets}

module _
    {W : Type 0} (contents_of passed_on_of : W → Option Bytes) (is_down : W → Bool)
    (loans_of : W → List ℕ)
  where
    -- The effect of one call that writes the packets of a reply. The reply to a lone flush packet has no packets. For
    -- this reply the call does not change the writer.
    abbrev pub WritesReply : Ends → Reply → Writer W → Writer W → Result (Unit {0}) WriteFault → Type 0
    WritesReply ends Nothing old new result = (result ≡ Ok tt) × (new ≡ old)
    WritesReply ends reply old new result =
        WritesPackets contents_of passed_on_of is_down loans_of old new result (reply_packets ends reply)
