-- A dialogue that runs over a source and a sink, from its first message to its end.
use Rattle.std.specs.Prelude.{◌≡◌, ◌≢◌, ◌⊎◌, ◌<◌, Bool, false, List, [], ◌++◌, length, Option, Some, None}
use Rattle.std.specs.Io.KnownBytes.{Appends, Consumes}
use Rattle.gpkt.specs.Change.{Change}
use Rattle.gpkt.specs.Devices.{KeepsPassed}
use Rattle.gpkt.specs.Packets.{Bytes, Packet, canonical_all}
use Rattle.gpkt.specs.declared.fault.PacketFault.TheVariants as packet
use Rattle.ggrammar.specs.Grammar.{Judge}
use Rattle.ggrammar.specs.declared.fault.MessageFault.{MessageFault}
use Rattle.gtalk.specs.Connections.{HasSent, PassesBytes, Spelt}
use Rattle.gtalk.specs.Partial.{IsStopped, IsWithinPacket, LeavesSource}
use Rattle.gtalk.specs.declared.conversation.Stop.{Stop}
use Rattle.gtalk.specs.declared.conversation.Stop.TheVariants as stop
use Rattle.gtalk.specs.declared.fault.TalkFault.{TalkFault}
use Rattle.gtalk.specs.declared.fault.TalkFault.TheVariants.{Io, Memory}
use Rattle.gdialogue.specs.Dialogues.{HasReplied}

-- The bytes `partial` that were received after the last packet, and the source. `last` contains the unread bytes of the
-- source, if known, and `down` states whether the source has failed. Memory never ran out while packets were received.
pub record Leaves (stopped : Option Stop) (partial : Bytes) (last : Option Bytes) (down : Bool) : Type 0 where
  pub rest : IsStopped stopped partial
  pub within : IsWithinPacket partial
  pub clean : stopped ≡ None → partial ≡ []
  pub memory : stopped ≢ Some (stop.Refused packet.Memory)
  pub source : LeavesSource stopped last down

-- exactly the bytes `more` are read, which encode the received packets, followed by the bytes after the last packet
pub record Receives (heard : List Packet) (stopped : Option Stop) (read : Change) (down : Bool) : Type 0 where
  pub more : Bytes
  pub partial : Bytes
  pub consumed : Consumes read.old read.new more
  pub spelt : Spelt heard partial more
  pub leaves : Leaves stopped partial read.new down

module _ {S : Type 0} (judge : S → Judge) (brings : S → List Packet → Packet → Bool)
    (opens : S → List Packet → Bool → Type 0) (answers : S → List Packet → List Packet → Bool → S → Type 0)
    (refuses : S → MessageFault → List Packet → S → Type 0) where
  -- The dialogue has ended with the latest answer. All answers are written and flushed. If the answers contain no
  -- packet, the sink is unchanged.
  pub record HasRun (sent : Bool) (first now : S) (read written passed_on : Change) (source_down sink_down : Bool)
      (Untouched : Type 0) : Type 0 where
    pub heard : List Packet
    pub stopped : Option Stop
    pub earlier : List Packet
    pub reply : List Packet
    pub replied : HasReplied judge brings opens answers refuses first heard stopped earlier reply false now
    pub receives : Receives heard stopped read source_down
    pub wrote : Appends written.old written.new (canonical_all earlier ++ canonical_all reply)
    pub flushed : HasSent sent (canonical_all earlier ++ canonical_all reply) written passed_on sink_down Untouched

  -- The sink failed while the dialogue sent its latest answer, which has at least one packet. All earlier answers are
  -- flushed, and a prefix of the latest answer is written.
  pub record HasBroken (first now : S) (read written passed_on : Change) (source_down : Bool) : Type 0 where
    pub heard : List Packet
    pub stopped : Option Stop
    pub earlier : List Packet
    pub reply : List Packet
    pub goes : Bool
    pub replied : HasReplied judge brings opens answers refuses first heard stopped earlier reply goes now
    pub some : reply ≢ []
    pub receives : Receives heard stopped read source_down
    pub front : Bytes
    pub back : Bytes
    pub due : canonical_all reply ≡ front ++ back
    pub wrote : Appends written.old written.new (canonical_all earlier ++ front)
    pub passed : ((canonical_all earlier ≡ []) × KeepsPassed passed_on)
        ⊎ ((0 < length (canonical_all earlier)) × PassesBytes (canonical_all earlier) written passed_on)

  -- the effect of a fault; a dialogue with room never runs out of memory
  abbrev pub BreaksBy : TalkFault → S → S → Change → Change → Change → Bool → Type 0
  BreaksBy Io first now read written passed_on source_down = HasBroken first now read written passed_on source_down
  BreaksBy Memory first now read written passed_on source_down = ⊥
