-- A served connection of the `git://` transport, with its first line (gitprotocol-pack(5), "Git Transport").
use Rattle.std.specs.Prelude.{◌≡◌, ◌≢◌, false, List, codes, Option, Result, Ok, Err}
use Rattle.gpkt.specs.Devices.{KeepsPassed}
use Rattle.gpkt.specs.PacketReading.{ReadsPackets}
use Rattle.gpkt.specs.Packets.{Bytes, Packet, canonical_all}
use Rattle.gpkt.specs.Sending.{Input, Output, IsUp, Passes, SendsSome}
use Rattle.ggrammar.specs.MessageReading.{IsReadFailure, ReadsRefused}
use Rattle.ggrammar.specs.declared.ends.Ends.{Ends}
use Rattle.ggrammar.specs.declared.fault.MessageFault.{MessageFault}
use Rattle.ghello.specs.Hello.{Hello, Says, brings, judge}
use Rattle.gobject.specs.Packs.{PackFails, Packs}
use Rattle.ganswer.specs.Servers.{Server}
use Rattle.ganswer.specs.declared.fault.ServeFault.{ServeFault}
use Rattle.ganswer.specs.declared.fault.ServeFault.TheVariants as serve
use Rattle.ganswer.specs.declared.one_pack.Packing.{Packing}
use Rattle.ganswer.specs.declared.one_pack.Packing.TheVariants.{Unasked}
use Rattle.gserver.specs.Conversations.{Serves}
use Rattle.gserver.specs.ErrTexts.{error_packets}
use Rattle.gserver.specs.Exchanges.{LacksBuffer}
use Rattle.gserver.specs.Packings.{ReportsLastPacking}
use Rattle.gserver.specs.Refusals.{err_packets}
use Rattle.gserver.specs.declared.git_transport.GitEnd.{GitEnd}
use Rattle.gserver.specs.declared.git_transport.GitEnd.TheVariants as git

-- ---- the first line

-- the first line is read, and nothing after it
pub record ReadsHello (input : Input) (hello : Hello) : Type 0 where
  pub packets : List Packet
  pub lines : ReadsPackets input.read packets
  pub says : Says packets hello
  pub up : IsUp input

-- the first line is refused while it is read; the fault is an error of the source exactly if the source has failed
pub record RefusesHello (input : Input) (cause : MessageFault) : Type 0 where
  pub front : List Packet
  pub refused : ReadsRefused judge brings front input.read cause
  pub source : IsReadFailure false input.is_down cause.why

-- the result of reading the first line
abbrev pub Hears : Input → Result Hello ServeFault → Type 0
Hears input (Ok hello) = ReadsHello input hello
Hears input (Err (serve.Request cause)) = RefusesHello input cause
Hears input (Err fault) = LacksBuffer input fault

-- the client requests this path
abbrev pub AsksFor : Bytes → Input → Type 0
AsksFor path input = (hello : Hello) × ReadsHello input hello × (hello.path ≡ path)

abbrev pub AsksForAnother : Bytes → Input → Type 0
AsksForAnother path input = (hello : Hello) × ReadsHello input hello × (hello.path ≢ path)

-- ---- a packet instead of the advertisement

-- the packet that the server sends to a client that requests another path
abbrev pub elsewhere_packets : List Packet
elsewhere_packets = error_packets (codes "upload-pack: no such repository")

-- the error packet in place of the advertisement, if the client requests another path or its first line is refused
pub data IsDueInstead (path : Bytes) (input : Input) : List Packet → Type 0 where
  elsewhere : AsksForAnother path input → IsDueInstead path input elsewhere_packets
  refusal : (fault : ServeFault) → Hears input (Err fault) → IsDueInstead path input (err_packets fault)

-- ---- the whole connection

-- the part of the input up to the point where the unread bytes are `between`; the source has not failed at this point
abbrev pub head_of : Input → Option Bytes → Input
head_of input between = record {
  read = record { old = input.read.old; new = between };
  was_down = input.was_down;
  is_down = false;
}

-- the part of the input after the point where the unread bytes are `between`
abbrev pub tail_of : Input → Option Bytes → Input
tail_of input between = record {
  read = record { old = between; new = input.read.new };
  was_down = false;
  is_down = input.is_down;
}

module _ {A : Type 0} (server : Server A) (packs : Packs A) (fails : PackFails A) (path : Bytes) (ends : Ends) where
  -- the relation between the input, the output and the end of a connection
  abbrev pub ServesGit : Input → Output → GitEnd → Type 0
  ServesGit input output (git.Served served) =
      (between : Option Bytes) × AsksFor path (head_of input between)
      × Serves server packs fails ends (tail_of input between) output served.requests served.end
  ServesGit input output git.Elsewhere = AsksForAnother path input × Passes output (canonical_all elsewhere_packets)
  ServesGit input output (git.Refused fault) =
      Hears input (Err fault) × Passes output (canonical_all (err_packets fault))
  ServesGit input output git.WriteFailed =
      (due : List Packet) × IsDueInstead path input due × SendsSome output (canonical_all due)
      × KeepsPassed output.passed_on

-- the last result of the packer; the packer is used only if the client requests the served path
abbrev pub ReportsGitPacking : GitEnd → Packing → Type 0
ReportsGitPacking (git.Served served) answered = ReportsLastPacking served.end answered
ReportsGitPacking _ answered = answered ≡ Unasked
