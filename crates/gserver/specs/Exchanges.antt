-- One request and its reply: the packets that are read and written (gitprotocol-v2(5), "Command Request"). Requests
-- have the default limits.
use Rattle.std.specs.Prelude.{◌≡◌, ◌≢◌, ◌⊎◌, false, List, [], All, Ok, None, flat_map}
use Rattle.gname.specs.declared.formats.Format.{Format}
use Rattle.gpkt.specs.Sending.{Input, Output, IsUnread, IsUp, IsUnwritten, Passes, SendsSome}
use Rattle.gpkt.specs.Packets.{Packet, canonical_all}
use Rattle.gpkt.specs.declared.fault.PacketFault.TheVariants.{Memory as NoBuffer}
use Rattle.gpkt.specs.Change.{Change}
use Rattle.gpkt.specs.PacketReading.{Reads, ReadsPackets}
use Rattle.gpkt.specs.Devices.{KeepsPassed}
use Rattle.ggrammar.specs.Limits.{profile}
use Rattle.ggrammar.specs.MessageReading.{ReadsRefused, IsReadFailure}
use Rattle.ggrammar.specs.declared.ends.Ends.{Ends}
use Rattle.ggrammar.specs.declared.fault.MessageFault.{MessageFault}
use Rattle.ggrammar.specs.declared.fault.Why.TheVariants.{Ended as EndedEarly}
use Rattle.grequest.specs.Asked.{Asked, Empty, Fetches}
use Rattle.grequest.specs.Requests.{Says, brings, judge}
use Rattle.glsreply.specs.LsReplies.{canonical_reply as ls_packets}
use Rattle.gfetchreply.specs.FetchReplies.{canonical_reply as fetch_packets}
use Rattle.gobject.specs.Packs.{PackFails, Packs}
use Rattle.ganswer.specs.Answers.{Answers, FetchRefuses, Reply, Nothing, Ls, Fetch}
use Rattle.ganswer.specs.Servers.{Server}
use Rattle.ganswer.specs.declared.fault.ServeFault.{ServeFault}
use Rattle.ganswer.specs.declared.fault.ServeFault.TheVariants as serve
use Rattle.gserver.specs.Refusals.{err_packets}
use Rattle.gserver.specs.declared.serving.ExchangeEnd.{ExchangeEnd}
use Rattle.gserver.specs.declared.serving.ExchangeEnd.TheVariants as end

-- ---- a request that is answered

-- a request and its answer
pub record Turn : Type 0 where
  pub request : List Packet
  pub asked : Asked
  pub answer : Reply

-- the packets of an answer; the answer to the empty request has none
abbrev pub reply_packets : Ends → Reply → List Packet
reply_packets ends Nothing = []
reply_packets ends (Ls reply) = ls_packets ends reply
reply_packets ends (Fetch reply) = fetch_packets ends reply

module _ {A : Type 0} (server : Server A) (packs : Packs A) where
  -- the packets encode a request that is not empty, and the server may give this answer to it
  pub record IsTurn (turn : Turn) : Type 0 where
    pub says : Says profile server.graph.format turn.request turn.asked
    pub asks : turn.asked ≢ Empty
    pub answers : Answers server packs turn.asked turn.answer

  -- the server reads the requests of the turns, one after the other
  pub record ReadsTurns (read : Change) (turns : List Turn) : Type 0 where
    pub lines : ReadsPackets read (flat_map (λ turn. turn.request) turns)
    pub each : All IsTurn turns

  -- the server reads the request of the turn, and the source has not failed
  pub record ReadsTurn (input : Input) (turn : Turn) : Type 0 where
    pub lines : ReadsPackets input.read turn.request
    pub is_turn : IsTurn turn
    pub up : IsUp input

-- ---- no request

-- the server reads a lone flush packet, with which a client ends the conversation
pub record ReadsEmpty (format : Format) (input : Input) : Type 0 where
  pub packets : List Packet
  pub lines : ReadsPackets input.read packets
  pub says : Says profile format packets Empty
  pub up : IsUp input

-- the input ends before a request, and the source has not failed
pub record ReadsEnd (input : Input) : Type 0 where
  pub ended : Reads input.read (Ok None)
  pub up : IsUp input

-- ---- a request that is refused

-- The request is refused while it is read. The fault is an error of the source exactly if the source has failed. The
-- end of the input is a fault only after the first packet.
pub record RefusesToRead (format : Format) (input : Input) (cause : MessageFault) : Type 0 where
  pub front : List Packet
  pub refused : ReadsRefused (judge profile format) brings front input.read cause
  pub source : IsReadFailure false input.is_down cause.why
  pub begun : cause.why ≡ EndedEarly → cause.frame ≢ 0

-- The faults that can occur after a request is read. Only a fetch request can fail; the reply to an ls-refs request
-- needs no memory.
abbrev pub Declines : {A : Type 0} → Server A → PackFails A → Asked → ServeFault → Type 0
Declines server fails (Fetches asked) fault = FetchRefuses server fails asked fault
Declines server fails _ fault = ⊥

module _ {A : Type 0} (server : Server A) (fails : PackFails A) where
  -- the request is read, but the server refuses to answer it
  pub record RefusesToAnswer (input : Input) (fault : ServeFault) : Type 0 where
    pub packets : List Packet
    pub asked : Asked
    pub lines : ReadsPackets input.read packets
    pub says : Says profile server.graph.format packets asked
    pub declines : Declines server fails asked fault
    pub up : IsUp input

  -- the faults that can occur while a request is read or answered
  abbrev pub IsRefused : Input → ServeFault → Type 0
  IsRefused input (serve.Request cause) = RefusesToRead server.graph.format input cause
  IsRefused input fault = RefusesToAnswer input fault

-- ---- one request

module _ {A : Type 0} (server : Server A) (packs : Packs A) (fails : PackFails A) (ends : Ends) where
  -- the packets to write for a request: its reply, or the error packet of a refusal
  pub data IsDue (input : Input) : List Packet → Type 0 where
    reply : (turn : Turn) → ReadsTurn server packs input turn → IsDue input (reply_packets ends turn.answer)
    refusal : (fault : ServeFault) → IsRefused server fails input fault → IsDue input (err_packets fault)

  -- The relation between the input, the output and the end of an exchange. The reply or the error packet is written and
  -- flushed. If the sink fails, a prefix of the reply or of the error packet is written.
  abbrev pub Exchanges : Input → Output → ExchangeEnd → Type 0
  Exchanges input output end.Answered =
      (turn : Turn) × ReadsTurn server packs input turn
      × Passes output (canonical_all (reply_packets ends turn.answer))
  Exchanges input output end.Closed = ReadsEmpty server.graph.format input × IsUnwritten output
  Exchanges input output end.Ended = ReadsEnd input × IsUnwritten output
  Exchanges input output (end.Refused fault) =
      IsRefused server fails input fault × Passes output (canonical_all (err_packets fault))
  Exchanges input output end.WriteFailed =
      (due : List Packet) × IsDue input due × SendsSome output (canonical_all due) × KeepsPassed output.passed_on

-- ---- one request, with a new reader of the source

-- there is no memory for the reader's buffer, and nothing is read
abbrev pub LacksBuffer : Input → ServeFault → Type 0
LacksBuffer input (serve.Reader NoBuffer) = IsUnread input
LacksBuffer input _ = ⊥

-- there is no memory for the reader, and the server writes the error packet, or a prefix of it if the sink fails
abbrev pub RefusesAtOnce : Input → Output → ExchangeEnd → Type 0
RefusesAtOnce input output (end.Refused fault) =
    LacksBuffer input fault × Passes output (canonical_all (err_packets fault))
RefusesAtOnce input output end.WriteFailed = (fault : ServeFault) × LacksBuffer input fault
    × SendsSome output (canonical_all (err_packets fault)) × KeepsPassed output.passed_on
RefusesAtOnce input output _ = ⊥

-- the server reads one request and replies to it, or memory runs out at the start
abbrev pub ServesOne : {A : Type 0} → Server A → Packs A → PackFails A → Ends → Input → Output → ExchangeEnd → Type 0
ServesOne server packs fails ends input output ended =
    Exchanges server packs fails ends input output ended ⊎ RefusesAtOnce input output ended
