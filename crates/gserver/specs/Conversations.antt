-- A served connection: the bytes that the server reads and the replies that it writes (gitprotocol-v2(5), "Capability
-- Advertisement" and "Command Request").
use Rattle.std.specs.Prelude.{◌≡◌, ◌<◌, ◌⊎◌, ℕ, List, ◌++◌, length, Option, flat_map}
use Rattle.gname.specs.declared.formats.Format.{Format}
use Rattle.gpkt.specs.Sending.{Input, Output, IsUnread, IsUp, Passes, SendsAndFails, SendsSome, rest_of}
use Rattle.gpkt.specs.Packets.{Bytes, Packet, canonical_all}
use Rattle.gpkt.specs.Devices.{KeepsPassed}
use Rattle.ggrammar.specs.declared.ends.Ends.{Ends}
use Rattle.ghello.specs.Adverts.{canonical_advert}
use Rattle.gobject.specs.Packs.{PackFails, Packs}
use Rattle.ganswer.specs.Adverts.{advertisement}
use Rattle.ganswer.specs.Servers.{Server}
use Rattle.ganswer.specs.declared.fault.ServeFault.{ServeFault}
use Rattle.ganswer.specs.declared.fault.ServeFault.TheVariants as serve
use Rattle.gserver.specs.Exchanges.{Turn, IsDue, IsRefused, LacksBuffer, ReadsEmpty, ReadsEnd, ReadsTurns, reply_packets}
use Rattle.gserver.specs.Refusals.{err_packets}
use Rattle.gserver.specs.Serving.{max_requests}
use Rattle.gserver.specs.declared.serving.End.{End}
use Rattle.gserver.specs.declared.serving.End.TheVariants as end

-- the packets of the advertisement of a server with this object format
unfoldable pub advert_packets : Format → List Packet
advert_packets format = canonical_advert (advertisement format)

-- the packets of the advertisement, followed by the replies to the requests
unfoldable pub talk : Format → Ends → List Turn → List Packet
talk format ends turns = advert_packets format ++ flat_map (λ turn. reply_packets ends turn.answer) turns

abbrev pub talk_bytes : Format → Ends → List Turn → Bytes
talk_bytes format ends turns = canonical_all (talk format ends turns)

-- ---- before the first request

-- memory runs out at the start, and nothing is read
abbrev pub CannotBegin : Input → ServeFault → Type 0
CannotBegin input serve.Memory = IsUnread input
CannotBegin input fault = LacksBuffer input fault

-- the first message of a connection: the advertisement, or an error packet in its place
pub data IsDueFirst (format : Format) (input : Input) : List Packet → Type 0 where
  advert : IsUnread input → IsDueFirst format input (advert_packets format)
  refusal : (fault : ServeFault) → CannotBegin input fault → IsDueFirst format input (err_packets fault)

-- ---- the requests

-- the server reads and answers `requests` requests, and `Last` holds for the input after the last request
pub record Converses {A : Type 0} (server : Server A) (packs : Packs A) (input : Input) (requests : ℕ)
    (turns : List Turn) (Last : Input → Type 0) : Type 0 where
  pub between : Option Bytes
  pub read : ReadsTurns server packs (record { old = input.read.old; new = between }) turns
  pub count : requests ≡ length turns
  pub last : Last (rest_of input between)

-- the input ends, or the server has answered the maximum number of requests and reads nothing more
abbrev pub HasEnded : ℕ → Input → Type 0
HasEnded requests rest =
    ((requests < max_requests) × ReadsEnd rest)
    ⊎ ((requests ≡ max_requests) × (rest.read.new ≡ rest.read.old) × IsUp rest)

-- ---- the whole connection

module _ {A : Type 0} (server : Server A) (packs : Packs A) (fails : PackFails A) (ends : Ends) where
  -- The relation between the input, the output, the number of answered requests and the end of a connection. Unless the
  -- sink fails, all replies are written and flushed. If the sink fails, each counted reply was flushed, and a prefix of
  -- the next message was written.
  abbrev pub Serves : Input → Output → ℕ → End → Type 0
  Serves input output requests end.Closed =
      (turns : List Turn) × (requests < max_requests)
      × Converses server packs input requests turns (ReadsEmpty server.graph.format)
      × Passes output (talk_bytes server.graph.format ends turns)
  Serves input output requests end.Ended =
      (turns : List Turn) × Converses server packs input requests turns (HasEnded requests)
      × Passes output (talk_bytes server.graph.format ends turns)
  Serves input output requests (end.Refused fault) =
      ((turns : List Turn) × (requests < max_requests)
      × Converses server packs input requests turns (λ rest. IsRefused server fails rest fault)
      × Passes output (talk_bytes server.graph.format ends turns ++ canonical_all (err_packets fault)))
      ⊎ ((requests ≡ 0) × CannotBegin input fault × Passes output (canonical_all (err_packets fault)))
  Serves input output requests end.WriteFailed =
      ((turns : List Turn) × (due : List Packet) × (requests < max_requests)
      × Converses server packs input requests turns (λ rest. IsDue server packs fails ends rest due)
      × SendsAndFails output (talk_bytes server.graph.format ends turns) (canonical_all due))
      ⊎ ((due : List Packet) × (requests ≡ 0) × IsDueFirst server.graph.format input due
      × SendsSome output (canonical_all due) × KeepsPassed output.passed_on)
