-- A conversation over bytes: the bytes that the client sends, the bytes that the server writes, and how the
-- conversation ends. No source or sink is involved (gitprotocol-v2(5), "Capability Advertisement" and "Command
-- Request").
use Rattle.std.specs.Prelude.{◌≡◌, ℕ, ◌<◌, ◌⊎◌, ⊤, false, List, [], ◌++◌, length}
use Rattle.gpkt.specs.Packets.{Bytes, Packet, canonical_all}
use Rattle.gpkt.specs.Sending.{Input}
use Rattle.ggrammar.specs.MessageBytes.{known_bytes}
use Rattle.ggrammar.specs.declared.ends.Ends.{Ends}
use Rattle.ggrammar.specs.declared.fault.Why.TheVariants as why
use Rattle.gobject.specs.Packs.{PackFails, Packs}
use Rattle.ganswer.specs.Servers.{Server}
use Rattle.ganswer.specs.declared.fault.ServeFault.{ServeFault}
use Rattle.ganswer.specs.declared.fault.ServeFault.TheVariants as serve
use Rattle.gserver.specs.Exchanges.{Turn, IsRefused, ReadsEmpty, ReadsTurns}
use Rattle.gserver.specs.Conversations.{CannotBegin, talk_bytes}
use Rattle.gserver.specs.Refusals.{err_packets}
use Rattle.gserver.specs.Serving.{max_requests}
use Rattle.gserver.specs.declared.serving.End.{End}
use Rattle.gserver.specs.declared.serving.End.TheVariants as end

-- the input if the source does not fail and all of `bytes` except `rest` is read
abbrev pub input_of_bytes : Bytes → Bytes → Input
input_of_bytes bytes rest = record { read = known_bytes bytes rest; was_down = false; is_down = false }

-- the last packets of a conversation: the error packet if the conversation ends with a refusal, otherwise none
abbrev pub last_packets : End → List Packet
last_packets (end.Refused fault) = err_packets fault
last_packets _ = []

module _ {A : Type 0} (server : Server A) (fails : PackFails A) where
  -- How a conversation ends after this many requests, with these bytes left. The cause is a lone flush packet, the end
  -- of the bytes, the maximum number of answered requests, or a request that is refused.
  abbrev pub Stops : ℕ → Bytes → End → Type 0
  Stops requests left end.Closed =
      (requests < max_requests) × (rest : Bytes) × ReadsEmpty server.graph.format (input_of_bytes left rest)
  Stops requests left end.Ended = ((requests < max_requests) × (left ≡ [])) ⊎ (requests ≡ max_requests)
  Stops requests left (end.Refused fault) =
      (requests < max_requests) × (rest : Bytes) × IsRefused server fails (input_of_bytes left rest) fault
  Stops requests left end.WriteFailed = ⊥

-- memory runs out at the start, and only the error packet is written
abbrev pub HoldsNone : Bytes → Bytes → End → Type 0
HoldsNone bytes written (end.Refused fault) =
    CannotBegin (input_of_bytes bytes bytes) fault × (written ≡ canonical_all (err_packets fault))
HoldsNone bytes written _ = ⊥

module _ {A : Type 0} (server : Server A) (packs : Packs A) (fails : PackFails A) (ends : Ends) where
  -- The bytes begin with the requests of a list of turns, and the remaining bytes end the conversation. The output is
  -- the advertisement, the replies, and the error packet of a refusal, if any.
  pub record HoldsTurns (bytes written : Bytes) (ended : End) : Type 0 where
    pub turns : List Turn
    pub left : Bytes
    pub read : ReadsTurns server packs (known_bytes bytes left) turns
    pub stops : Stops server fails (length turns) left ended
    pub all : written ≡ talk_bytes server.graph.format ends turns ++ canonical_all (last_packets ended)

  -- the relation between the bytes that a client sends, the server's output, and the end of the conversation
  abbrev pub Talks : Bytes → Bytes → End → Type 0
  Talks bytes written ended = HoldsTurns bytes written ended ⊎ HoldsNone bytes written ended

-- ---- the server's own faults

-- memory ran out or the packer failed; the client did not cause the fault
abbrev pub IsOwnFault : ServeFault → Type 0
IsOwnFault (serve.Reader cause) = ⊤
IsOwnFault (serve.Request cause) = cause.why ≡ why.Memory
IsOwnFault serve.NoWants = ⊥
IsOwnFault (serve.NotOurs id) = ⊥
IsOwnFault (serve.Pack cause) = ⊤
IsOwnFault serve.Memory = ⊤

-- the conversation ends because memory ran out or the packer failed
abbrev pub EndsByOwnFault : End → Type 0
EndsByOwnFault (end.Refused fault) = IsOwnFault fault
EndsByOwnFault _ = ⊥
