-- Laws about connections and conversations.
use Rattle.std.specs.Prelude.{◌≡◌, ◌≢◌, ℕ, Some}
use Rattle.gpkt.specs.Sending.{Input, Output, IsUp, Passes}
use Rattle.gpkt.specs.Packets.{Bytes}
use Rattle.ggrammar.specs.declared.ends.Ends.{Ends}
use Rattle.gobject.specs.Packs.{PackFails, Packs}
use Rattle.ganswer.specs.Servers.{IsServer, Server}
use Rattle.gserver.specs.Conversations.{Serves}
use Rattle.gserve.specs.Talks.{Talks, EndsByOwnFault}
use Rattle.gserver.specs.declared.serving.End.{End}
use Rattle.gserver.specs.declared.serving.End.TheVariants as end

-- Each connection is a conversation over the client's bytes, and all output is flushed. The law requires that the bytes
-- of the source are known, and that neither the source nor the sink fails.
abbrev pub ServingIsTalking : (A : Type 0) → Packs A → PackFails A → Type 0
ServingIsTalking A packs fails =
    (server : Server A) (ends : Ends) (input : Input) (output : Output) (requests : ℕ) (ended : End) (bytes : Bytes)
    → Serves server packs fails ends input output requests ended → input.read.old ≡ Some bytes → IsUp input
    → ended ≢ end.WriteFailed
    → (written : Bytes) × Passes output written × Talks server packs fails ends bytes written ended

-- a client's bytes determine the output and the end of a conversation, unless the server runs out of memory or its
-- packer fails
abbrev pub TalksAreOne : (A : Type 0) → Packs A → PackFails A → Type 0
TalksAreOne A packs fails =
    (server : Server A) (ends : Ends) (bytes one other : Bytes) (ended last : End) → IsServer server
    → Talks server packs fails ends bytes one ended → Talks server packs fails ends bytes other last
    → ¬ EndsByOwnFault ended → ¬ EndsByOwnFault last → (one ≡ other) × (ended ≡ last)
