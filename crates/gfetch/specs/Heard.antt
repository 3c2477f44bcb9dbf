-- The messages that a client receives: the advertisement, and the reply to each request (gitprotocol-v2(5), "Capability
-- Advertisement" and "Command Request").
use Rattle.std.specs.Prelude.{◌≡◌, Bool, false, List, Option, Some, None}
use Rattle.gpkt.specs.Packets.{Bytes, Packet}
use Rattle.ggrammar.specs.Grammar.{Judge}
use Rattle.ghello.specs.Adverts as advert
use Rattle.ghello.specs.steps.AdvertReading.{IsKept}
use Rattle.glsreply.specs.LsReplies as ls
use Rattle.glsreply.specs.steps.ReplyState.{Holds}
use Rattle.gfetchreply.specs.FetchReplies as fetch
use Rattle.gfetchreply.specs.FetchReplies.{brings_into}
use Rattle.gobject.specs.Packs.{IndexFails}
use Rattle.grequest.specs.Asked.{Asked, Empty, Ls, Fetches}
use Rattle.gsession.specs.Readers.{HoldsObjects}
use Rattle.gsession.specs.Sessions.{SessionState}
use Rattle.gsession.specs.TakingReplies.{reading_for}
use Rattle.gfetch.specs.declared.heard.Heard.{Heard}
use Rattle.gfetch.specs.declared.heard.Heard.TheVariants as heard

module _ {A : Type 0} (session : SessionState A) where
  -- The grammar of the next message, given the open request of the session. The message is the advertisement before the
  -- first request, and then the reply to the open request.
  abbrev pub judge_after : Option Asked → Judge
  judge_after None = advert.judge
  judge_after (Some Empty) = advert.judge
  judge_after (Some (Ls asked)) = ls.judge session.format session.ends
  judge_after (Some (Fetches asked)) = fetch.judge (reading_for session asked)

  -- whether a packet of the next message has contents to store
  abbrev pub brings_after : Option Asked → List Packet → Packet → Bool
  brings_after None = advert.brings
  brings_after (Some Empty) = advert.brings
  brings_after (Some (Ls asked)) = ls.brings
  brings_after (Some (Fetches asked)) = brings_into false (reading_for session asked)

  -- The message consists of these packets so far. A reply is read with the parameters of the session and of its open
  -- request. The indexer has received the data of the pack so far.
  module _ {F : Type 0} (fed : F → Bytes → Type 0) (index_fails : IndexFails) where
    abbrev pub HearsAfter : Option Asked → Heard A F → List Packet → Type 0
    HearsAfter None (heard.Advert reader) packets = IsKept packets reader.has_version reader.advert
    HearsAfter (Some Empty) (heard.Advert reader) packets = IsKept packets reader.has_version reader.advert
    HearsAfter (Some (Ls asked)) (heard.Refs reader) packets =
        (reader.format ≡ session.format) × (reader.ends ≡ session.ends) × Holds reader packets
    HearsAfter (Some (Fetches asked)) (heard.Objects reader) packets =
        HoldsObjects fed index_fails (reading_for session asked) reader packets
    HearsAfter _ _ packets = ⊥

-- the grammar of the session's next message
abbrev pub session_judge : {A : Type 0} → SessionState A → Judge
session_judge session = judge_after session session.pending

-- whether a packet of the session's next message has contents to store
abbrev pub session_brings : {A : Type 0} → SessionState A → List Packet → Packet → Bool
session_brings session = brings_after session session.pending
