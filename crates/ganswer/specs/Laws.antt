-- Laws that follow from the definitions of answers and changes.
use Rattle.std.specs.Prelude.{◌≡◌, ◌⊎◌, ◌≤◌, true, List, length, codes, All, Contains, None, Result, bytes_eq}
use Rattle.std.specs.List.{IsDistinct}
use Rattle.gname.specs.declared.formats.Format.{Format}
use Rattle.gname.specs.Ids.{Id}
use Rattle.gname.specs.Names.{Name}
use Rattle.gpkt.specs.Packets.{Bytes}
use Rattle.gobject.specs.Packs.{AreEntries, PackFails, Packs}
use Rattle.gobject.specs.declared.node.Entry.{Entry}
use Rattle.gobject.specs.declared.fault.PackFault.{PackFault}
use Rattle.gdag.specs.Graphs.{Holds, IsGraph, IsNode}
use Rattle.gdag.specs.Laws.{HasAll}
use Rattle.gdag.specs.Reach.{Agree, Grows, IsConnected}
use Rattle.gdag.specs.Insert.{Inserts}
use Rattle.grefs.specs.declared.head.Head.{Head}
use Rattle.grequest.specs.Asked.{Asked, FetchAsked, LsRefsAsked, is_direct}
use Rattle.glsreply.specs.LsReplies.{LsReply}
use Rattle.glsreply.specs.WellFormed.{IsLsReplyIn}
use Rattle.gfetchreply.specs.FetchHeads.{pack_of, acknowledged_by}
use Rattle.gfetchreply.specs.WellFormed.{IsReplyIn}
use Rattle.gfetchreply.specs.FetchReplies.{FetchReply, Reading, max_acks}
use Rattle.ggrammar.specs.Capabilities.{Capability}
use Rattle.ghello.specs.Adverts.{AreCapabilities}
use Rattle.ghello.specs.Offers.{check_fault, has_feature}
use Rattle.ganswer.specs.Adverts.{advertisement}
use Rattle.ganswer.specs.FetchAnswers.{CanServe, FetchAnswer, SendsPack}
use Rattle.ganswer.specs.Answers.{Answers, FetchRefuses, Reply}
use Rattle.ganswer.specs.declared.fault.BuildFault.{BuildFault}
use Rattle.ganswer.specs.Changes.{Adds, Sets, SetsHead}
use Rattle.ganswer.specs.declared.fault.ServeFault.{ServeFault}
use Rattle.ganswer.specs.LsAnswers.{LsAnswer}
use Rattle.ganswer.specs.Servers.{Server, IsServer}
use Rattle.ganswer.specs.declared.fault.ServeFault.TheVariants as serve

-- ---- the advertisement

-- a client of this object format can read and accept the capabilities, and may then request the name of an unborn HEAD
-- (gitprotocol-v2(5), "ls-refs")
pub record Welcomes (format : Format) (capabilities : List Capability) : Type 0 where
  pub form : AreCapabilities capabilities
  pub goes_on : check_fault format capabilities ≡ None
  pub unborn : has_feature (codes "ls-refs") (codes "unborn") capabilities ≡ true

-- each client of the server's object format accepts the server's advertisement
abbrev pub AdvertsWelcome : Type 0
AdvertsWelcome = (format : Format) → Welcomes format (advertisement format)

-- ---- refs

-- each ls-refs request has an answer
abbrev pub LsRequestsHaveAnswers : Type 0 → Type 0
LsRequestsHaveAnswers A = (server : Server A) (asked : LsRefsAsked) → (reply : LsReply) × LsAnswer server asked reply

-- an ls-refs request has at most one answer
abbrev pub LsAnswersAreOne : Type 0 → Type 0
LsAnswersAreOne A =
    (server : Server A) (asked : LsRefsAsked) (a b : LsReply)
    → LsAnswer server asked a → LsAnswer server asked b → a ≡ b

-- each answer to an ls-refs request is a well-formed reply in the server's object format
abbrev pub LsAnswersFit : Type 0 → Type 0
LsAnswersFit A =
    (server : Server A) (asked : LsRefsAsked) (reply : LsReply)
    → IsServer server → LsAnswer server asked reply → IsLsReplyIn server.graph.format reply

-- the server holds the id of each line of an ls-refs reply
abbrev pub LsAnswersAreHeld : Type 0 → Type 0
LsAnswersAreHeld A =
    (server : Server A) (asked : LsRefsAsked) (reply : LsReply)
    → IsServer server → LsAnswer server asked reply → All (λ line. Holds server.graph.entries line.id) reply.lines

-- ---- objects

-- a client can read the answer to its fetch request, if the pack and the number of haves are within the client's limits
abbrev pub FetchAnswersFit : (A : Type 0) → Packs A → Type 0
FetchAnswersFit A packs =
    (server : Server A) (asked : FetchAsked) (reply : FetchReply) (reading : Reading)
    → IsServer server → length asked.haves ≤ max_acks reading.limits → FetchAnswer server packs asked reply
    → reading.format ≡ server.graph.format → reading.direct ≡ is_direct asked
    → length (pack_of reply) ≤ reading.limit → IsReplyIn reading reply

-- the ids are common: the client sent each id as a have, the server holds each id, and no id occurs twice
pub record AreCommon {A : Type 0} (server : Server A) (asked : FetchAsked) (ids : List Id) : Type 0 where
  pub once : IsDistinct bytes_eq ids
  pub offered : All (Contains asked.haves) ids
  pub held : All (Holds server.graph.entries) ids

-- all ids that a fetch reply acknowledges are common
abbrev pub AcksAreCommon : (A : Type 0) → Packs A → Type 0
AcksAreCommon A packs =
    (server : Server A) (asked : FetchAsked) (reply : FetchReply)
    → FetchAnswer server packs asked reply → AreCommon server asked (acknowledged_by reply)

-- The pack contains entries of the server's graph. Consider a client that holds the whole ancestry of each have, and
-- agrees with the server about every object that both hold. Once the client has inserted the entries, it holds every
-- object that a want reaches at the server.
pub record IsEnough {A : Type 0} (server : Server A) (packs : Packs A) (asked : FetchAsked)
    (pack : Bytes) : Type 0 where
  pub list : List (Entry A)
  pub packed : packs list pack
  pub entries : AreEntries list
  pub graph : IsGraph (record { format = server.graph.format; entries = list })
  pub nodes : All (λ entry. IsNode server.graph.entries entry.id entry.node) list
  pub enough : (client new : List (Entry A)) (format : Format) → Agree server.graph.entries client →
      All (IsConnected client) asked.haves → Inserts format client list new →
      HasAll server.graph.entries asked.wants new

-- each pack that a server sends is enough for the client
abbrev pub PacksAreEnough : (A : Type 0) → Packs A → Type 0
PacksAreEnough A packs =
    (server : Server A) (asked : FetchAsked) (pack : Bytes)
    → IsServer server → CanServe server asked → SendsPack server packs asked pack → IsEnough server packs asked pack

-- if the server holds all wants, the request fails only if the packer fails or if memory runs out
abbrev pub ServesWhatIsHeld : (A : Type 0) → PackFails A → Type 0
ServesWhatIsHeld A fails =
    (server : Server A) (asked : FetchAsked) (cause : ServeFault)
    → IsServer server → CanServe server asked → FetchRefuses server fails asked cause
    → (cause ≡ serve.Memory)
    ⊎ ((list : List (Entry A)) × (why : PackFault) × (cause ≡ serve.Pack why) × AreEntries list × fails list why)

-- ---- all requests

-- a server has at most one answer to each request
abbrev pub AnswersAreOne : (A : Type 0) → Packs A → Type 0
AnswersAreOne A packs =
    (server : Server A) (asked : Asked) (one other : Reply)
    → IsServer server → Answers server packs asked one → Answers server packs asked other → one ≡ other

-- ---- changes

-- changes to a server never remove objects or change its object format; only adding an object changes the graph
pub record ServersGrow (A : Type 0) : Type 0 where
  pub adding : (old new : Server A) (entry : Entry A) (result : Result (Unit {0}) (BuildFault A)) →
      Adds old entry new result → (new.graph.format ≡ old.graph.format) × Grows old.graph.entries new.graph.entries
  pub setting : (old new : Server A) (name : Name) (id : Id) (result : Result (Unit {0}) (BuildFault A)) →
      Sets old name id new result → new.graph ≡ old.graph
  pub setting_head : (old new : Server A) (head : Head A) (result : Result (Unit {0}) (BuildFault A)) →
      SetsHead old head new result → new.graph ≡ old.graph
