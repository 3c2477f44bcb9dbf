-- The answers to fetch requests (gitprotocol-v2(5), "fetch"). A request with `done`, or without haves, gets a pack at
-- once. Any other request gets the common ids, and also a pack if each want reaches a common id.
use Rattle.std.specs.Prelude.{◌≡◌, ◌≢◌, ◌⊎◌, true, false, List, [], All, if◌then◌else◌}
use Rattle.std.specs.Map.{values_of}
use Rattle.gname.specs.Ids.{Id}
use Rattle.gpkt.specs.Packets.{Bytes}
use Rattle.gobject.specs.declared.fault.PackFault.{PackFault}
use Rattle.gobject.specs.Packs.{PackFails, Packs}
use Rattle.gobject.specs.declared.node.Entry.{Entry}
use Rattle.gdag.specs.Graphs.{Holds}
use Rattle.gdag.specs.Sending.{IsListToSend}
use Rattle.gdag.specs.Walks.{IsReady, common_of}
use Rattle.grequest.specs.Asked.{FetchAsked, is_direct, fetch_has}
use Rattle.grequest.specs.declared.flag.FetchFlag.TheVariants.{IncludeTag}
use Rattle.gfetchreply.specs.FetchReplies.{FetchReply, Acks, Ready, Pack}
use Rattle.ganswer.specs.Servers.{Server}

-- the request has wants, and the server holds all of them
pub record CanServe {A : Type 0} (server : Server A) (asked : FetchAsked) : Type 0 where
  pub some : asked.wants ≢ []
  pub held : All (Holds server.graph.entries) asked.wants

-- the common ids: the haves of the request that the server holds
abbrev pub commons_of : {A : Type 0} → Server A → FetchAsked → List Id
commons_of server asked = common_of server.graph.entries asked.haves

-- each want reaches a common id
abbrev pub IsReadyFor : {A : Type 0} → Server A → FetchAsked → Type 0
IsReadyFor server asked = IsReady server.graph.entries asked.wants (commons_of server asked)

-- the ids from which chains of tags may be added to the pack: with `include-tag` the ids of all refs, otherwise none
abbrev pub tag_tips : {A : Type 0} → Server A → FetchAsked → List Id
tag_tips server asked = if fetch_has asked IncludeTag then values_of server.refs else []

-- the objects to send: each object that a want reaches and no common id reaches, and the tags requested with
-- `include-tag`
abbrev pub IsSent : {A : Type 0} → Server A → FetchAsked → List (Entry A) → Type 0
IsSent server asked list =
    IsListToSend server.graph.entries asked.wants (commons_of server asked) (tag_tips server asked) list

-- the packer may return this pack for the objects to send
pub record SendsPack {A : Type 0} (server : Server A) (packs : Packs A) (asked : FetchAsked)
    (pack : Bytes) : Type 0 where
  pub list : List (Entry A)
  pub sent : IsSent server asked list
  pub packed : packs list pack

-- the packer may fail with this fault for the objects to send
pub record FailsToPack {A : Type 0} (server : Server A) (fails : PackFails A) (asked : FetchAsked)
    (fault : PackFault) : Type 0 where
  pub list : List (Entry A)
  pub sent : IsSent server asked list
  pub failed : fails list fault

-- the reply has the parts that the protocol requires: a pack alone, common ids and a pack, or common ids alone
abbrev pub RepliesWith : {A : Type 0} → Server A → Packs A → FetchAsked → FetchReply → Type 0
RepliesWith server packs asked (Pack pack) = (is_direct asked ≡ true) × SendsPack server packs asked pack
RepliesWith server packs asked (Ready commons pack) =
    (is_direct asked ≡ false) × (commons ≡ commons_of server asked) × IsReadyFor server asked
    × SendsPack server packs asked pack
RepliesWith server packs asked (Acks commons) =
    (is_direct asked ≡ false) × (commons ≡ commons_of server asked) × ¬ (IsReadyFor server asked)

-- the server holds all wants, and this reply is an allowed answer to the fetch request
pub record FetchAnswer {A : Type 0} (server : Server A) (packs : Packs A) (asked : FetchAsked)
    (reply : FetchReply) : Type 0 where
  pub can : CanServe server asked
  pub replies : RepliesWith server packs asked reply

-- the reply contains a pack: the request has `done` or no haves, or each want reaches a common id
abbrev pub IsPackDue : {A : Type 0} → Server A → FetchAsked → Type 0
IsPackDue server asked = (is_direct asked ≡ true) ⊎ IsReadyFor server asked
