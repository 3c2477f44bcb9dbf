-- The invariants of a world, which hold after any events.
use Rattle.std.specs.Prelude.{◌≡◌, ◌≢◌, ◌⊎◌, ⊤, ◌≤◌, true, false, List, [], length, All, Contains, IfSome, MatchOption}
use Rattle.gname.specs.Ids.{Id}
use Rattle.gpkt.specs.Packets.{Bytes}
use Rattle.gobject.specs.Packs.{LosesNothing, Packs}
use Rattle.gobject.specs.declared.node.Entry.{Entry}
use Rattle.ggrammar.specs.declared.ends.Ends.TheVariants.{Plain}
use Rattle.ggrammar.specs.Limits.{profile}
use Rattle.gfetchreply.specs.Values.{default_limit}
use Rattle.gdag.specs.Graphs.{Holds, IsGraph}
use Rattle.gdag.specs.Reach.{Agree, Grows, IsConnected}
use Rattle.grefs.specs.RefLists.{IsRefs}
use Rattle.grequest.specs.Asked.{Asked, Empty, Ls, Fetches, FetchAsked, max_haves}
use Rattle.gclientrepo.specs.Repos.{IsConnectedRepo}
use Rattle.gclientrepo.specs.Asks.{asked_ids}
use Rattle.ganswer.specs.Answers.{Answers}
use Rattle.ganswer.specs.Servers.{IsServer, Server}
use Rattle.gsession.specs.Bounds.{BeganOn}
use Rattle.gsession.specs.Sessions.{IsSession, SessionState}
use Rattle.gsession.specs.TakingReplies.{Awaits}
use Rattle.gsession.specs.declared.stage.Stage.TheVariants.{Settling}
use Rattle.gworld.specs.Worlds.{Kept, PackTools, WorldState}

module _ {A : Type 0} where
  -- no object of the server is missing, and the client's refs are connected; the types of server, repository and
  -- session guarantee both facts
  pub record AreEndsConnected (w : WorldState A) : Type 0 where
    pub server : IsServer w.server
    pub repo : IsConnectedRepo w.repo
    pub graph : IsGraph w.repo.graph
    pub refs : IsRefs w.repo.refs
    pub session : IfSome w.session IsSession

  -- ---- the sent requests and the kept replies

  -- a request for objects has wants and not too many haves; the client holds the whole history of each have, and the
  -- server holds the wants unless bytes were forged
  pub record IsSoundFetch (w : WorldState A) (asked : FetchAsked) : Type 0 where
    pub connected : All (IsConnected w.repo.graph.entries) asked.haves
    pub few : length asked.haves ≤ max_haves profile
    pub some : asked.wants ≢ []
    pub held : w.forged ≡ false → All (Holds w.server.graph.entries) asked.wants

  -- a valid request of the client, for refs or for objects
  abbrev pub IsSoundRequest : WorldState A → Asked → Type 0
  IsSoundRequest w Empty = ⊥
  IsSoundRequest w (Ls asked) = ⊤
  IsSoundRequest w (Fetches asked) = IsSoundFetch w asked

  -- a kept reply is the answer of an earlier state of the server, and the server's graph has only grown since then
  pub record IsSoundKept (packs : Packs A) (w : WorldState A) (kept : Kept) : Type 0 where
    pub server : Server A
    pub is : IsServer server
    pub format : server.graph.format ≡ w.server.graph.format
    pub grown : Grows server.graph.entries w.server.graph.entries
    pub answers : Answers server packs kept.asked kept.reply
    pub request : IsSoundRequest w kept.asked

  -- ---- the session

  -- the requested id is a want of the session, or the client holds the whole history of the id
  abbrev pub IsWantedOrConnected : List (Entry A) → SessionState A → Id → Type 0
  IsWantedOrConnected g s a = Contains s.wants a ⊎ IsConnected g a

  -- A session began on the graph of its repository, and the client holds the whole history of each common id. If no
  -- bytes were forged, the server also holds each common id and each want.
  pub record IsSoundSession (w : WorldState A) (s : SessionState A) : Type 0 where
    pub format : s.format ≡ w.repo.graph.format
    pub limit : s.limit ≡ default_limit
    pub ends : s.ends ≡ Plain
    pub limits : s.options.limits ≡ profile
    pub began : BeganOn w.repo.graph.entries s
    pub commons : All (IsConnected w.repo.graph.entries) s.commons
    pub shared : w.forged ≡ false → All (Holds w.server.graph.entries) s.commons
    pub waits : (asked : FetchAsked) → Awaits s asked → IsSoundFetch w asked
    pub asked : All (IsWantedOrConnected w.repo.graph.entries s) (asked_ids s.asks)
    pub wanted : w.forged ≡ false → All (Holds w.server.graph.entries) s.wants

module _ {A : Type 0} (tools : PackTools A) where
  -- no bytes were forged, and packer and indexer are faithful
  pub record IsUnforgedAndFaithful (w : WorldState A) : Type 0 where
    pub image : List (Entry A) → Bytes
    pub faithful : LosesNothing tools.packs tools.pack_fails tools.indexes tools.index_fails image
    pub unforged : w.forged ≡ false

  -- A session that is marked as answered can settle. The requested ids of the session are connected, if no bytes were
  -- forged and the packer and the indexer are faithful.
  pub record IsAnswered (w : WorldState A) (s : SessionState A) : Type 0 where
    pub stage : s.stage ≡ Settling
    pub connected : IsUnforgedAndFaithful w → All (IsConnected w.repo.graph.entries) (asked_ids s.asks)

  -- The invariants of a world. All sent requests, all kept replies and the session are valid. If no bytes were forged,
  -- and packer and indexer are faithful, both graphs hold the same object under each shared id. A session that is
  -- marked as answered can settle.
  pub record IsSound (w : WorldState A) : Type 0 where
    pub format : w.repo.graph.format ≡ w.server.graph.format
    pub agree : IsUnforgedAndFaithful w → Agree w.server.graph.entries w.repo.graph.entries
    pub sent : All (IsSoundRequest w) w.sent
    pub kept : All (IsSoundKept tools.packs w) w.kept
    pub session : IfSome w.session (IsSoundSession w)
    pub answered : w.answered ≡ true → MatchOption w.session ⊥ (IsAnswered w)
