-- The promises of each step of a world.
--
-- After any events, each ref of the client is connected: the client holds the whole ancestry of the ref. If no bytes
-- were forged, both ends hold each common id. If the packer and the indexer are also faithful, an accepted pack adds
-- all missing ancestors of its request's wants. Once the complete pack for the open request is accepted, `Settle` makes
-- every allowed update of refs.
use Rattle.std.specs.Prelude.{◌≡◌, ◌⊎◌, ⊤, ℕ, ◌+◌, ◌<◌, ◌≤◌, true, false, List, [], length, All, IfSome, Option, None}
use Rattle.std.specs.Prelude.{Some, slice_get}
use Rattle.gname.specs.Ids.{Id}
use Rattle.gpkt.specs.Packets.{Bytes}
use Rattle.gobject.specs.declared.fault.IndexFault.TheVariants as index
use Rattle.gobject.specs.declared.fault.PackFault.TheVariants as pack
use Rattle.gobject.specs.declared.node.Entry.{Entry}
use Rattle.gfetchreply.specs.FetchReplies.{FetchReply, Acks, Ready, Pack}
use Rattle.gfetchreply.specs.FetchHeads.{pack_of}
use Rattle.gfetchreply.specs.Values.{default_limit}
use Rattle.glsreply.specs.LsReplies.{LsReply}
use Rattle.ggraph.specs.ConnectedRefs.{HasConnectedRefs}
use Rattle.gdag.specs.Graphs.{Holds}
use Rattle.gdag.specs.Reach.{IsConnected, Reaches}
use Rattle.gdag.specs.Walks.{CountsReached}
use Rattle.gdag.specs.declared.fault.GraphFault.TheVariants as graph
use Rattle.grefs.specs.RefLists.{ref_at}
use Rattle.grequest.specs.Asked.{Asked, Fetches, FetchAsked}
use Rattle.gclientrepo.specs.Repos.{RepoState}
use Rattle.gclientrepo.specs.Settling.{CannotSettle, MayMove, asked_ids}
use Rattle.gclientrepo.specs.declared.ask.Ask.{Ask}
use Rattle.ganswer.specs.Answers.{Fetch, Ls as Refs}
use Rattle.ganswer.specs.FetchAnswers.{FailsToPack}
use Rattle.ganswer.specs.Servers.{Server}
use Rattle.gsession.specs.Asking.{AreNamed, asks_by_all}
use Rattle.gsession.specs.Sessions.{SessionState}
use Rattle.gsession.specs.TakingRefs.{WantsTooMuch}
use Rattle.gsession.specs.TakingReplies.{RefusesPack}
use Rattle.gsession.specs.declared.stage.Stage.TheVariants.{Settling}
use Rattle.gworld.specs.Faults.{indexer_failed, memory_refused, no_memory_to_read, no_room, pack_over_limit}
use Rattle.gworld.specs.Faults.{bad_name, packer_failed, too_many_refs, too_many_wants}
use Rattle.gworld.specs.Sound.{AreEndsConnected, IsUnforgedAndFaithful}
use Rattle.gworld.specs.Events.{Step}
use Rattle.gworld.specs.Worlds.{Kept, PackTools, WorldState, reply_bytes}
use Rattle.gscenario.specs.declared.event.Event.{Event}
use Rattle.gscenario.specs.declared.event.Event.TheVariants as event
use Rattle.gworld.specs.declared.outcome.Outcome.{Outcome}
use Rattle.gworld.specs.declared.outcome.Outcome.TheVariants as outcomes

-- the outcome of an accepted reply: `Round` if the reply has only acknowledgments, and `PackTaken` if it has a pack
pub data IsTaken : FetchReply → Outcome → Type 0 where
  round : {ids : List Id} {common : ℕ} → IsTaken (Acks ids) (outcomes.Round common)
  after_acks : {ids : List Id} {bytes : Bytes} {added : ℕ} → IsTaken (Ready ids bytes) (outcomes.PackTaken added)
  direct : {bytes : Bytes} {added : ℕ} → IsTaken (Pack bytes) (outcomes.PackTaken added)

module _ {A : Type 0} where
  -- the objects of the server and the objects of the client
  abbrev pub server_graph : WorldState A → List (Entry A)
  server_graph w = w.server.graph.entries

  abbrev pub client_graph : WorldState A → List (Entry A)
  client_graph w = w.repo.graph.entries

  -- ---- 1. the client's refs are connected

  -- the client holds every object that its refs reach
  abbrev pub AreRefsConnected : WorldState A → Type 0
  AreRefsConnected w = HasConnectedRefs (client_graph w) w.repo.refs

  -- ---- 2. server and client hold each common id

  -- the server and the client hold the id
  pub record IsHeldByBoth (w : WorldState A) (a : Id) : Type 0 where
    pub server : Holds (server_graph w) a
    pub client : Holds (client_graph w) a

  -- server and client hold each common id of the session
  abbrev pub SharesCommons : WorldState A → SessionState A → Type 0
  SharesCommons w s = All (IsHeldByBoth w) s.commons

  -- if no bytes were forged, the server and the client hold each common id of the session, if there is a session
  abbrev pub AreCommonsShared : WorldState A → Type 0
  AreCommonsShared w = w.forged ≡ false → IfSome w.session (SharesCommons w)

  -- ---- 3. an accepted pack completes the wants of its request

  -- the client holds the whole history of the want, with every object that the want reaches in the server's graph
  abbrev pub IsBrought : WorldState A → Id → Type 0
  IsBrought w want =
      IsConnected (client_graph w) want × ((a : Id) → Reaches (server_graph w) want a → Holds (client_graph w) a)

  -- the kept reply answers a request for objects, and the client now holds the whole history of each want of that
  -- request
  pub record BringsWants (w : WorldState A) (number : ℕ) (new : WorldState A) : Type 0 where
    pub kept : Kept
    pub at : slice_get w.kept number ≡ Some kept
    pub asked : FetchAsked
    pub fetches : kept.asked ≡ Fetches asked
    pub wants : All (IsBrought new) asked.wants

  -- if the client accepts the pack of a kept reply, the client holds the whole history of each want of that reply's
  -- request
  abbrev pub CompletesWants : WorldState A → Event A → Outcome → WorldState A → Type 0
  CompletesWants w (event.Deliver number count) (outcomes.PackTaken added) new = BringsWants w number new
  CompletesWants w event outcome new = ⊤

  -- ---- 4. a complete reply is accepted

  -- a complete kept fetch reply arrives, and its request is equal to the open request
  pub record BringsAnswer (w : WorldState A) (number count : ℕ) (reply : FetchReply) : Type 0 where
    pub kept : Kept
    pub at : slice_get w.kept number ≡ Some kept
    pub objects : kept.reply ≡ Fetch reply
    pub all : length (reply_bytes kept.reply) ≤ count
    pub session : SessionState A
    pub goes_on : w.session ≡ Some session
    pub waits : session.pending ≡ Some kept.asked

  -- ---- a complete ls-refs reply is accepted

  -- a complete kept ls-refs reply arrives, and its request is equal to the open request
  pub record BringsRefs (w : WorldState A) (number count : ℕ) (reply : LsReply) (s : SessionState A) : Type 0 where
    pub kept : Kept
    pub at : slice_get w.kept number ≡ Some kept
    pub refs : kept.reply ≡ Refs reply
    pub all : length (reply_bytes kept.reply) ≤ count
    pub goes_on : w.session ≡ Some s
    pub waits : s.pending ≡ Some kept.asked

  -- A reason for the client to reject a complete ls-refs reply: an invalid name of a local ref, too many wants, or lack
  -- of memory.
  abbrev pub MayDeclineRefs : WorldState A → SessionState A → LsReply → ℕ → Type 0
  MayDeclineRefs w s reply number =
      ((number ≡ bad_name) × ¬ (AreNamed {A = A} (asks_by_all s.refspecs reply.lines)))
      ⊎ ((number ≡ too_many_wants) × WantsTooMuch s (client_graph w) reply)
      ⊎ (number ≡ no_memory_to_read)
      ⊎ (number ≡ memory_refused)

  -- the client accepts the refs of the reply, or rejects the reply for one of the allowed reasons
  abbrev pub IsListedOrDeclined : WorldState A → SessionState A → LsReply → Outcome → Type 0
  IsListedOrDeclined w s reply (outcomes.LsTaken asks wants) = ⊤
  IsListedOrDeclined w s reply (outcomes.Fault number) = MayDeclineRefs w s reply number
  IsListedOrDeclined w s reply _ = ⊥

  -- the client accepts a complete ls-refs reply, or rejects it for one of the allowed reasons
  abbrev pub ListsRefs : WorldState A → Event A → Outcome → Type 0
  ListsRefs w (event.Deliver number count) outcome =
      (reply : LsReply) (s : SessionState A) → BringsRefs w number count reply s → IsListedOrDeclined w s reply outcome
  ListsRefs w event outcome = ⊤

  -- ---- the number of requests for objects

  -- the session made at most N + 1 requests for objects, where N is the number of ids that its tips reach
  abbrev pub AsksSeldom : WorldState A → SessionState A → Type 0
  AsksSeldom w s =
      (held parents : ℕ) → CountsReached (client_graph w) s.tips held parents → s.rounds ≤ held + 1

  -- if the client has a session, the session made at most N + 1 requests for objects, where N is the number of ids that
  -- its tips reach
  abbrev pub AreRequestsFew : WorldState A → Type 0
  AreRequestsFew w = IfSome w.session (AsksSeldom w)

module _ {A : Type 0} (tools : PackTools A) where
  -- A reason for the client to reject a complete fetch reply: a pack over the size limit, a full graph, or lack of
  -- memory.
  abbrev pub MayDecline : RepoState A → FetchReply → ℕ → Type 0
  MayDecline repo reply number =
      ((number ≡ pack_over_limit) × (default_limit < length (pack_of reply)))
      ⊎ ((number ≡ no_room) × RefusesPack tools.indexes tools.index_fails repo (pack_of reply) graph.TooMany)
      ⊎ (number ≡ no_memory_to_read)
      ⊎ (number ≡ memory_refused)
      ⊎ ((number ≡ indexer_failed) × tools.index_fails (pack_of reply) index.Memory)

  -- the client accepts the reply, or rejects it for one of the allowed reasons
  abbrev pub IsTakenOrDeclined : RepoState A → FetchReply → Outcome → Type 0
  IsTakenOrDeclined repo reply (outcomes.Fault number) = MayDecline repo reply number
  IsTakenOrDeclined repo reply outcome = IsTaken reply outcome

  -- the client accepts a complete fetch reply to the open request, or rejects the reply for one of the allowed reasons
  abbrev pub TakesAnswers : WorldState A → Event A → Outcome → Type 0
  TakesAnswers w (event.Deliver number count) outcome =
      (reply : FetchReply) → BringsAnswer w number count reply → IsTakenOrDeclined w.repo reply outcome
  TakesAnswers w event outcome = ⊤

  -- ---- 5. each sent request is served

  -- A reason for the server to reject a sent request: a pack that would be too large, or lack of memory for the pack or
  -- for the reply.
  abbrev pub MayRefuse : Server A → Asked → ℕ → Type 0
  MayRefuse server (Fetches asked) number =
      ((number ≡ packer_failed) × (FailsToPack server tools.pack_fails asked pack.TooLarge
      ⊎ FailsToPack server tools.pack_fails asked pack.Memory))
      ⊎ (number ≡ memory_refused)
  MayRefuse server asked number = number ≡ memory_refused

  -- if there is a request, a reply to it is kept, or the server rejects the request for one of the allowed reasons
  abbrev pub IsServedOrRefused : Server A → Option Asked → Outcome → Type 0
  IsServedOrRefused server None outcome = ⊤
  IsServedOrRefused server (Some asked) (outcomes.Served number) = ⊤
  IsServedOrRefused server (Some asked) (outcomes.Fault number) = MayRefuse server asked number
  IsServedOrRefused server (Some asked) _ = ⊥

  -- the server replies to a sent request, or rejects it for one of the allowed reasons
  abbrev pub ServesSent : WorldState A → Event A → Outcome → Type 0
  ServesSent w (event.Serve number) outcome = IsServedOrRefused w.server (slice_get w.sent number) outcome
  ServesSent w event outcome = ⊤

module _ {A : Type 0} where
  -- ---- 6. a session settles: it updates the refs

  -- the ref has the requested id, if the update is allowed
  abbrev pub MovesAsked : RepoState A → RepoState A → Ask A → Type 0
  MovesAsked old new ask = MayMove old.graph.entries old.refs ask → ref_at new.refs ask.name ≡ Some ask.id

  -- each requested id is connected, and each allowed update of a ref was made
  pub record HasSettled (old : RepoState A) (asks : List (Ask A)) (new : RepoState A) : Type 0 where
    pub connected : All (IsConnected new.graph.entries) (asked_ids asks)
    pub moved : All (MovesAsked old new) asks

  -- The client has a session. The session makes all allowed updates of refs, or fails because there would be too many
  -- refs or because memory is lacking. The other case of `CannotSettle` is impossible: no update of HEAD is requested.
  abbrev pub IsSettledOrRefused : RepoState A → Option (SessionState A) → Outcome → RepoState A → Type 0
  IsSettledOrRefused old None outcome new = ⊥
  IsSettledOrRefused old (Some s) (outcomes.Settled moved same not_forward) new = HasSettled old s.asks new
  IsSettledOrRefused old (Some s) (outcomes.Fault number) new =
      ((number ≡ too_many_refs) × CannotSettle old.refs s.asks) ⊎ (number ≡ memory_refused)
  IsSettledOrRefused old (Some s) _ new = ⊥

  -- If the session accepted the pack of a complete reply to its request, it settles or fails for one of the allowed
  -- reasons. `Deliver` has marked such a session as answered.
  abbrev pub SettlesAnswered : WorldState A → Event A → Outcome → WorldState A → Type 0
  SettlesAnswered w event.Settle outcome new =
      w.answered ≡ true → IsSettledOrRefused w.repo w.session outcome new.repo
  SettlesAnswered w event outcome new = ⊤

  -- the session is ready to settle and has no wants, since the client already holds all requested ids
  pub record IsUpToDate (s : SessionState A) : Type 0 where
    pub stage : s.stage ≡ Settling
    pub none : s.wants ≡ []

  -- if the session is ready to settle and has no wants, it settles or fails for one of the allowed reasons
  abbrev pub SettlesUpToDate : WorldState A → Event A → Outcome → WorldState A → Type 0
  SettlesUpToDate w event.Settle outcome new =
      IfSome w.session (λ s. IsUpToDate s → IsSettledOrRefused w.repo w.session outcome new.repo)
  SettlesUpToDate w event outcome new = ⊤

module _ {A : Type 0} (tools : PackTools A) where
  -- the promises of a step, if no bytes were forged before the step and the packer and the indexer are faithful
  pub record HonestPromises (w : WorldState A) (event : Event A) (outcome : Outcome) (new : WorldState A)
      : Type 0 where
    pub completes : CompletesWants w event outcome new
    pub takes : TakesAnswers tools w event outcome
    pub serves : ServesSent tools w event outcome
    pub settles : SettlesAnswered w event outcome new

  -- The effect and the promises of a step. The promises in `honest` need a world without forged bytes, and a faithful
  -- packer and indexer. The promise `commons` needs only a world without forged bytes. All other promises hold for any
  -- bytes, and for any packer and indexer.
  pub record Promises (w : WorldState A) (event : Event A) (outcome : Outcome) (new : WorldState A) : Type 0 where
    pub step : Step tools w event outcome new
    pub refs : AreRefsConnected new
    pub commons : AreCommonsShared new
    pub lists : ListsRefs w event outcome
    pub up_to_date : SettlesUpToDate w event outcome new
    pub few : AreRequestsFew new
    pub ends : AreEndsConnected new
    pub honest : IsUnforgedAndFaithful tools w → HonestPromises w event outcome new
