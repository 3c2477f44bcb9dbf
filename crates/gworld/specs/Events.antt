-- The effect and the outcome of each event on a world. A step leaves every field of the world unchanged unless its
-- definition says otherwise.
use Rattle.std.specs.Prelude.{◌≡◌, ◌≢◌, ◌⊎◌, ◌↔◌, ℕ, Bool, true, false, List, [], ◌∷◌, ◌++◌, length, take, count_by}
use Rattle.std.specs.Prelude.{slice_get, if◌then◌else◌, IsTrue, Option, None, Some, Ok, Err}
use Rattle.gname.specs.Ids.{Id}
use Rattle.gname.specs.Names.{Name}
use Rattle.gpkt.specs.Packets.{Bytes}
use Rattle.gfetchreply.specs.Values.{default_limit}
use Rattle.ggrammar.specs.declared.ends.Ends.TheVariants.{Plain}
use Rattle.gobject.specs.declared.node.Entry.{Entry}
use Rattle.gobject.specs.declared.node.Node.{Node}
use Rattle.gobject.specs.Packs.{Indexes, IndexFails, Packs, PackFails}
use Rattle.gdag.specs.Graphs.{IsNode}
use Rattle.gdag.specs.Laws.{AgreesWith}
use Rattle.grefs.specs.Refspecs.{Refspec}
use Rattle.gclientrepo.specs.Changes.{AddsLocal, SetsLocal}
use Rattle.gclientrepo.specs.Faults.{repo_fault_row}
use Rattle.gclientrepo.specs.Repos.{RepoState}
use Rattle.gclientrepo.specs.declared.ask.Ask.{Ask}
use Rattle.gclientrepo.specs.declared.ask.RefUpdate.{RefUpdate}
use Rattle.gclientrepo.specs.declared.ask.RefUpdate.TheVariants as update
use Rattle.gclientrepo.specs.declared.fault.RepoFault.{RepoFault}
use Rattle.grequest.specs.Asked.{Asked}
use Rattle.ganswer.specs.Adverts.{advertisement}
use Rattle.ganswer.specs.Answers.{Answers, Refuses, Reply}
use Rattle.ganswer.specs.Changes.{Adds, Sets}
use Rattle.ganswer.specs.Faults.{build_fault_row, lacks_memory, serve_fault_row}
use Rattle.ganswer.specs.Servers.{Server}
use Rattle.ganswer.specs.declared.fault.BuildFault.{BuildFault}
use Rattle.ganswer.specs.declared.fault.ServeFault.{ServeFault}
use Rattle.gserve.specs.Talks.{Talks}
use Rattle.gserver.specs.declared.serving.End.{End}
use Rattle.gserver.specs.declared.serving.End.TheVariants as end
use Rattle.gsession.specs.Requesting.{Requests}
use Rattle.gsession.specs.Sessions.{SessionState, Begins, Hears, ends_session}
use Rattle.gsession.specs.SettlingRefs.{SettlesSession}
use Rattle.gsession.specs.declared.fault.ClientFault.{ClientFault}
use Rattle.gworld.specs.Faults.{disagreement, no_such, out_of_turn}
use Rattle.gworld.specs.Taking.{IsFullAnswer, TakesBytes, code_of}
use Rattle.gworld.specs.Worlds.{Kept, PackTools, WorldState, reply_bytes}
use Rattle.gscenario.specs.declared.event.Event.{Event}
use Rattle.gscenario.specs.declared.event.Event.TheVariants as event
use Rattle.gworld.specs.declared.outcome.Outcome.{Outcome}
use Rattle.gworld.specs.declared.outcome.Outcome.TheVariants as outcomes

-- ---- the session

abbrev pub is_moved : RefUpdate → Bool
is_moved update.Moved = true
is_moved _ = false

abbrev pub is_same : RefUpdate → Bool
is_same update.Same = true
is_same _ = false

abbrev pub is_not_forward : RefUpdate → Bool
is_not_forward update.NotForward = true
is_not_forward _ = false

-- the numbers of refs that moved, of refs that already had their ids, and of refs whose update was not a fast-forward
abbrev pub settled_outcome : List RefUpdate → Outcome
settled_outcome updates =
    outcomes.Settled (count_by is_moved updates) (count_by is_same updates) (count_by is_not_forward updates)

module _ {A : Type 0} where
  -- the event fails with the fault that has this number, and the world is unchanged
  abbrev pub IsRefused : ℕ → WorldState A → Outcome → WorldState A → Type 0
  IsRefused number w outcome new = (outcome ≡ outcomes.Fault number) × (new ≡ w)

  -- `Begin`: a new session reads the server's advertisement and replaces the old session, or no session can begin
  abbrev pub BeginsSession : WorldState A → List Refspec → Outcome → WorldState A → Type 0
  BeginsSession w specs outcomes.Done new =
      (begun session : SessionState A) × Begins w.repo specs default_limit Plain (Ok begun)
      × Hears begun (advertisement w.server.graph.format) session (Ok tt)
      × (new ≡ record w { session = Some session; answered = false })
  BeginsSession w specs (outcomes.Fault number) new =
      (fault : ClientFault A) × Begins w.repo specs default_limit Plain (Err fault)
      × (number ≡ code_of fault) × (new ≡ w)
  BeginsSession w specs _ new = ⊥

  -- the flag `answered` after a fault: a fault that ends the session clears the flag
  abbrev pub mark_after : ClientFault A → Bool → Bool
  mark_after fault mark = if ends_session fault then false else mark

  -- `Ask`: the session makes its next request and the client sends it, or the request fails
  abbrev pub AsksNext : WorldState A → Option (SessionState A) → Outcome → WorldState A → Type 0
  AsksNext w None outcome new = IsRefused out_of_turn w outcome new
  AsksNext w (Some s) (outcomes.Asked number) new =
      (after : SessionState A) × (asked : Asked) × Requests s w.repo.graph.entries after (Ok asked)
      × (number ≡ length w.sent) × (new ≡ record w { session = Some after; sent = w.sent ++ asked ∷ [] })
  AsksNext w (Some s) (outcomes.Fault number) new =
      (after : SessionState A) × (fault : ClientFault A) × Requests s w.repo.graph.entries after (Err fault)
      × (number ≡ code_of fault)
      × (new ≡ record w { session = Some after; answered = mark_after fault w.answered })
  AsksNext w (Some s) _ new = ⊥

  -- `Settle`: the session updates the local refs and ends, or the update fails
  abbrev pub SettlesRefs : WorldState A → Option (SessionState A) → Outcome → WorldState A → Type 0
  SettlesRefs w None outcome new = IsRefused out_of_turn w outcome new
  SettlesRefs w (Some s) (outcomes.Settled moved same not_forward) new =
      (after : SessionState A) × (repo : RepoState A) × (asks : List (Ask A)) × (updates : List RefUpdate)
      × SettlesSession s w.repo after repo (Ok (asks, updates))
      × (outcomes.Settled moved same not_forward ≡ settled_outcome updates)
      × (new ≡ record w { session = Some after; repo = repo; answered = false })
  SettlesRefs w (Some s) (outcomes.Fault number) new =
      (after : SessionState A) × (repo : RepoState A) × (fault : ClientFault A)
      × SettlesSession s w.repo after repo (Err fault) × (number ≡ code_of fault)
      × (new ≡ record w { session = Some after; repo = repo; answered = mark_after fault w.answered })
  SettlesRefs w (Some s) _ new = ⊥

  -- `RestartClient`: the client keeps its repository and loses its session
  abbrev pub Restarts : WorldState A → Outcome → WorldState A → Type 0
  Restarts w outcome new = (outcome ≡ outcomes.Done) × (new ≡ record w { session = None; answered = false })

  -- ---- changes of the two repositories

  -- the graph holds a different object under the id of this object
  pub record Disagrees (g : List (Entry A)) (entry : Entry A) : Type 0 where
    pub node : Node A
    pub held : IsNode g entry.id node
    pub differs : node ≢ entry.node

  -- `ServerAdd`: the server gains an object, unless the client holds a different object under the same id or the server
  -- rejects the object
  abbrev pub AddsAtServer : WorldState A → Entry A → Outcome → WorldState A → Type 0
  AddsAtServer w entry outcomes.Done new =
      AgreesWith w.repo.graph.entries entry
      × ((server : Server A) × Adds w.server entry server (Ok tt) × (new ≡ record w { server = server }))
  AddsAtServer w entry (outcomes.Fault number) new =
      (new ≡ w)
      × (((number ≡ disagreement) × Disagrees w.repo.graph.entries entry)
      ⊎ (AgreesWith w.repo.graph.entries entry
      × ((fault : BuildFault A) × Adds w.server entry w.server (Err fault) × (number ≡ (build_fault_row fault).0))))
  AddsAtServer w entry _ new = ⊥

  -- `ServerRef`: a ref of the server is set, unless the server rejects the change
  abbrev pub SetsAtServer : WorldState A → Name → Id → Outcome → WorldState A → Type 0
  SetsAtServer w name id outcomes.Done new =
      (server : Server A) × Sets w.server name id server (Ok tt) × (new ≡ record w { server = server })
  SetsAtServer w name id (outcomes.Fault number) new =
      (fault : BuildFault A) × Sets w.server name id w.server (Err fault) × (number ≡ (build_fault_row fault).0)
      × (new ≡ w)
  SetsAtServer w name id _ new = ⊥

  -- `ClientAdd`: the client gains an object, unless the server holds a different object under the same id or the client
  -- rejects the object
  abbrev pub AddsAtClient : WorldState A → Entry A → Outcome → WorldState A → Type 0
  AddsAtClient w entry outcomes.Done new =
      AgreesWith w.server.graph.entries entry
      × ((repo : RepoState A) × (is_new : Bool) × AddsLocal w.repo entry repo (Ok is_new)
      × (new ≡ record w { repo = repo }))
  AddsAtClient w entry (outcomes.Fault number) new =
      (new ≡ w)
      × (((number ≡ disagreement) × Disagrees w.server.graph.entries entry)
      ⊎ (AgreesWith w.server.graph.entries entry
      × ((fault : RepoFault A) × AddsLocal w.repo entry w.repo (Err fault) × (number ≡ (repo_fault_row fault).0))))
  AddsAtClient w entry _ new = ⊥

  -- `ClientRef`: a ref of the client is set, unless the client rejects the change
  abbrev pub SetsAtClient : WorldState A → Name → Id → Outcome → WorldState A → Type 0
  SetsAtClient w name id outcomes.Done new =
      (repo : RepoState A) × SetsLocal w.repo name id repo (Ok tt) × (new ≡ record w { repo = repo })
  SetsAtClient w name id (outcomes.Fault number) new =
      (fault : RepoFault A) × SetsLocal w.repo name id w.repo (Err fault) × (number ≡ (repo_fault_row fault).0)
      × (new ≡ w)
  SetsAtClient w name id _ new = ⊥

-- ---- the server

-- the number of bytes that the server wrote, or the number of the server's fault if memory ran out
abbrev pub stranger_outcome : ℕ → End → Outcome
stranger_outcome written (end.Refused fault) =
    if lacks_memory fault then outcomes.Fault (serve_fault_row fault).code else outcomes.StrangerServed written
stranger_outcome written _ = outcomes.StrangerServed written

-- the outcome of a conversation with an unknown client that sends these bytes
abbrev pub TalksTo : {A : Type 0} → Server A → Packs A → PackFails A → Bytes → Outcome → Type 0
TalksTo server packs pack_fails bytes outcome =
    (written : Bytes) × (ended : End) × Talks server packs pack_fails Plain bytes written ended
    × (outcome ≡ stranger_outcome (length written) ended)

module _ {A : Type 0} (packs : Packs A) (pack_fails : PackFails A) where
  -- `Serve`: the server replies to a sent request and the reply is kept, unless the server rejects the request or no
  -- sent request has this index
  abbrev pub ServesRequest : WorldState A → Option Asked → Outcome → WorldState A → Type 0
  ServesRequest w None outcome new = IsRefused no_such w outcome new
  ServesRequest w (Some asked) (outcomes.Served number) new =
      (reply : Reply) × Answers w.server packs asked reply × (number ≡ length w.kept)
      × (new ≡ record w { kept = w.kept ++ record { asked = asked; reply = reply } ∷ [] })
  ServesRequest w (Some asked) (outcomes.Fault number) new =
      (fault : ServeFault) × Refuses w.server pack_fails asked fault × (number ≡ (serve_fault_row fault).code)
      × (new ≡ w)
  ServesRequest w (Some asked) _ new = ⊥

  -- `StrangeRequest`: the server holds a conversation with an unknown client, and the world is unchanged
  abbrev pub HearsStranger : WorldState A → Bytes → Outcome → WorldState A → Type 0
  HearsStranger w bytes outcome new = (new ≡ w) × TalksTo w.server packs pack_fails bytes outcome

-- ---- bytes that arrive at the client

-- the session with its open request, if the session has an open request
abbrev pub waits_for : {A : Type 0} → SessionState A → Option Asked → Option (SessionState A × Asked)
waits_for s None = None
waits_for s (Some asked) = Some (s, asked)

abbrev pub waiting_session : {A : Type 0} → Option (SessionState A) → Option (SessionState A × Asked)
waiting_session None = None
waiting_session (Some s) = waits_for s s.pending

module _ {A : Type 0} (indexes : Indexes A) (index_fails : IndexFails) where
  -- The bytes arrive as the reply to the open request, and change the session and the repository. The flags `forged`
  -- and `answered` are set to the given values. A session is never marked as answered while its request is open.
  pub record BytesCome (w : WorldState A) (s : SessionState A) (asked : Asked) (bytes : Bytes) (forged answered : Bool)
      (outcome : Outcome) (new : WorldState A) : Type 0 where
    pub after : SessionState A
    pub repo : RepoState A
    pub takes : TakesBytes indexes index_fails asked s w.repo bytes outcome after repo
    pub is : new ≡ record w { session = Some after; repo = repo; forged = forged; answered = answered }

  -- `Deliver`: the first `count` bytes of a kept reply arrive, unless no request is open or no kept reply has this
  -- index. A session is marked as answered if the reply arrives complete, the reply's request equals the open request,
  -- and the reply's pack is accepted.
  abbrev pub Delivers : WorldState A → Option Kept → ℕ → Option (SessionState A × Asked) → Outcome → WorldState A
      → Type 0
  Delivers w None count waits outcome new = IsRefused no_such w outcome new
  Delivers w (Some kept) count None outcome new = IsRefused out_of_turn w outcome new
  Delivers w (Some kept) count (Some (s, asked)) outcome new =
      (answered : Bool) × (IsTrue answered ↔ IsFullAnswer kept asked count outcome)
      × BytesCome w s asked (take count (reply_bytes kept.reply)) w.forged answered outcome new

  -- `Forge`: the bytes arrive as a reply, unless no request is open; afterwards the flag `forged` of the world is set
  abbrev pub Forges : WorldState A → Bytes → Option (SessionState A × Asked) → Outcome → WorldState A → Type 0
  Forges w bytes None outcome new = (outcome ≡ outcomes.Fault out_of_turn) × (new ≡ record w { forged = true })
  Forges w bytes (Some (s, asked)) outcome new = BytesCome w s asked bytes true false outcome new

-- ---- all events

module _ {A : Type 0} (tools : PackTools A) where
  -- the effect of an event on a world, and its outcome
  abbrev pub Step : WorldState A → Event A → Outcome → WorldState A → Type 0
  Step w (event.Begin specs) outcome new = BeginsSession w specs.items outcome new
  Step w event.Ask outcome new = AsksNext w w.session outcome new
  Step w (event.Serve number) outcome new =
      ServesRequest tools.packs tools.pack_fails w (slice_get w.sent number) outcome new
  Step w (event.Deliver number count) outcome new =
      Delivers tools.indexes tools.index_fails w (slice_get w.kept number) count (waiting_session w.session) outcome new
  Step w (event.Forge bytes) outcome new =
      Forges tools.indexes tools.index_fails w bytes.items (waiting_session w.session) outcome new
  Step w (event.StrangeRequest bytes) outcome new =
      HearsStranger tools.packs tools.pack_fails w bytes.items outcome new
  Step w event.Settle outcome new = SettlesRefs w w.session outcome new
  Step w event.RestartClient outcome new = Restarts w outcome new
  Step w event.RestartServer outcome new = (outcome ≡ outcomes.Done) × (new ≡ w)
  Step w (event.ServerAdd entry) outcome new = AddsAtServer w entry outcome new
  Step w (event.ServerRef name id) outcome new = SetsAtServer w name id outcome new
  Step w (event.ClientAdd entry) outcome new = AddsAtClient w entry outcome new
  Step w (event.ClientRef name id) outcome new = SetsAtClient w name id outcome new
