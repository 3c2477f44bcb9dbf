-- Properties of every conversation, completed or failed.
use Rattle.std.specs.Prelude.{◌≡◌, ℕ, ◌+◌, ◌≤◌, List, [], ◌∷◌, ◌++◌, length, map, Result, OnErr}
use Rattle.std.specs.Io.KnownBytes.{Appends}
use Rattle.std.specs.List.{flat_map}
use Rattle.gname.specs.Ids.{Id}
use Rattle.gname.specs.declared.formats.Format.{Format}
use Rattle.gpkt.specs.Packets.{Bytes, Packet}
use Rattle.gpkt.specs.Sending.{Input, Output}
use Rattle.ggrammar.specs.Capabilities.{Capability}
use Rattle.gdag.specs.Reach.{Grows}
use Rattle.gdag.specs.Walks.{CountsReached}
use Rattle.gobject.specs.Packs.{Indexes, IndexFails}
use Rattle.gclientrepo.specs.Repos.{IsConnectedRepo, RepoState}
use Rattle.grequest.specs.Asked.{Asked, Fetches}
use Rattle.grequest.specs.RequestWriting.{canonical_request}
use Rattle.gsession.specs.Sessions.{SessionState, max_specs, tips_of}
use Rattle.gdialogue.specs.Dialogues.{Answered}
use Rattle.gfetch.specs.Conversations.{FetchesOver, request_bytes}
use Rattle.gfetch.specs.Fetching.{AnswersMessage, IsFresh, KeepsObjects, OpensFresh, RefusesMessage, start_of_side}
use Rattle.gfetch.specs.Heard.{session_brings, session_judge}
use Rattle.gfetch.specs.Starts.{Advertises, Start, hear_advert}
use Rattle.gfetch.specs.Turns.{AreTurns, AsksNext, ClientState, Turn}
use Rattle.gfetch.specs.declared.fault.FetchFault.{FetchFault}
use Rattle.gfetch.specs.declared.fetched.Fetched.{Fetched}
use Rattle.gfetch.specs.declared.side.ClientSide.{ClientSide}

-- ---- the turns of a dialogue

-- While a client's dialogue continues, it is a conversation of turns. Its messages are the advertisement and the
-- replies of the turns. Its answers are the requests of the turns and another request.

-- the packets of the requests of the turns
abbrev pub asked_packets : Format → List Turn → List Packet
asked_packets format turns = flat_map (λ turn. canonical_request format turn.asked) turns

-- the packets of the replies of the turns
abbrev pub reply_packets : List Turn → List Packet
reply_packets turns = flat_map (λ turn. turn.reply) turns

module _ {A K : Type 0} (indexes : Indexes A) (index_fails : IndexFails) (keeps : K → Id → Type 0) where
  -- The client has received the advertisement and the replies of the turns, and waits for the reply to another request.
  -- It sent exactly the requests of the turns and this request.
  pub record HasTalked (first : ClientSide A K) (heard said : List Packet) (now : ClientSide A K) : Type 0 where
    pub packets : List Packet
    pub capabilities : List Capability
    pub advertises : Advertises first.client.repo.graph.format packets capabilities
    pub turns : List Turn
    pub last : ClientState A
    pub each : AreTurns indexes index_fails (hear_advert (start_of_side first) capabilities) turns last
    pub all_heard : heard ≡ packets ++ reply_packets turns
    pub asked : Asked
    pub asks : AsksNext last asked now.client.session
    pub all_said :
        said ≡ asked_packets first.client.repo.graph.format turns ++ canonical_request first.client.repo.graph.format asked
    pub format : now.client.session.format ≡ first.client.repo.graph.format
    pub repo : now.client.repo ≡ last.repo
    pub unborn : now.client.unborn ≡ last.unborn
    pub fault : now.fault ≡ first.fault
    pub indexer : KeepsObjects keeps first now

  -- the client has received no message and sent no packet, or it waits for the reply to a request
  pub data IsTalk (first : ClientSide A K) : List Packet → List Packet → ClientSide A K → Type 0 where
    begun : IsFresh first → IsTalk first [] [] first
    talked : (heard said : List Packet) (now : ClientSide A K) → IsFresh first → HasTalked first heard said now
        → IsTalk first heard said now

  -- the dialogue of a client, as long as it continues, is a conversation of turns
  abbrev pub DialoguesAreTurns : Type 0
  DialoguesAreTurns = (first now : ClientSide A K) (heard said : List Packet)
      → Answered (λ side. session_judge side.client.session) (λ side. session_brings side.client.session) OpensFresh
      (AnswersMessage indexes index_fails keeps) RefusesMessage first heard said now
      → IsTalk first heard said now

-- ---- the number of requests for objects

-- 1 for a request for objects, and 0 for any other request
abbrev pub count_of : Asked → ℕ
count_of (Fetches asked) = 1
count_of asked = 0

-- the number of requests for objects in the list
abbrev pub objects_asked : List Asked → ℕ
objects_asked [] = 0
objects_asked (asked ∷ requests) = count_of asked + objects_asked requests

-- the requests of the turns
abbrev pub asked_in : List Turn → List Asked
asked_in talk = map (λ turn. turn.asked) talk

-- the session counts as many rounds as the turns have requests for objects
abbrev pub RoundsAreAsked : {A : Type 0} → Indexes A → IndexFails → Type 0
RoundsAreAsked {A} indexes index_fails =
    (start : Start A) (capabilities : List Capability) (talk : List Turn) (last : ClientState A)
    → AreTurns indexes index_fails (hear_advert start capabilities) talk last
    → last.session.rounds ≡ objects_asked (asked_in talk)

-- the turns contain at most N + 1 requests for objects, if the refs reached N ids at the beginning
abbrev pub TalksAreFew : {A : Type 0} → Indexes A → IndexFails → Type 0
TalksAreFew {A} indexes index_fails =
    (start : Start A) (capabilities : List Capability) (talk : List Turn) (last : ClientState A) (held parents : ℕ)
    → IsConnectedRepo start.repo → length start.refspecs ≤ max_specs
    → AreTurns indexes index_fails (hear_advert start capabilities) talk last
    → CountsReached start.repo.graph.entries (tips_of start.repo) held parents
    → objects_asked (asked_in talk) ≤ held + 1

-- the turns and the next request contain at most N + 1 requests for objects, if the refs reached N ids at the beginning
abbrev pub NextIsFew : {A : Type 0} → Indexes A → IndexFails → Type 0
NextIsFew {A} indexes index_fails =
    (start : Start A) (capabilities : List Capability) (talk : List Turn) (last : ClientState A) (asked : Asked)
    (waiting : SessionState A) (held parents : ℕ) → IsConnectedRepo start.repo → length start.refspecs ≤ max_specs
    → AreTurns indexes index_fails (hear_advert start capabilities) talk last → AsksNext last asked waiting
    → CountsReached start.repo.graph.entries (tips_of start.repo) held parents
    → objects_asked (asked_in talk ++ asked ∷ []) ≤ held + 1

-- The client wrote a prefix of the encoding of a list of requests. At most `most` requests in the list are for objects.
pub record AsksAtMost (format : Format) (output : Output) (most : ℕ) : Type 0 where
  pub requests : List Asked
  pub few : objects_asked requests ≤ most
  pub front : Bytes
  pub rest : Bytes
  pub parts : flat_map (request_bytes format) requests ≡ front ++ rest
  pub written : Appends output.written.old output.written.new front

-- every conversation, completed or failed, has at most N + 1 requests for objects, if the refs reached N ids at the
-- beginning
abbrev pub EndsAreFew : {A : Type 0} → Indexes A → IndexFails → Type 0
EndsAreFew {A} indexes index_fails =
    (start : Start A) (input : Input) (output : Output) (new : RepoState A) (result : Result (Fetched A) (FetchFault A))
    (held parents : ℕ) → IsConnectedRepo start.repo → FetchesOver indexes index_fails start input output new result
    → CountsReached start.repo.graph.entries (tips_of start.repo) held parents
    → AsksAtMost start.repo.graph.format output (held + 1)

-- ---- the repository

-- during a conversation the graph only gains objects
abbrev pub FetchingGrows : {A : Type 0} → Indexes A → IndexFails → Type 0
FetchingGrows {A} indexes index_fails =
    (start : Start A) (input : Input) (output : Output) (new : RepoState A) (result : Result (Fetched A) (FetchFault A))
    → FetchesOver indexes index_fails start input output new result
    → Grows start.repo.graph.entries new.graph.entries

-- a failed conversation leaves the refs unchanged
abbrev pub FailingKeepsRefs : {A : Type 0} → Indexes A → IndexFails → Type 0
FailingKeepsRefs {A} indexes index_fails =
    (start : Start A) (input : Input) (output : Output) (new : RepoState A) (result : Result (Fetched A) (FetchFault A))
    → FetchesOver indexes index_fails start input output new result → OnErr result (new.refs ≡ start.repo.refs)
