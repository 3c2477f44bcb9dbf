-- A client's end of a dialogue (gitprotocol-v2(5), "Capability Advertisement" and "Command Request"). It receives the
-- advertisement and the reply to each request, and sends its next request. Each message and its answer are parts of
-- turns (`Turns`).
use Rattle.std.specs.Prelude.{◌≡◌, ◌⊎◌, ℕ, ◌+◌, ◌-◌, ◌≤◌, ◌^◌, Bool, true, false, List, [], length, Option, Some, None, Err}
use Rattle.gname.specs.Ids.{Id}
use Rattle.gpkt.specs.Packets.{Packet}
use Rattle.ggrammar.specs.Capabilities.{Capability}
use Rattle.ggrammar.specs.declared.fault.MessageFault.{MessageFault}
use Rattle.ghello.specs.Adverts as advert
use Rattle.ghello.specs.Offers.{check_fault}
use Rattle.glsreply.specs.LsReplies.{LsReply}
use Rattle.glsreply.specs.LsReplies as ls
use Rattle.gfetchreply.specs.FetchReplies.{FetchReply}
use Rattle.gfetchreply.specs.FetchReplies as fetch
use Rattle.gobject.specs.Packs.{Indexes, IndexFails}
use Rattle.gclientrepo.specs.Repos.{RepoState}
use Rattle.grequest.specs.Asked.{Asked, Empty, Ls, Fetches}
use Rattle.grequest.specs.RequestWriting.{canonical_request}
use Rattle.gsession.specs.Keeping.{KeepsOn}
use Rattle.gsession.specs.Requesting.{Requests}
use Rattle.gsession.specs.Sessions.{SessionState, IsBegun, max_specs, no_memory, over, tells_unborn}
use Rattle.gsession.specs.TakingRefs.{IsRefsFault}
use Rattle.gsession.specs.TakingReplies.{AwaitsObjects, IsReplyFault, reading_for}
use Rattle.gsession.specs.declared.fault.ClientFault.{ClientFault}
use Rattle.gsession.specs.declared.fault.ClientFault.TheVariants as client
use Rattle.gsession.specs.declared.stage.Stage.{Stage}
use Rattle.gsession.specs.declared.stage.Stage.TheVariants.{Listing, Fetching, Settling}
use Rattle.gdialogue.specs.Sides.{SaysNothing}
use Rattle.gfetch.specs.Starts.{Advertises, Start, begin_session, start_for}
use Rattle.gfetch.specs.Turns.{AsksNext, ClientState, Takes}
use Rattle.gfetch.specs.declared.side.ClientSide.{ClientSide}

-- ---- what the client sends after it accepted a message

module _ {A K : Type 0} (client : ClientState A) (kept : Option (ClientFault A)) (new : ClientSide A K)
    (said : List Packet) (goes : Bool) where
  -- the client sends its next request, and waits for the reply
  pub record AsksOn : Type 0 where
    pub asked : Asked
    pub asks : AsksNext client asked new.client.session
    pub all : said ≡ canonical_request client.session.format asked
    pub goes_on : goes ≡ true
    pub repo : new.client.repo ≡ client.repo
    pub unborn : new.client.unborn ≡ client.unborn
    pub fault : new.fault ≡ kept

  -- the client needs nothing more from the server, and sends the lone flush packet that ends the conversation
  pub record EndsWell : Type 0 where
    pub settles_next : client.session.stage ≡ Settling
    pub all : said ≡ canonical_request client.session.format Empty
    pub ended : goes ≡ false
    pub same : new.client ≡ client
    pub fault : new.fault ≡ kept

  -- the client does not have enough memory for the next request, and sends nothing
  pub record LacksMemory : Type 0 where
    pub fails : Requests client.session client.repo.graph.entries new.client.session (Err no_memory)
    pub all : said ≡ []
    pub ended : goes ≡ false
    pub repo : new.client.repo ≡ client.repo
    pub unborn : new.client.unborn ≡ client.unborn
    pub fault : new.fault ≡ Some no_memory

  abbrev pub GoesOn : Type 0
  GoesOn = AsksOn ⊎ EndsWell ⊎ LacksMemory

-- the client rejects a message with this fault, and sends nothing more; the fault ends the session
pub record Fails {A K : Type 0} (old new : ClientSide A K) (cause : ClientFault A) (said : List Packet) (goes : Bool)
    : Type 0 where
  pub session : new.client.session ≡ over old.client.session
  pub repo : new.client.repo ≡ old.client.repo
  pub unborn : new.client.unborn ≡ old.client.unborn
  pub fault : new.fault ≡ Some cause
  pub all : said ≡ []
  pub ended : goes ≡ false

-- ---- the advertisement

module _ {A K : Type 0} (old new : ClientSide A K) (lines said : List Packet) (goes : Bool) where
  -- the packets are the advertisement of a server that the client supports
  pub record AnswersAdvert : Type 0 where
    pub capabilities : List Capability
    pub advertises : Advertises old.client.session.format lines capabilities
    pub goes_on : GoesOn
        (record old.client { session = record old.client.session { offers_unborn = tells_unborn capabilities } })
        old.fault new said goes

  -- the packets are the advertisement of a server that the client does not support
  pub record MismatchesAdvert : Type 0 where
    pub capabilities : List Capability
    pub says : advert.Says lines capabilities
    pub cause : MessageFault
    pub why : check_fault old.client.session.format capabilities ≡ Some cause.why
    pub frame : cause.frame ≡ 0
    pub fails : Fails old new (client.Message cause) said goes

-- ---- a reply

-- the packets are a complete ls-refs reply, and the client rejects its refs
abbrev pub AreDeclinedRefs : {A : Type 0} → SessionState A → RepoState A → List Packet → ClientFault A → Type 0
AreDeclinedRefs waiting repo lines cause =
    (reply : LsReply) × ls.Says waiting.format waiting.ends lines reply × IsRefsFault waiting repo.graph.entries reply cause

module _ {A : Type 0} (indexes : Indexes A) (index_fails : IndexFails) where
  -- the packets are a complete reply to the request, and the client rejects its content
  abbrev pub IsDeclined : SessionState A → Asked → RepoState A → List Packet → ClientFault A → Type 0
  IsDeclined waiting Empty repo lines cause = ⊥
  IsDeclined waiting (Ls asked) repo lines cause = AreDeclinedRefs waiting repo lines cause
  IsDeclined waiting (Fetches asked) repo lines cause =
      (reply : FetchReply) × fetch.Says (reading_for waiting asked) lines reply
      × IsReplyFault indexes index_fails asked.haves repo reply cause

  module _ {K : Type 0} (asked : Asked) (old new : ClientSide A K) (lines said : List Packet) (goes : Bool) where
    -- the client accepts the reply to the open request
    pub record AcceptsReply : Type 0 where
      pub now : ClientState A
      pub takes : Takes indexes index_fails old.client.session asked old.client lines now
      pub goes_on : GoesOn now old.fault new said goes

    -- the client rejects the content of the reply to the open request
    pub record DeclinesReply : Type 0 where
      pub cause : ClientFault A
      pub declined : IsDeclined old.client.session asked old.client.repo lines cause
      pub fails : Fails old new cause said goes

-- ---- any message

-- the indexer is unchanged
pub record KeepsIndexer {A K : Type 0} (old new : ClientSide A K) : Type 0 where
  pub value : new.indexer.now ≡ old.indexer.now
  pub in_place : new.indexer.ghost_name ≡ old.indexer.ghost_name

-- the indexer still keeps all that it kept before, and it keeps each object that the graph gained
pub record KeepsObjects {A K : Type 0} (keeps : K → Id → Type 0) (old new : ClientSide A K) : Type 0 where
  pub keeps_on :
      KeepsOn (keeps old.indexer.now) (keeps new.indexer.now) old.client.repo.graph.entries new.client.repo.graph.entries
  pub in_place : new.indexer.ghost_name ≡ old.indexer.ghost_name

module _ {A K : Type 0} (indexes : Indexes A) (index_fails : IndexFails) (keeps : K → Id → Type 0) where
  -- the answer to a message, given the open request of the session; an open request is never empty
  abbrev pub AnswersAfter : Option Asked → ClientSide A K → ClientSide A K → List Packet → List Packet → Bool → Type 0
  AnswersAfter None old new lines said goes =
      IsBegun old.client.session → AnswersAdvert old new lines said goes ⊎ MismatchesAdvert old new lines said goes
  AnswersAfter (Some Empty) old new lines said goes = Unit {0}
  AnswersAfter (Some asked) old new lines said goes =
      AcceptsReply indexes index_fails asked old new lines said goes
      ⊎ DeclinesReply indexes index_fails asked old new lines said goes

  -- the packets are a message, and `said` is the answer to this message; only a reply to a request for objects changes
  -- the indexer
  pub record AnswersMessage (old : ClientSide A K) (lines said : List Packet) (goes : Bool) (new : ClientSide A K)
      : Type 0 where
    pub answers : AnswersAfter old.client.session.pending old new lines said goes
    pub indexer : KeepsObjects keeps old new
    pub changed : AwaitsObjects old.client.session ⊎ (new.indexer.now ≡ old.indexer.now)

-- a message is refused: its grammar rejects a packet, memory runs out, or no more packets arrive before its end; the
-- client sends nothing more
pub record RefusesMessage {A K : Type 0} (old : ClientSide A K) (fault : MessageFault) (said : List Packet)
    (new : ClientSide A K) : Type 0 where
  pub indexer : KeepsIndexer old new
  pub fails : Fails old new (client.Message fault) said false

-- ---- the beginning and the end

-- the inputs of the conversation that the side holds, if the side has received no message
abbrev pub start_of_side : {A K : Type 0} → ClientSide A K → Start A
start_of_side side =
    let session = side.client.session in
    start_for side.client.repo session.refspecs session.limit session.ends session.options

-- a client side that has received no message
pub record IsFresh {A K : Type 0} (side : ClientSide A K) : Type 0 where
  pub begun : side.client.session ≡ begin_session (start_of_side side)
  pub few : length side.client.session.refspecs ≤ max_specs
  pub unborn : side.client.unborn ≡ None
  pub fault : side.fault ≡ None

-- the side has received no message, and it holds the inputs of the conversation
pub record BeginsAt {A K : Type 0} (start : Start A) (side : ClientSide A K) : Type 0 where
  pub fresh : IsFresh side
  pub starts : start_of_side side ≡ start

-- a client side that has received no message opens the dialogue without a packet
abbrev pub OpensFresh : {A K : Type 0} → ClientSide A K → List Packet → Bool → Type 0
OpensFresh side said goes = IsFresh side × SaysNothing said goes

-- A bound on the number of further messages that the client answers with a request. These are the advertisement, the
-- ls-refs reply, and one message for each further request for objects. The session counts these requests in 64 bits.
abbrev pub messages_after : Stage → Option Asked → ℕ → ℕ
messages_after Listing None rounds = 2 ^ 64 + 3
messages_after Fetching None rounds = (2 ^ 64 + 1) - rounds
messages_after stage (Some (Ls asked)) rounds = 2 ^ 64 + 2
messages_after stage (Some (Fetches asked)) rounds = (2 ^ 64 + 1) - rounds
messages_after _ _ rounds = 0

abbrev pub messages_of : {A : Type 0} → SessionState A → ℕ
messages_of session = messages_after session.stage session.pending session.rounds
