-- A client's conversation with a server, from the advertisement to the update of the local refs (gitprotocol-v2(5),
-- "Capability Advertisement" and "Command Request"). The definitions state which bytes the client writes for the bytes
-- that it reads.
use Rattle.std.specs.Prelude.{◌≡◌, ◌⊎◌, ◌≤◌, false, List, [], ◌∷◌, ◌++◌, length, Option, Some, Result, Ok, Err}
use Rattle.std.specs.List.{flat_map}
use Rattle.gname.specs.declared.formats.Format.{Format}
use Rattle.gpkt.specs.Sending.{Input, Output, IsUnread, IsUnwritten, IsUp, Passes, SendsAndFails, SendsSome, rest_of}
use Rattle.gpkt.specs.PacketReading.{ReadsPackets}
use Rattle.gpkt.specs.Packets.{Bytes, Packet, canonical_all}
use Rattle.gpkt.specs.Devices.{KeepsPassed}
use Rattle.ggrammar.specs.Capabilities.{Capability}
use Rattle.ggrammar.specs.MessageReading.{IsReadFailure, ReadsRefused}
use Rattle.ggrammar.specs.declared.fault.MessageFault.{MessageFault}
use Rattle.ghello.specs.Adverts as advert
use Rattle.ghello.specs.Offers.{check_fault}
use Rattle.gobject.specs.Packs.{Indexes, IndexFails}
use Rattle.gclientrepo.specs.Changes.{SettlesAsks}
use Rattle.gclientrepo.specs.Repos.{RepoState}
use Rattle.gclientrepo.specs.declared.fault.RepoFault.{RepoFault}
use Rattle.grequest.specs.Asked.{Asked, Empty}
use Rattle.grequest.specs.RequestWriting.{canonical_request}
use Rattle.gsession.specs.Sessions.{SessionState, Begins, max_specs, no_memory}
use Rattle.gsession.specs.declared.stage.Stage.TheVariants.{Settling}
use Rattle.gsession.specs.declared.fault.ClientFault.{ClientFault}
use Rattle.gsession.specs.Requesting.{Requests}
use Rattle.gsession.specs.declared.fault.ClientFault.TheVariants as client
use Rattle.gfetch.specs.Starts.{Advertises, Start, hear_advert}
use Rattle.gfetch.specs.Turns.{AreTurns, AsksNext, ClientState, Refuses, Turn}
use Rattle.gfetch.specs.declared.fault.FetchFault.{FetchFault}
use Rattle.gfetch.specs.declared.fetched.Fetched.{Fetched}
use Rattle.gfetch.specs.declared.fault.FetchFault.TheVariants as fetch

-- ---- the bytes written

-- the bytes of a request
abbrev pub request_bytes : Format → Asked → Bytes
request_bytes format asked = canonical_all (canonical_request format asked)

-- the bytes of the requests of the turns, in order; a turn is a request and its reply
abbrev pub requests_bytes : Format → List Turn → Bytes
requests_bytes format turns = flat_map (λ turn. request_bytes format turn.asked) turns

-- exactly the requests of the turns were written and flushed
abbrev pub HasAsked : Format → Output → List Turn → Type 0
HasAsked format output [] = IsUnwritten output
HasAsked format output (turn ∷ turns) = Passes output (requests_bytes format (turn ∷ turns))

-- The sink failed while the client sent these bytes. A prefix of the bytes was written, and all previously flushed
-- bytes remain flushed.
abbrev pub FailsToSend : Output → Bytes → Type 0
FailsToSend output due = SendsSome output due × KeepsPassed output.passed_on

-- the requests of the turns were flushed, and the sink failed while the client sent the next bytes
abbrev pub FailsToAsk : Format → Output → List Turn → Bytes → Type 0
FailsToAsk format output [] due = FailsToSend output due
FailsToAsk format output (turn ∷ turns) due = SendsAndFails output (requests_bytes format (turn ∷ turns)) due

-- ---- the bytes read

-- the client reads the advertisement of a server that it does not support
pub record Mismatches (format : Format) (input : Input) (cause : MessageFault) : Type 0 where
  pub packets : List Packet
  pub capabilities : List Capability
  pub lines : ReadsPackets input.read packets
  pub says : advert.Says packets capabilities
  pub why : check_fault format capabilities ≡ Some cause.why
  pub frame : cause.frame ≡ 0
  pub up : IsUp input

-- reading the advertisement fails at a packet that is unreadable, missing or rejected, and the fault reports a failed
-- source exactly if the source failed
pub record RefusesToRead (input : Input) (cause : MessageFault) : Type 0 where
  pub front : List Packet
  pub refused : ReadsRefused advert.judge advert.brings front input.read cause
  pub source : IsReadFailure false input.is_down cause.why

-- a reason to send no request: reading the advertisement fails, or the client does not support the server
abbrev pub RefusesAdvert : Format → Input → MessageFault → Type 0
RefusesAdvert format input cause =
    RefusesToRead input cause ⊎ Mismatches format input cause

-- the client reads nothing more, and the source has not failed
pub record IsLeft (rest : Input) : Type 0 where
  pub unread : rest.read.new ≡ rest.read.old
  pub up : IsUp rest

-- ---- a conversation so far

module _ {A : Type 0} (indexes : Indexes A) (index_fails : IndexFails) (start : Start A) where
  -- The client reads the advertisement and the replies of the turns, and `last` is the client's state afterwards.
  -- `Rest` holds for the remaining input.
  pub record Converses (input : Input) (talk : List Turn) (last : ClientState A) (Rest : Input → Type 0) : Type 0 where
    pub few : length start.refspecs ≤ max_specs
    pub packets : List Packet
    pub capabilities : List Capability
    pub advertises : Advertises start.repo.graph.format packets capabilities
    pub each : AreTurns indexes index_fails (hear_advert start capabilities) talk last
    pub between : Option Bytes
    pub read : ReadsPackets (record { old = input.read.old; new = between })
        (packets ++ flat_map (λ turn. turn.reply) talk)
    pub rest : Rest (rest_of input between)

  -- ---- the complete conversation

  -- the bytes of a complete conversation: the requests of the turns, and a lone flush packet (gitprotocol-v2(5),
  -- "Command Request": `empty-request`)
  abbrev pub talk_bytes : List Turn → Bytes
  talk_bytes talk =
      requests_bytes start.repo.graph.format talk ++ request_bytes start.repo.graph.format Empty

  -- The client accepted all replies, flushed the requests and the lone flush packet, and updated the refs. `fetched`
  -- contains the number of requests for objects.
  pub record HasFetched (input : Input) (output : Output) (new : RepoState A) (fetched : Fetched A) : Type 0 where
    pub talk : List Turn
    pub last : ClientState A
    pub converses : Converses input talk last IsLeft
    pub settles_next : last.session.stage ≡ Settling
    pub passed : Passes output (talk_bytes talk)
    pub asks : fetched.settled.asks ≡ last.session.asks
    pub settles : SettlesAsks last.repo last.session.asks new (Ok fetched.settled.updates.items)
    pub count : fetched.requests ≡ last.session.rounds
    pub unborn : fetched.unborn ≡ last.unborn

  -- the message that the client writes next: the next request, or the lone flush packet after the last request
  pub data IsDue (last : ClientState A) : Asked → Type 0 where
    request : (asked : Asked) (waiting : SessionState A) → AsksNext last asked waiting → IsDue last asked
    ending : last.session.stage ≡ Settling → IsDue last Empty

  -- The reasons why a conversation fails. All steps before the fault succeeded, and the repository keeps the effects of
  -- the completed turns.
  pub data Fails (input : Input) (output : Output) (new : RepoState A) : FetchFault A → Type 0 where
    -- the session can't begin, and the client reads nothing
    cannot_begin : (cause : ClientFault A) → Begins start.repo start.refspecs start.limit start.ends (Err cause)
        → IsUnread input → IsUnwritten output → new ≡ start.repo → Fails input output new (fetch.Client cause)
    -- the client does not have enough memory for its buffers, and reads nothing
    no_buffer : length start.refspecs ≤ max_specs → IsUnread input → IsUnwritten output → new ≡ start.repo
        → Fails input output new fetch.NoBuffer
    -- the client rejects the advertisement
    cannot_hear : (cause : MessageFault) → length start.refspecs ≤ max_specs
        → RefusesAdvert start.repo.graph.format input cause → IsUnwritten output → new ≡ start.repo
        → Fails input output new (fetch.Client (client.Message cause))
    -- the client does not have enough memory for the next request
    cannot_ask : (talk : List Turn) (last : ClientState A) (after : SessionState A) → Converses input talk last IsLeft
        → Requests last.session last.repo.graph.entries after (Err no_memory)
        → HasAsked start.repo.graph.format output talk → new ≡ last.repo
        → Fails input output new (fetch.Client no_memory)
    -- the client can't write or flush the next message
    cannot_send : (talk : List Turn) (last : ClientState A) (asked : Asked) → Converses input talk last IsLeft
        → IsDue last asked
        → FailsToAsk start.repo.graph.format output talk (request_bytes start.repo.graph.format asked)
        → new ≡ last.repo → Fails input output new fetch.WriteFailed
    -- the client rejects the reply to a request
    cannot_take : (talk : List Turn) (last : ClientState A) (asked : Asked) (waiting : SessionState A)
        (cause : ClientFault A) → AsksNext last asked waiting
        → Converses input talk last (λ rest. Refuses indexes index_fails waiting asked last.repo rest cause)
        → Passes output (requests_bytes start.repo.graph.format talk ++ request_bytes start.repo.graph.format asked)
        → new ≡ last.repo → Fails input output new (fetch.Client cause)
    -- the client can't update the refs
    cannot_settle : (talk : List Turn) (last : ClientState A) (cause : RepoFault A) → Converses input talk last IsLeft
        → last.session.stage ≡ Settling → Passes output (talk_bytes talk)
        → SettlesAsks last.repo last.session.asks new (Err cause)
        → Fails input output new (fetch.Client (client.Repo cause))

  -- the conversation fails with this fault before the client reads or writes a byte
  abbrev pub FailsAtStart : RepoState A → FetchFault A → Type 0
  FailsAtStart new fault =
      (input : Input) (output : Output) → IsUnread input → IsUnwritten output → Fails input output new fault

  -- the result and the effects of a conversation
  abbrev pub FetchesOver : Input → Output → RepoState A → Result (Fetched A) (FetchFault A) → Type 0
  FetchesOver input output new (Ok fetched) = HasFetched input output new fetched
  FetchesOver input output new (Err fault) = Fails input output new fault
