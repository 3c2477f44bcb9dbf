-- Two joined ends: a client that fetches, and a server. Each can read exactly the bytes that the other wrote. Such a
-- fetch is a run of a world.
use Rattle.std.specs.Prelude.{◌≡◌, ◌⊎◌, ℕ, ◌+◌, List, [], ◌∷◌, ◌++◌, length, map, All, Option, Some, Result, Ok, Vec}
use Rattle.std.specs.List.{flat_map}
use Rattle.gpkt.specs.Packets.{Bytes, canonical_all}
use Rattle.gpkt.specs.Sending.{Input, Output}
use Rattle.ggrammar.specs.declared.ends.Ends.TheVariants.{Plain}
use Rattle.gfetchreply.specs.Values.{default_limit}
use Rattle.grefs.specs.RefLists.{IsRefs}
use Rattle.grefs.specs.Refspecs.{IsRefspec, Refspec}
use Rattle.grequest.specs.Asked.{Empty}
use Rattle.gclientrepo.specs.Repos.{RepoState}
use Rattle.gclientrepo.specs.declared.ask.RefUpdate.{RefUpdate}
use Rattle.ganswer.specs.Servers.{Server}
use Rattle.gserver.specs.Conversations.{Serves, advert_packets}
use Rattle.gserver.specs.declared.serving.End.{End}
use Rattle.gfetch.specs.Conversations.{FetchesOver, request_bytes}
use Rattle.gfetch.specs.Starts.{start_of}
use Rattle.gfetch.specs.declared.fault.FetchFault.{FetchFault}
use Rattle.gfetch.specs.declared.fetched.Fetched.{Fetched}
use Rattle.gscenario.specs.declared.event.Event.{Event}
use Rattle.gscenario.specs.declared.event.Event.TheVariants as event
use Rattle.gworld.specs.Events.{settled_outcome}
use Rattle.gworld.specs.Fetching.{IsDone}
use Rattle.gworld.specs.Promises.{Promises}
use Rattle.gworld.specs.Runs.{Run, RunWith}
use Rattle.gworld.specs.Sound.{AreEndsConnected}
use Rattle.gworld.specs.Starts.{CanStart}
use Rattle.gworld.specs.Worlds.{Kept, PackTools, WorldState, new_world, reply_bytes}
use Rattle.gworld.specs.declared.outcome.Outcome.{Outcome}
use Rattle.gworld.specs.declared.outcome.Outcome.TheVariants as outcomes

-- ---- the connection

-- the bytes that one end wrote are exactly the bytes that the other end can read
pub record Carries (output : Output) (input : Input) (bytes : Bytes) : Type 0 where
  pub before : Bytes
  pub old : output.written.old ≡ Some before
  pub new : output.written.new ≡ Some (before ++ bytes)
  pub read : input.read.old ≡ Some bytes

-- ---- the events of a fetch

-- The three events of each turn from turn `n` on, and then the events `late`. In a turn the client sends its request,
-- the server replies, and the complete reply arrives.
abbrev pub events_from : {A : Type 0} → ℕ → List Kept → List (Event A) → List (Event A)
events_from n [] late = late
events_from n (kept ∷ more) late =
    event.Ask ∷ event.Serve n ∷ event.Deliver n (length (reply_bytes kept.reply)) ∷ events_from (n + 1) more late

-- the outcomes of the same events: `taken` has the outcomes of the replies, and `told` those of the events `late`
abbrev pub outcomes_from : ℕ → List Outcome → List Outcome → List Outcome
outcomes_from n [] told = told
outcomes_from n (outcome ∷ more) told =
    outcomes.Asked n ∷ outcomes.Served n ∷ outcome ∷ outcomes_from (n + 1) more told

-- the events of a fetch with these refspecs, requests and replies, and their outcomes with these outcomes of the ref
-- updates
abbrev pub fetch_events : {A : Type 0} → Vec Refspec A → List Kept → List (Event A)
fetch_events specs kept = event.Begin specs ∷ events_from 0 kept (event.Settle ∷ [])

abbrev pub fetch_outcomes : List Outcome → List RefUpdate → List Outcome
fetch_outcomes taken updates = outcomes.Done ∷ outcomes_from 0 taken (settled_outcome updates ∷ [])

-- the events of a fetch that may have failed, with these requests and replies, and their outcomes; only `Settle` may
-- fail
pub data AreFetchEvents {A : Type 0} (specs : Vec Refspec A) (kept : List Kept)
    : List (Event A) → List Outcome → Type 0 where
  none : AreFetchEvents specs kept [] []
  rounds : (taken : List Outcome) → All IsDone taken →
      AreFetchEvents specs kept (event.Begin specs ∷ events_from 0 kept []) (outcomes.Done ∷ outcomes_from 0 taken [])
  settled : (taken : List Outcome) (outcome : Outcome) → All IsDone taken →
      AreFetchEvents specs kept (event.Begin specs ∷ events_from 0 kept (event.Settle ∷ []))
      (outcomes.Done ∷ outcomes_from 0 taken (outcome ∷ []))

-- ---- the laws

module _ {A : Type 0} (tools : PackTools A) where
  -- A run of the world of this server and this client: its last world has the repository `new` and an unchanged server.
  -- The client wrote exactly the requests of the run and a lone flush packet. It read the advertisement and the replies
  -- of the run, and left `unread`. If the world can start, each step keeps its promises.
  pub record IsWorldRun (server : Server A) (repo : RepoState A) (specs : Vec Refspec A) (asked answered : Bytes)
      (unread : Option Bytes) (new : RepoState A) (fetched : Fetched A) : Type 0 where
    pub kept : List Kept
    pub taken : List Outcome
    pub last : WorldState A
    pub run : Run tools (new_world server repo) (fetch_events specs kept)
        (fetch_outcomes taken fetched.settled.updates.items) last
    pub promises : CanStart server repo → RunWith (Promises tools) (new_world server repo) (fetch_events specs kept)
        (fetch_outcomes taken fetched.settled.updates.items) last
    pub done : All IsDone taken
    pub repo_after : last.repo ≡ new
    pub server_after : last.server ≡ server
    pub replies : last.kept ≡ kept
    pub requests : last.sent ≡ map (λ one. one.asked) kept
    pub wrote : asked ≡ flat_map (λ one. request_bytes server.graph.format one) last.sent
        ++ request_bytes server.graph.format Empty
    pub more : Bytes
    pub read : answered ≡ canonical_all (advert_packets server.graph.format)
        ++ flat_map (λ one. reply_bytes one.reply) kept ++ more
    pub rest : unread ≡ Some more

  -- A run of the world of this server and this client, with the events of a fetch: its last world has the repository
  -- `new` and an unchanged server. The client first wrote the requests of the run. The server's output
  -- begins with the advertisement and the replies of the run, if any. If the world can start, each step keeps its
  -- promises.
  pub record IsSomeRun (server : Server A) (repo : RepoState A) (specs : Vec Refspec A) (asked answered : Bytes)
      (new : RepoState A) : Type 0 where
    pub events : List (Event A)
    pub told : List Outcome
    pub last : WorldState A
    pub run : Run tools (new_world server repo) events told last
    pub promises : CanStart server repo → RunWith (Promises tools) (new_world server repo) events told last
    pub of_fetch : AreFetchEvents specs last.kept events told
    pub repo_after : last.repo ≡ new
    pub server_after : last.server ≡ server
    pub requests : last.sent ≡ map (λ one. one.asked) last.kept
    pub further : Bytes
    pub wrote : asked ≡ flat_map (λ one. request_bytes server.graph.format one) last.sent ++ further
    pub more : Bytes
    pub read : (last.kept ≡ []) ⊎ (answered ≡ canonical_all (advert_packets server.graph.format)
        ++ flat_map (λ one. reply_bytes one.reply) last.kept ++ more)

  -- A client's fetch and a server's conversation. Each end can read exactly the bytes that the other wrote. The fetch
  -- has the default options. The types of server, repository and refspecs guarantee the first premises.
  pub record AreJoined (server : Server A) (repo : RepoState A) (specs : Vec Refspec A) (asked answered : Bytes)
      (input : Input) (new : RepoState A) (result : Result (Fetched A) (FetchFault A)) : Type 0 where
    pub ends : AreEndsConnected (new_world server repo)
    pub specs_are : All IsRefspec specs.items
    pub refs : IsRefs new.refs
    pub heard : Input
    pub output : Output
    pub said : Output
    pub count : ℕ
    pub ended : End
    pub asks : Carries output heard asked
    pub answers : Carries said input answered
    pub fetches : FetchesOver tools.indexes tools.index_fails (start_of repo specs.items default_limit Plain) input
        output new result
    pub serves : Serves server tools.packs tools.pack_fails Plain heard said count ended

  -- A fetch that succeeds over two joined ends is a run of the world of the same server and the same client. The
  -- last world of the run has the repository that the fetch left.
  abbrev pub FetchesAreRuns : Type 0
  FetchesAreRuns =
      (server : Server A) (repo new : RepoState A) (specs : Vec Refspec A) (fetched : Fetched A) (input : Input)
      (asked answered : Bytes) → AreJoined server repo specs asked answered input new (Ok fetched)
      → IsWorldRun server repo specs asked answered input.read.new new fetched

  -- whatever the result of a fetch over two joined ends, it left the repository that some run of the world left
  abbrev pub AnyFetchIsARun : Type 0
  AnyFetchIsARun =
      (server : Server A) (repo new : RepoState A) (specs : Vec Refspec A) (result : Result (Fetched A) (FetchFault A))
      (input : Input) (asked answered : Bytes) → AreJoined server repo specs asked answered input new result
      → IsSomeRun server repo specs asked answered new

  -- both laws
  pub record JoinedFetchesAreRuns : Type 0 where
    pub whole : FetchesAreRuns
    pub any : AnyFetchIsARun
