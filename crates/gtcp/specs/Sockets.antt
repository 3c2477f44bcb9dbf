-- Conversations over a socket. The contracts can't state which bytes pass through a socket. For a call over a socket,
-- the contracts state only that the call holds a conversation over some input and some output.
use Rattle.std.specs.Prelude.{◌≡◌, ◌⊎◌, ◌<◌, ◌≤◌, ℕ, Bool, true, false, List, length, All, Result, Ok, Err}
use Rattle.gpkt.specs.Sending.{Input, Output}
use Rattle.gpkt.specs.Packets.{Bytes}
use Rattle.ggrammar.specs.Building.{IsBuildReason}
use Rattle.ggrammar.specs.Limits.{profile}
use Rattle.ggrammar.specs.declared.ends.Ends.{Ends}
use Rattle.ggrammar.specs.declared.fault.MessageFault.{MessageFault}
use Rattle.ghello.specs.Hello.{Hello, IsHello, MakesHello}
use Rattle.glsreply.specs.LsReplies.{LsReply}
use Rattle.gobject.specs.Packs.{Indexes, IndexFails, PackFails, Packs}
use Rattle.gclientrepo.specs.Repos.{RepoState}
use Rattle.grequest.specs.declared.flag.LsRefsFlag.TheVariants.{Symrefs, Peel}
use Rattle.grequest.specs.Asked.{LsRefsAsked, ls_with, max_prefixes}
use Rattle.grequest.specs.Building.{no_ls_refs}
use Rattle.ganswer.specs.Servers.{Server}
use Rattle.gserver.specs.GitConnections.{ServesGit}
use Rattle.gserver.specs.declared.git_transport.GitEnd.{GitEnd}
use Rattle.gserver.specs.declared.git_transport.GitEnd.TheVariants as git
use Rattle.gsession.specs.declared.fault.ClientFault.TheVariants as client
use Rattle.gfetch.specs.Starts.{Start}
use Rattle.gfetch.specs.declared.fault.FetchFault.{FetchFault}
use Rattle.gfetch.specs.declared.fault.FetchFault.TheVariants as fetch
use Rattle.gfetch.specs.declared.fetched.Fetched.{Fetched}
use Rattle.gclient.specs.Listings.{ListsGit}
use Rattle.gpair.specs.Pairs.{FetchesSo}
use Rattle.gcmd.specs.Programs.{ProgramOutcome}
use Rattle.gcmd.specs.Serving.{outcome_of_connection}
use Rattle.gcmd.specs.declared.fault.ProgramFault.TheVariants as program
use Rattle.gtcp.specs.Telling.{PrintsFaults, faults_of}

-- ---- fetching

module _ {A : Type 0} (indexes : Indexes A) (index_fails : IndexFails) (start : Start A) (hello : Hello) where
  -- a fetch over a socket, which begins with the first line; if memory for the buffers of the socket runs out, the
  -- repository is unchanged
  abbrev pub FetchesFrom : RepoState A → Result (Fetched A) (FetchFault A) → Type 0
  FetchesFrom new result = FetchesSo indexes index_fails start hello new result ⊎ ((result ≡ Err fetch.NoBuffer) × (new ≡ start.repo))

  -- a fetch with this first line; if the first line is refused, the repository is unchanged
  abbrev pub FetchesOn : RepoState A → Result (Fetched A) (FetchFault A) → Type 0
  FetchesOn new result =
      (IsHello hello × FetchesFrom new result)
      ⊎ ((cause : MessageFault) × MakesHello hello (Err cause)
      × (result ≡ Err (fetch.Client (client.Message cause))) × (new ≡ start.repo))

-- ---- listing

-- the request for refs with these prefixes, which also asks for the targets of symbolic refs and for peeled tags
abbrev pub asked_for : List Bytes → LsRefsAsked
asked_for prefixes =
    let named = ls_with no_ls_refs Symrefs true in
    record (ls_with named Peel true) { prefixes = prefixes }

-- the reasons to refuse the request: more prefixes than the default limits allow, or lack of memory
abbrev pub RefusesPrefixes : List Bytes → MessageFault → Type 0
RefusesPrefixes prefixes cause =
    (cause.frame ≡ 0) × ((has_room : Bool) × IsBuildReason true has_room cause.why
    × (has_room ≡ false → max_prefixes profile < length prefixes))

-- the number of prefixes is within the default limits
abbrev pub FitPrefixes : List Bytes → Type 0
FitPrefixes prefixes = length prefixes ≤ max_prefixes profile

module _ {A : Type 0} (asked : LsRefsAsked) (hello : Hello) where
  -- a listing over a socket, which begins with the first line
  pub record HoldsListing (result : Result LsReply (FetchFault A)) : Type 0 where
    pub input : Input
    pub output : Output
    pub lists : ListsGit asked hello input output result

  -- a listing over a socket, which may fail because memory for the buffers of the socket runs out
  abbrev pub ListsFrom : Result LsReply (FetchFault A) → Type 0
  ListsFrom result = HoldsListing result ⊎ (result ≡ Err fetch.NoBuffer)

-- a listing with these prefixes, which may fail because the request or the first line is refused
abbrev pub ListsOn : {A : Type 0} → List Bytes → Hello → Result LsReply (FetchFault A) → Type 0
ListsOn prefixes hello result =
    (IsHello hello × FitPrefixes prefixes × ListsFrom (asked_for prefixes) hello result)
    ⊎ ((cause : MessageFault) × (RefusesPrefixes prefixes cause ⊎ MakesHello hello (Err cause))
    × (result ≡ Err (fetch.Client (client.Message cause))))

-- ---- serving

-- the outcome of a connection; a request for another path is not a fault
abbrev pub outcome_of : {A : Type 0} → GitEnd → ProgramOutcome A
outcome_of (git.Served served) = outcome_of_connection served.end
outcome_of git.Elsewhere = Ok tt
outcome_of (git.Refused fault) = Err (program.Request fault)
outcome_of git.WriteFailed = Err program.WriteFailed

-- all connections are served, or fewer connections are served and the fault is `Socket`
abbrev pub IsCount : {A : Type 0} → List (ProgramOutcome A) → ℕ → ProgramOutcome A → Type 0
IsCount outcomes connections (Ok done) = length outcomes ≡ connections
IsCount outcomes connections (Err fault) = (fault ≡ program.Socket) × (length outcomes < connections)

module _ {A : Type 0} (server : Server A) (packs : Packs A) (fails : PackFails A) (path : Bytes) (ends : Ends) where
  -- a connection is served over a socket, and ends with this result
  pub record HoldsServing (ended : GitEnd) : Type 0 where
    pub input : Input
    pub output : Output
    pub serves : ServesGit server packs fails path ends input output ended

  -- a connection is served, with this outcome
  abbrev pub IsServed : ProgramOutcome A → Type 0
  IsServed outcome = (ended : GitEnd) × HoldsServing ended × (outcome ≡ outcome_of ended)

  -- The given number of connections is served, one after the other, and their faults are printed in order, one line
  -- each. If a connection can't be accepted, only the earlier connections are served.
  pub record ServesEach (errors : Output) (connections : ℕ) (result : ProgramOutcome A) : Type 0 where
    pub outcomes : List (ProgramOutcome A)
    pub each : All IsServed outcomes
    pub prints : PrintsFaults errors (faults_of outcomes)
    pub count : IsCount outcomes connections result
