-- The programs that open sockets (as git-daemon(1), git-ls-remote(1), git-fetch(1)): their effects, their output and
-- the new file.
use Rattle.std.specs.Prelude.{◌≡◌, ◌⊎◌, ◌<◌, List, ℕ, ◌++◌, codes, Result, Ok, Err}
use Rattle.std.specs.Fmt.{decimal}
use Rattle.gpkt.specs.Sending.{Output, IsUnwritten, Sends}
use Rattle.gpkt.specs.Packets.{Bytes}
use Rattle.gobject.specs.Packs.{MayPack}
use Rattle.ggrammar.specs.declared.ends.Ends.{Ends}
use Rattle.ggrammar.specs.declared.ends.Ends.TheVariants.{Plain}
use Rattle.ggrammar.specs.declared.fault.MessageFault.{MessageFault}
use Rattle.ghello.specs.Hello.{Hello}
use Rattle.gfetchreply.specs.Values.{default_limit}
use Rattle.glsreply.specs.LsReplies.{LsReply}
use Rattle.grefs.specs.Refspecs.{Refspec}
use Rattle.gclientrepo.specs.Repos.{RepoState}
use Rattle.ganswer.specs.Servers.{Server}
use Rattle.gsession.specs.declared.fault.ClientFault.TheVariants as client
use Rattle.gfetch.specs.Starts.{start_of}
use Rattle.gfetch.specs.declared.fault.FetchFault.{FetchFault}
use Rattle.gfetch.specs.declared.fault.FetchFault.TheVariants as fetch
use Rattle.gfetch.specs.declared.fetched.Fetched.{Fetched}
use Rattle.gcmd.specs.Fetching.{IsFetchedInto, NamesClient, RefusesClient, Reports, SendsReport}
use Rattle.gcmd.specs.Fetching.{plain_index_fails, plain_indexes}
use Rattle.gcmd.specs.Outputs.{BreaksOff}
use Rattle.gcmd.specs.Programs.{ExitsWith, ProgramOutcome}
use Rattle.gcmd.specs.Serving.{NamesServer, RefusesFile, plain_pack_fails, plain_packs}
use Rattle.gcmd.specs.Stored.{ConcludesStored, IsKept, RefusesFile as RefusesStored, Stored}
use Rattle.gcmd.specs.declared.fault.ProgramFault.{ProgramFault}
use Rattle.gcmd.specs.declared.fault.ProgramFault.TheVariants as program
use Rattle.glockfile.specs.Storing.{Holds}
use Rattle.glockfile.specs.declared.storage.Lockfile.TheVariants.{Absent}
use Rattle.gtcp.specs.Listing.{reply_lines}
use Rattle.gtcp.specs.Sockets.{FetchesFrom, FetchesOn, FitPrefixes, ListsFrom, RefusesPrefixes, ServesEach, asked_for}

-- the outcome is a fault that satisfies the predicate `Cause`, and nothing is written
abbrev pub StopsBefore : {A : Type 0} → (ProgramFault A → Type 0) → Output → ProgramOutcome A → Type 0
StopsBefore {A} Cause output outcome =
    (fault : ProgramFault A) × Cause fault × (outcome ≡ Err fault) × IsUnwritten output

-- ---- serving

-- the line that shows the port of the listener
abbrev pub port_line : ℕ → Bytes
port_line port = codes "listening " ++ decimal port ++ codes "\n"

-- the outcome of showing a port: the line is written and flushed, there is no socket, memory for the line runs out, or
-- the output fails
abbrev pub Announces : {A : Type 0} → Output → ProgramOutcome A → Type 0
Announces output (Ok done) = (port : ℕ) × (port < 65_536) × Sends output (port_line port)
Announces output (Err program.Socket) = IsUnwritten output
Announces output (Err program.Memory) = IsUnwritten output
Announces output (Err program.WriteFailed) = (port : ℕ) × (port < 65_536) × BreaksOff output (port_line port)
Announces output (Err _) = ⊥

-- the reasons why no client is served: the file is rejected, or the port can't be shown
abbrev pub ServesNobody : {A : Type 0} → Bytes → Output → ProgramFault A → Type 0
ServesNobody {A} file output fault =
    (RefusesFile file fault × IsUnwritten output)
    ⊎ ((server : Server A) × NamesServer file server × Announces {A = A} output (Err fault))

module _ {A : Type 0} (file path : Bytes) (ends : Ends) (connections : ℕ) (output : Output) where
  -- the port is shown, and the repository that the file describes is served on this number of connections
  pub record IsServedToAll (errors : Output) (outcome : ProgramOutcome A) : Type 0 where
    pub server : Server A
    pub names : NamesServer file server
    pub announces : Announces {A = A} output (Ok tt)
    pub serves : ServesEach server (MayPack plain_packs) plain_pack_fails path ends errors connections outcome

  -- the effect of `serve` before it exits: the connections are served, or no client is served
  abbrev pub ServesRemote : Output → ProgramOutcome A → Type 0
  ServesRemote errors outcome =
      IsServedToAll errors outcome ⊎ StopsBefore (ServesNobody file output) errors outcome

-- a server program runs, and then exits with the status for its outcome
pub record RunsServing (A : Type 0) {E : Type 0} (errors : E → E → Output) (old new : E)
    (Serves : Output → ProgramOutcome A → Type 0) (status : ℕ) : Type 0 where
  pub middle : E
  pub outcome : ProgramOutcome A
  pub serves : Serves (errors old middle) outcome
  pub exits : ExitsWith outcome (errors middle new) status

-- ---- listing

-- the result of a listing: the reply of a conversation over a socket, or a fault (refused prefixes, no socket, or a
-- failed conversation)
abbrev pub AsksRemote : {A : Type 0} → List Bytes → Hello → Result LsReply (ProgramFault A) → Type 0
AsksRemote {A} prefixes hello (Ok reply) =
    FitPrefixes prefixes × ListsFrom {A = A} (asked_for prefixes) hello (Ok reply)
AsksRemote prefixes hello (Err program.Socket) = FitPrefixes prefixes
AsksRemote prefixes hello (Err (program.Fetch fault)) =
    (FitPrefixes prefixes × ListsFrom (asked_for prefixes) hello (Err fault))
    ⊎ ((cause : MessageFault) × RefusesPrefixes prefixes cause × (fault ≡ fetch.Client (client.Message cause)))
AsksRemote prefixes hello (Err _) = ⊥

-- the lines of a reply are written and flushed, the output fails, or memory for the lines runs out
abbrev pub ShowsReply : {A : Type 0} → LsReply → Output → ProgramOutcome A → Type 0
ShowsReply reply output outcome =
    SendsReport (reply_lines reply) output outcome ⊎ ((outcome ≡ Err program.Memory) × IsUnwritten output)

-- the effect of `ls --tcp`: the server's reply is shown or can't be shown, or there is no reply and nothing is shown
abbrev pub ListsRemote : {A : Type 0} → List Bytes → Hello → Output → ProgramOutcome A → Type 0
ListsRemote {A} prefixes hello output outcome =
    ((reply : LsReply) × AsksRemote {A = A} prefixes hello (Ok reply) × ShowsReply reply output outcome)
    ⊎ StopsBefore (λ fault. AsksRemote prefixes hello (Err fault)) output outcome

-- ---- fetching

-- a fetch over a socket into a client's repository; if there is no socket, the repository is unchanged
abbrev pub FetchesAt : {A : Type 0} → RepoState A → List Refspec → ℕ → Ends → Hello → RepoState A
    → Result (Fetched A) (ProgramFault A) → Type 0
FetchesAt {A} old specs limit ends hello new (Ok fetched) =
    FetchesFrom plain_indexes (plain_index_fails A) (start_of old specs limit ends) hello new (Ok fetched)
FetchesAt old specs limit ends hello new (Err program.Socket) = new ≡ old
FetchesAt {A} old specs limit ends hello new (Err (program.Fetch fault)) =
    FetchesFrom plain_indexes (plain_index_fails A) (start_of old specs limit ends) hello new (Err fault)
FetchesAt old specs limit ends hello new (Err _) = ⊥

-- the outcome after the fetch: after success the whole file is replaced and the report is written, or one of these
-- steps fails; after a failed fetch the file is unchanged and nothing is reported
abbrev pub EndsRemote : {A : Type 0} → Bytes → RepoState A → RepoState A → Result (Fetched A) (ProgramFault A)
    → Stored → Output → ProgramOutcome A → Type 0
EndsRemote old repo new (Ok fetched) stored report outcome =
    IsFetchedInto repo new fetched × ConcludesStored old new fetched stored report outcome
EndsRemote old repo new (Err fault) stored report outcome =
    IsKept stored × IsUnwritten report × (outcome ≡ Err fault)

module _ {A : Type 0} (specs : List Refspec) (limit : ℕ) (ends : Ends) (hello : Hello) (stored : Stored)
    (report : Output)
  where
    -- the file is not opened and not changed, and nothing is reported
    pub record IsNotOpened (outcome : ProgramOutcome A) : Type 0 where
      pub fault : ProgramFault A
      pub refused : RefusesStored stored.old fault
      pub met : outcome ≡ Err fault
      pub kept : IsKept stored
      pub unreported : IsUnwritten report

    -- a fetch over a socket into the repository that the file describes
    pub record IsFetchedRemote (outcome : ProgramOutcome A) : Type 0 where
      pub old : Bytes
      pub held : Holds stored.old old
      pub repo : RepoState A
      pub names : NamesClient old repo
      pub new : RepoState A
      pub result : Result (Fetched A) (ProgramFault A)
      pub fetches : FetchesAt repo specs limit ends hello new result
      pub ends_so : EndsRemote old repo new result stored report outcome

    -- the effect of `fetch --tcp` on a stored file; at the end the program holds no lockfile
    abbrev pub FetchesRemote : ProgramOutcome A → Type 0
    FetchesRemote outcome = (stored.lockfile ≡ Absent) × (IsFetchedRemote outcome ⊎ IsNotOpened outcome)

-- ---- pairs

-- the first line of the client in a pair
abbrev pub pair_hello : Hello
pair_hello = record { path = codes "/"; host = codes "127.0.0.1" }

module _ {A : Type 0} (old : RepoState A) (specs : List Refspec) (new : RepoState A) where
  -- a fetch from the server of the pair into the client's repository
  abbrev pub FetchesAsClient : Result (Fetched A) (FetchFault A) → Type 0
  FetchesAsClient result =
      FetchesOn plain_indexes (plain_index_fails A) (start_of old specs default_limit Plain) pair_hello new result

  -- the fetch of the client failed
  abbrev pub FailsAsClient : Type 0
  FailsAsClient = (cause : FetchFault A) × FetchesAsClient (Err cause)

  -- The result of a fetch in a pair: the result of the client's conversation. The conversation failed if a message was
  -- too long or memory for a message ran out. If no connection was made, or memory for its buffers ran out, the
  -- repository is unchanged.
  abbrev pub FetchesInPair : Result (Fetched A) (ProgramFault A) → Type 0
  FetchesInPair (Ok fetched) = FetchesAsClient (Ok fetched)
  FetchesInPair (Err (program.Fetch fault)) = FetchesAsClient (Err fault)
  FetchesInPair (Err program.PairLimit) = FailsAsClient
  FetchesInPair (Err program.Memory) = FailsAsClient ⊎ (new ≡ old)
  FetchesInPair (Err program.Socket) = new ≡ old
  FetchesInPair (Err _) = ⊥

module _ {A : Type 0} (client : Bytes) (specs : List Refspec) where
  -- the fetch into the repository that the client's file describes succeeded, and its report was written or could not
  -- be written
  pub record IsMet (output : Output) (outcome : ProgramOutcome A) : Type 0 where
    pub repo : RepoState A
    pub names : NamesClient client repo
    pub new : RepoState A
    pub fetched : Fetched A
    pub fetches : FetchesInPair repo specs new (Ok fetched)
    pub into : IsFetchedInto repo new fetched
    pub reports : Reports fetched output outcome

  -- the reasons why a pair fails: the client's file is rejected, or the fetch failed
  abbrev pub CannotMeet : ProgramFault A → Type 0
  CannotMeet fault =
      RefusesClient client fault
      ⊎ ((repo : RepoState A) × (new : RepoState A) × NamesClient client repo
      × FetchesInPair repo specs new (Err fault))

  -- the effect of `pair`: the fetch succeeds and its report is written or can't be written, or the fetch fails and
  -- nothing is written
  abbrev pub Meets : Output → ProgramOutcome A → Type 0
  Meets output outcome = IsMet output outcome ⊎ StopsBefore CannotMeet output outcome
