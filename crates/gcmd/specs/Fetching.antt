-- `fetch`: the program that fetches into the repository that a file describes (as git-fetch(1)).
use Rattle.std.specs.Prelude.{◌≡◌, ◌≢◌, ◌⊎◌, ℕ, ◌+◌, List, ◌∷◌, ◌++◌, length, All, Option, None, Some, Result, Ok, Err}
use Rattle.std.specs.List.{AllZip}
use Rattle.gpkt.specs.Packets.{Bytes}
use Rattle.ggraph.specs.Loading.{StopsAt}
use Rattle.ggraph.specs.RepositoryText.{repository_text, IsLoadable}
use Rattle.ggraph.specs.declared.fault.LoadFault.TheVariants as load
use Rattle.ggraph.specs.declared.text.Order.TheVariants.{Any}
use Rattle.ggraph.specs.declared.text.Repository.{Repository}
use Rattle.ggrammar.specs.declared.ends.Ends.{Ends}
use Rattle.gdag.specs.Graphs.{History}
use Rattle.gdag.specs.Reach.{Grows}
use Rattle.gobject.specs.Packs.{Indexes, IndexFails}
use Rattle.gobject.specs.PlainPackText.{IndexRefuses, IsPack}
use Rattle.gpkt.specs.Sending.{Input, Output, IsUnread, IsUnwritten, Sends}
use Rattle.grefs.specs.RefLists.{RefList}
use Rattle.grefs.specs.declared.head.Head.{Head}
use Rattle.grefs.specs.declared.head.Head.TheVariants as head
use Rattle.grefs.specs.Refspecs.{IsSpec, Reads, Refspec}
use Rattle.grefs.specs.declared.refspec.fault.SpecFault.{SpecFault}
use Rattle.gclientrepo.specs.Changes.{Opens}
use Rattle.gclientrepo.specs.Repos.{IsConnectedRepo, RepoState}
use Rattle.gclientrepo.specs.Settling.{Settles}
use Rattle.gsession.specs.declared.fault.ClientFault.TheVariants as client
use Rattle.gfetch.specs.Conversations.{FetchesOver}
use Rattle.gfetch.specs.Starts.{start_of}
use Rattle.gfetch.specs.declared.fault.FetchFault.{FetchFault}
use Rattle.gfetch.specs.declared.fault.FetchFault.TheVariants as fetch
use Rattle.gfetch.specs.declared.fetched.Fetched.{Fetched}
use Rattle.gcmd.specs.Outputs.{BreaksOff}
use Rattle.gcmd.specs.Programs.{ProgramOutcome}
use Rattle.gcmd.specs.Reporting.{fetch_report}
use Rattle.gcmd.specs.declared.fault.ProgramFault.{ProgramFault}
use Rattle.gcmd.specs.declared.fault.ProgramFault.TheVariants as program

-- ---- arguments

-- the text encodes a refspec
abbrev pub IsSpecText : Bytes → Type 0
IsSpecText text = (spec : Refspec) × IsSpec text spec

-- the fault of the first argument that is not a refspec, or for which memory runs out
pub record RefusesWord (words : List Bytes) (fault : SpecFault) : Type 0 where
  pub front : List Bytes
  pub word : Bytes
  pub back : List Bytes
  pub parts : words ≡ front ++ word ∷ back
  pub before : All IsSpecText front
  pub refused : Reads (IsSpec word) (Err fault)

-- the result of reading the arguments: a refspec for each argument, or the fault of the first invalid argument
abbrev pub ReadsSpecs : {A : Type 0} → List Bytes → Result (List Refspec) (ProgramFault A) → Type 0
ReadsSpecs words (Ok specs) = AllZip IsSpec words specs
ReadsSpecs words (Err (program.Spec fault)) = RefusesWord words fault
ReadsSpecs words (Err _) = ⊥

-- ---- files

-- the value that represents the absence of a HEAD; a client's repository has no HEAD
abbrev pub no_head : {A : Type 0} → Head A
no_head = head.None

-- the file is the text of a connected repository of a client
pub record NamesClient {A : Type 0} (file : Bytes) (repo : RepoState A) : Type 0 where
  pub text : file ≡ repository_text repo.graph repo.refs (no_head {A = A})
  pub loadable : IsLoadable Any repo.graph repo.refs (no_head {A = A})
  pub whole : IsConnectedRepo repo

-- the file is the text of a repository whose HEAD is on the line with this number
pub record NamesHead (A : Type 0) (file : Bytes) (line : ℕ) : Type 0 where
  pub repo : Repository A
  pub text : file ≡ repository_text repo.graph repo.refs repo.head
  pub loadable : IsLoadable Any repo.graph repo.refs repo.head
  pub stands : repo.head ≢ no_head
  pub place : line ≡ length repo.graph.entries + length repo.refs + 2

-- the file is the text of a repository that the client refuses for a reason that satisfies `Cause`
pub record NamesUnconnected (A : Type 0) (file : Bytes) (Cause : History A → RefList → Type 0) : Type 0 where
  pub graph : History A
  pub refs : RefList
  pub text : file ≡ repository_text graph refs (no_head {A = A})
  pub loadable : IsLoadable Any graph refs (no_head {A = A})
  pub cause : Cause graph refs

-- the reasons to reject a client's file: the file is not the text of a repository, it has a HEAD, its repository is not
-- connected, or memory runs out
abbrev pub RefusesClient : {A : Type 0} → Bytes → ProgramFault A → Type 0
RefusesClient {A} file (program.Text cause) =
    StopsAt A Any file cause ⊎ ((line : ℕ) × (cause ≡ load.Text line) × NamesHead A file line)
RefusesClient {A} file (program.Fetch (fetch.Client (client.Repo cause))) =
    NamesUnconnected A file (λ graph refs. Opens graph refs (Err cause))
RefusesClient file _ = ⊥

-- the result of opening a client's file
abbrev pub OpensClient : {A : Type 0} → Bytes → Result (RepoState A) (ProgramFault A) → Type 0
OpensClient file (Ok repo) = NamesClient file repo
OpensClient file (Err fault) = RefusesClient file fault

-- ---- plain packs

abbrev pub plain_indexes : {A : Type 0} → Indexes A
plain_indexes bytes list = IsPack bytes list

abbrev pub plain_index_fails : Type 0 → IndexFails
plain_index_fails A bytes fault = IndexRefuses A bytes fault

-- ---- results

-- the new repository has all objects of the old repository and perhaps more objects, and its refs are the updated refs
pub record IsFetchedInto {A : Type 0} (old new : RepoState A) (fetched : Fetched A) : Type 0 where
  pub grows : Grows old.graph.entries new.graph.entries
  pub settles : Settles new.graph.entries old.refs fetched.settled.asks fetched.settled.updates.items new.refs

-- the new file is the text of the repository after the fetch
abbrev pub IsNewFile : {A : Type 0} → RepoState A → RepoState A → Fetched A → Option Bytes → Type 0
IsNewFile old new fetched None = ⊥
IsNewFile old new fetched (Some text) = NamesClient text new × IsFetchedInto old new fetched

-- the report is written and flushed, or the sink for the report fails
abbrev pub SendsReport : {A : Type 0} → Bytes → Output → ProgramOutcome A → Type 0
SendsReport bytes report (Ok done) = Sends report bytes
SendsReport bytes report (Err program.WriteFailed) = BreaksOff report bytes
SendsReport bytes report (Err _) = ⊥

-- the result of reporting: the report is written and flushed, the sink fails, or memory for the report runs out
abbrev pub Reports : {A : Type 0} → Fetched A → Output → ProgramOutcome A → Type 0
Reports fetched report outcome =
    SendsReport (fetch_report fetched) report outcome ⊎ ((outcome ≡ Err program.Memory) × IsUnwritten report)

-- the outcome after a successful conversation: there is a new file and then a report, or memory for the new file runs
-- out and nothing is reported
abbrev pub Concludes : {A : Type 0} → RepoState A → RepoState A → Fetched A → Output → Option Bytes → ProgramOutcome A → Type 0
Concludes old new fetched report file outcome =
    (IsNewFile old new fetched file × Reports fetched report outcome)
    ⊎ ((file ≡ None) × IsUnwritten report × (outcome ≡ Err program.Memory))

-- the outcome after the conversation; if the conversation failed, there is no new file, and nothing is reported
abbrev pub EndsAfter : {A : Type 0} → RepoState A → RepoState A → Result (Fetched A) (FetchFault A) → Output
    → Option Bytes → ProgramOutcome A → Type 0
EndsAfter old new (Ok fetched) report file outcome = Concludes old new fetched report file outcome
EndsAfter old new (Err fault) report file outcome =
    (file ≡ None) × IsUnwritten report × (outcome ≡ Err (program.Fetch fault))

-- ---- programs

module _ {A : Type 0} (old : Bytes) (specs : List Refspec) (limit : ℕ) (ends : Ends) (input : Input)
    (output report : Output) (file : Option Bytes)
  where
    -- the client's file is refused; nothing is read or written, and there is no new file
    pub record IsNotFetched (outcome : ProgramOutcome A) : Type 0 where
      pub fault : ProgramFault A
      pub refused : RefusesClient old fault
      pub met : outcome ≡ Err fault
      pub unread : IsUnread input
      pub unwritten : IsUnwritten output
      pub unreported : IsUnwritten report
      pub none : file ≡ None

    -- a fetch with the refspecs into the repository that the client's file describes
    pub record IsFetched (outcome : ProgramOutcome A) : Type 0 where
      pub repo : RepoState A
      pub names : NamesClient old repo
      pub new : RepoState A
      pub result : Result (Fetched A) (FetchFault A)
      pub conversation : FetchesOver plain_indexes (plain_index_fails A)
          (start_of repo specs limit ends) input output new result
      pub concludes : EndsAfter repo new result report file outcome

    -- the effect of `fetch`
    abbrev pub FetchesFile : ProgramOutcome A → Type 0
    FetchesFile outcome = IsFetched outcome ⊎ IsNotFetched outcome
