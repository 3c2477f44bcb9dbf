-- A fetch into a stored file. The file is locked and read, the refs are updated, and then the whole text is replaced.
-- The report is written only after the new text. The contracts state which texts the file had after it was read: only
-- the old text (`IsKept`), or the old text and then perhaps the new text (`IsReplaced`).
use Rattle.std.specs.Prelude.{◌≡◌, ◌⊎◌, ℕ, List, Option, Result, Ok, Err}
use Rattle.gpkt.specs.Packets.{Bytes}
use Rattle.gpkt.specs.Sending.{Input, Output, IsUnread, IsUnwritten}
use Rattle.ggrammar.specs.declared.ends.Ends.{Ends}
use Rattle.glockfile.specs.Storing.{Holds, KeepsStates, Replaces, Texts, WhereKnown}
use Rattle.glockfile.specs.declared.storage.Lockfile.{Lockfile}
use Rattle.glockfile.specs.declared.storage.Lockfile.TheVariants.{Absent}
use Rattle.glockfile.specs.declared.storage.StorageFault.{StorageFault}
use Rattle.glockfile.specs.declared.storage.StorageFault.TheVariants as storage
use Rattle.gfetch.specs.Conversations.{FetchesOver}
use Rattle.gfetch.specs.Starts.{start_of}
use Rattle.gfetch.specs.declared.fault.FetchFault.{FetchFault}
use Rattle.gfetch.specs.declared.fetched.Fetched.{Fetched}
use Rattle.gclientrepo.specs.Repos.{RepoState}
use Rattle.grefs.specs.Refspecs.{Refspec}
use Rattle.gcmd.specs.Fetching.{IsFetchedInto, NamesClient, RefusesClient, Reports, plain_index_fails, plain_indexes}
use Rattle.gcmd.specs.Printing.{fault_line}
use Rattle.gcmd.specs.Programs.{ProgramOutcome, Prints}
use Rattle.gcmd.specs.declared.fault.ProgramFault.{ProgramFault}
use Rattle.gcmd.specs.declared.fault.ProgramFault.TheVariants as program
use Rattle.gcmd.specs.declared.stored.OpenedFile.{OpenedFile}

-- a stored file before and after a run of the program: the texts of the file, if the storage records them, and the
-- program's lockfile at the end
pub record Stored : Type 0 where
  pub old : Option Texts
  pub new : Option Texts
  pub lockfile : Lockfile

abbrev pub stored_of : {T : Type 0} → (T → Option Texts) → (T → Lockfile) → T → T → Stored
stored_of texts lockfile old new = record { old = texts old; new = texts new; lockfile = lockfile new }

-- after the file was read, its text never changed
abbrev pub IsKept : Stored → Type 0
IsKept stored = KeepsStates stored.old stored.new

-- the whole new text replaced the old text; if the replacement failed, the file may have either text
abbrev pub IsReplaced : Bytes → Bytes → Stored → Result (Unit {0}) StorageFault → Type 0
IsReplaced old new stored result =
    WhereKnown stored.old stored.new (λ before after. Replaces old new before after result)

-- the fault that a program reports if it can't lock, read or replace its file
abbrev pub storage_fault : {A : Type 0} → StorageFault → ProgramFault A
storage_fault storage.Memory = program.Memory
storage_fault storage.Failed = program.File

-- ---- opening

-- the reasons to reject a file: it can't be locked or read, or its text is rejected as a client's repository
abbrev pub RefusesFile : {A : Type 0} → Option Texts → ProgramFault A → Type 0
RefusesFile texts fault =
    ((cause : StorageFault) × (fault ≡ storage_fault cause))
    ⊎ ((text : Bytes) × Holds texts text × RefusesClient text fault)

-- the result of opening a stored file
abbrev pub OpensStored : {A : Type 0} → Option Texts → Result (OpenedFile A) (ProgramFault A) → Type 0
OpensStored texts (Ok opened) = Holds texts opened.text.items × NamesClient opened.text.items opened.repo
OpensStored texts (Err fault) = RefusesFile texts fault

-- ---- replacing

module _ {A : Type 0} (old : Bytes) (repo : RepoState A) (fetched : Fetched A) (stored : Stored) (report : Output) where
  -- the file has the new text, and only then the report is written
  pub record IsStored (outcome : ProgramOutcome A) : Type 0 where
    pub text : Bytes
    pub names : NamesClient text repo
    pub replaced : IsReplaced old text stored (Ok tt)
    pub holds : Holds stored.new text
    pub reports : Reports fetched report outcome

  -- the file can't be replaced: it has the old text or the whole new text, and nothing is reported
  pub record IsNotReplaced (outcome : ProgramOutcome A) : Type 0 where
    pub text : Bytes
    pub names : NamesClient text repo
    pub fault : StorageFault
    pub replaced : IsReplaced old text stored (Err fault)
    pub unreported : IsUnwritten report
    pub met : outcome ≡ Err (storage_fault fault)

  -- memory for the new text runs out: the file has the old text, and nothing is reported
  pub record IsNotSaved (outcome : ProgramOutcome A) : Type 0 where
    pub kept : IsKept stored
    pub unreported : IsUnwritten report
    pub met : outcome ≡ Err program.Memory

  -- the outcome after a successful conversation
  abbrev pub ConcludesStored : ProgramOutcome A → Type 0
  ConcludesStored outcome = IsStored outcome ⊎ IsNotReplaced outcome ⊎ IsNotSaved outcome

-- the outcome after the conversation; if the conversation failed, the file has the old text, and nothing is reported
abbrev pub EndsStored : {A : Type 0} → Bytes → RepoState A → RepoState A → Result (Fetched A) (FetchFault A) → Stored
    → Output → ProgramOutcome A → Type 0
EndsStored old repo new (Ok fetched) stored report outcome =
    IsFetchedInto repo new fetched × ConcludesStored old new fetched stored report outcome
EndsStored old repo new (Err fault) stored report outcome =
    IsKept stored × IsUnwritten report × (outcome ≡ Err (program.Fetch fault))

-- ---- programs

module _ {A : Type 0} (specs : List Refspec) (limit : ℕ) (ends : Ends) (stored : Stored) (input : Input)
    (output report : Output)
  where
    -- the file is not opened and not changed, and nothing is read or written
    pub record IsNotOpened (outcome : ProgramOutcome A) : Type 0 where
      pub fault : ProgramFault A
      pub refused : RefusesFile stored.old fault
      pub met : outcome ≡ Err fault
      pub kept : IsKept stored
      pub unread : IsUnread input
      pub unwritten : IsUnwritten output
      pub unreported : IsUnwritten report

    -- a fetch with the refspecs into the repository that the file describes
    pub record IsFetchedStored (outcome : ProgramOutcome A) : Type 0 where
      pub old : Bytes
      pub held : Holds stored.old old
      pub repo : RepoState A
      pub names : NamesClient old repo
      pub new : RepoState A
      pub result : Result (Fetched A) (FetchFault A)
      pub conversation : FetchesOver plain_indexes (plain_index_fails A)
          (start_of repo specs limit ends) input output new result
      pub ends_so : EndsStored old repo new result stored report outcome

    -- the effect of `fetch` on a stored file; at the end the program holds no lockfile
    abbrev pub FetchesStored : ProgramOutcome A → Type 0
    FetchesStored outcome = (stored.lockfile ≡ Absent) × (IsFetchedStored outcome ⊎ IsNotOpened outcome)

-- The end of a program that writes its report and its fault to the same sink. After a complete report nothing more is
-- written, and the status is 0. If the sink fails during the report, nothing more is written, and the status is 1. If
-- the program fails before the report, it prints its fault, and the status is 1.
abbrev pub ExitsAfter : {A : Type 0} → ProgramOutcome A → Output → Output → ℕ → Type 0
ExitsAfter (Ok done) report errors status = (errors ≡ report) × (status ≡ 0)
ExitsAfter (Err program.WriteFailed) report errors status = (errors ≡ report) × (status ≡ 1)
ExitsAfter (Err fault) report errors status = Prints errors (fault_line fault) × (status ≡ 1)

-- a program writes its report to the error sink, and ends with the exit status of its outcome
abbrev pub ReportsAndExits : {A : Type 0} → (Output → ProgramOutcome A → Type 0) → Output → ℕ → Type 0
ReportsAndExits {A} Works errors status =
    (report : Output) × (outcome : ProgramOutcome A) × Works report outcome × ExitsAfter outcome report errors status
