-- Definitions for private functions and proofs: the last two steps of a fetch into a stored file.
use Rattle.std.specs.Prelude.{◌≡◌, ◌⊎◌, ℕ, Ok, Err}
use Rattle.gpkt.specs.Packets.{Bytes}
use Rattle.gpkt.specs.Sending.{Output, IsUnwritten}
use Rattle.glockfile.specs.Storing.{Holds}
use Rattle.glockfile.specs.declared.storage.StorageFault.{StorageFault}
use Rattle.gfetch.specs.declared.fetched.Fetched.{Fetched}
use Rattle.gcmd.specs.Fetching.{Reports}
use Rattle.gcmd.specs.Printing.{fault_line}
use Rattle.gcmd.specs.Programs.{ProgramOutcome, Prints}
use Rattle.gcmd.specs.Stored.{IsReplaced, Stored, storage_fault}
use Rattle.gcmd.specs.declared.fault.ProgramFault.TheVariants as program

-- the file is replaced and then the report is written, or the replacement fails and nothing is reported
abbrev pub StoresAndReports : {A : Type 0} → Bytes → Bytes → Fetched A → Stored → Output → ProgramOutcome A → Type 0
StoresAndReports {A} old text fetched stored report outcome =
    (IsReplaced old text stored (Ok tt) × Holds stored.new text × Reports fetched report outcome)
    ⊎ ((fault : StorageFault) × IsReplaced old text stored (Err fault) × IsUnwritten report
    × (outcome ≡ Err (storage_fault fault)))

-- the end of a program that wrote its report to the error sink: the line that reports a fault is printed, unless the
-- sink has failed
abbrev pub ExitsNext : {A : Type 0} → ProgramOutcome A → Output → ℕ → Type 0
ExitsNext (Ok done) errors status = IsUnwritten errors × (status ≡ 0)
ExitsNext (Err program.WriteFailed) errors status = IsUnwritten errors × (status ≡ 1)
ExitsNext (Err fault) errors status = Prints errors (fault_line fault) × (status ≡ 1)
