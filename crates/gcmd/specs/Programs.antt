-- The end of a program: its printed line and its exit status.
use Rattle.std.specs.Prelude.{◌≡◌, ℕ, ◌⊎◌, Result, Ok, Err}
use Rattle.gpkt.specs.Sending.{Output, IsUnwritten, Sends}
use Rattle.gpkt.specs.Packets.{Bytes}
use Rattle.gcmd.specs.Outputs.{BreaksOff}
use Rattle.gcmd.specs.Printing.{fault_line}
use Rattle.gcmd.specs.declared.fault.ProgramFault.{ProgramFault}

-- the outcome of a program: success or a fault
abbrev pub ProgramOutcome : Type 0 → Type 0
ProgramOutcome A = Result (Unit {0}) (ProgramFault A)

-- a line is printed and flushed, or the sink fails and a prefix of the line is printed
abbrev pub Prints : Output → Bytes → Type 0
Prints errors line = Sends errors line ⊎ BreaksOff errors line

-- after success nothing is printed, and the status is 0; after a fault the line that reports the fault is printed, and
-- the status is 1
abbrev pub ExitsWith : {A : Type 0} → ProgramOutcome A → Output → ℕ → Type 0
ExitsWith (Ok done) errors status = IsUnwritten errors × (status ≡ 0)
ExitsWith (Err fault) errors status = Prints errors (fault_line fault) × (status ≡ 1)

-- a program has an outcome, and ends with the printed line and the exit status for this outcome
abbrev pub Runs : {A : Type 0} → (ProgramOutcome A → Type 0) → Output → ℕ → Type 0
Runs {A} Works errors status = (outcome : ProgramOutcome A) × Works outcome × ExitsWith outcome errors status
