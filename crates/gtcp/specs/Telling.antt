-- The printed lines for the faults of connections.
use Rattle.std.specs.Prelude.{◌≡◌, ◌⊎◌, List, [], ◌∷◌, Ok, Err}
use Rattle.std.specs.List.{flat_map}
use Rattle.gpkt.specs.Sending.{Output, IsUnwritten, Passes, SendsSome}
use Rattle.gpkt.specs.Packets.{Bytes}
use Rattle.gcmd.specs.Printing.{fault_line}
use Rattle.gcmd.specs.Programs.{ProgramOutcome}
use Rattle.gcmd.specs.declared.fault.ProgramFault.{ProgramFault}

-- the lines of several faults, one after the other
abbrev pub fault_lines : {A : Type 0} → List (ProgramFault A) → Bytes
fault_lines faults = flat_map fault_line faults

-- there is no fault, and nothing is printed
abbrev pub PrintsNone : {A : Type 0} → Output → List (ProgramFault A) → Type 0
PrintsNone errors faults = (faults ≡ []) × IsUnwritten errors

-- The lines of all faults are printed and flushed. If the sink fails, a prefix of the lines is printed. If there is no
-- fault, nothing is written.
abbrev pub PrintsFaults : {A : Type 0} → Output → List (ProgramFault A) → Type 0
PrintsFaults errors faults =
    PrintsNone errors faults ⊎ (Passes errors (fault_lines faults) ⊎ SendsSome errors (fault_lines faults))

-- ---- connections

-- the fault of a connection, if there is one
abbrev pub fault_in : {A : Type 0} → ProgramOutcome A → List (ProgramFault A)
fault_in (Ok done) = []
fault_in (Err fault) = fault ∷ []

-- the faults of connections, in order
abbrev pub faults_of : {A : Type 0} → List (ProgramOutcome A) → List (ProgramFault A)
faults_of outcomes = flat_map fault_in outcomes
