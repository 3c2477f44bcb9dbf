-- Definitions for private functions and proofs of the programs that open sockets: listings, servers and pairs.
use Rattle.std.specs.Prelude.{◌≡◌, ◌⊎◌, ℕ, Bool, true, false, List, length, All, Result, Ok, Err}
use Rattle.gpkt.specs.Sending.{Output, IsUnwritten, Passes, Sends, SendsSome}
use Rattle.gpkt.specs.Packets.{Bytes}
use Rattle.ggrammar.specs.declared.ends.Ends.{Ends}
use Rattle.ggrammar.specs.declared.fault.MessageFault.{MessageFault}
use Rattle.gobject.specs.Packs.{PackFails, Packs}
use Rattle.grequest.specs.Building.{LimitedLsRefs}
use Rattle.ganswer.specs.Servers.{Server}
use Rattle.gpair.specs.declared.fault.PairFault.{PairFault}
use Rattle.gpair.specs.declared.fault.PairFault.TheVariants as pair
use Rattle.gcmd.specs.Printing.{fault_line}
use Rattle.gcmd.specs.Programs.{ProgramOutcome}
use Rattle.gcmd.specs.declared.fault.ProgramFault.{ProgramFault}
use Rattle.gcmd.specs.declared.fault.ProgramFault.TheVariants as program
use Rattle.gtcp.specs.Sockets.{FitPrefixes, IsServed, RefusesPrefixes, asked_for}
use Rattle.gtcp.specs.Telling.{PrintsNone, fault_lines, faults_of}

-- ---- listing

-- the request for these prefixes, or the reason to refuse them
abbrev pub MakesRequest : List Bytes → Result LimitedLsRefs MessageFault → Type 0
MakesRequest prefixes (Ok request) = (request.asked ≡ asked_for prefixes) × FitPrefixes prefixes
MakesRequest prefixes (Err cause) = RefusesPrefixes prefixes cause

-- ---- serving

-- the faults so far are printed; the flag states whether the error sink still works
abbrev pub PrintsSoFar : {A : Type 0} → Output → List (ProgramFault A) → Bool → Type 0
PrintsSoFar errors faults true = PrintsNone errors faults ⊎ Passes errors (fault_lines faults)
PrintsSoFar errors faults false = SendsSome errors (fault_lines faults)

-- the effect of reporting a connection: the fault of the connection is printed, if there is one and all earlier faults
-- could be printed
abbrev pub Tells : {A : Type 0} → ProgramOutcome A → Bool → Bool → Output → Type 0
Tells (Ok done) could can errors = IsUnwritten errors × (can ≡ could)
Tells (Err fault) false can errors = IsUnwritten errors × (can ≡ false)
Tells (Err fault) true true errors = Sends errors (fault_line fault)
Tells (Err fault) true false errors = SendsSome errors (fault_line fault)

module _ {A : Type 0} (server : Server A) (packs : Packs A) (fails : PackFails A) (path : Bytes) (ends : Ends) where
  -- this number of connections has been served so far, and their faults are printed; the flag states whether the error
  -- sink still works
  pub record ServesSoFar (errors : Output) (is_up : Bool) (connections : ℕ) : Type 0 where
    pub outcomes : List (ProgramOutcome A)
    pub each : All (IsServed server packs fails path ends) outcomes
    pub prints : PrintsSoFar errors (faults_of outcomes) is_up
    pub count : length outcomes ≡ connections

-- ---- pairs

-- the fault of the program for a fetch between two ends that failed
abbrev pub program_fault_of : {A : Type 0} → PairFault A → ProgramFault A
program_fault_of pair.TooLong = program.PairLimit
program_fault_of pair.Memory = program.Memory
program_fault_of (pair.Fetch cause) = program.Fetch cause
