-- The end of a program.
use Rattle.std.proofs.Common.{◌≡◌, ℕ, List, Result, Ok, Err, inl, inr, subst}
use Rattle.gpkt.specs.Sending.{Output}
use Rattle.gpkt.specs.declared.device.Down.{Down}
use Rattle.gcmd.specs.Outputs.{IsSent}
use Rattle.gcmd.specs.Programs.{Prints}

-- a call that tries to write and flush a line prints the line, or a prefix of the line if the sink fails
pub Prints-sent : (errors : Output) (result : Result (Unit {0}) Down) (sent due : List ℕ) → sent ≡ due → IsSent errors result sent → Prints errors due
Prints-sent errors (Ok done) sent due same h = subst (Prints errors) same (inl h)
Prints-sent errors (Err fault) sent due same h = subst (Prints errors) same (inr h)
