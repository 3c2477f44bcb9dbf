-- Definitions for private functions and proofs: the time for the message that a client of the server may send now.
use Rattle.std.specs.Prelude.{◌≡◌, ℕ, Option, None, Some}
use Rattle.gtcp.specs.declared.timer.Turn.{Turn}
use Rattle.gtcp.specs.declared.timer.Turn.TheVariants as turn
use Rattle.gtcp.specs.steps.Deadlines.{LeavesOf, request_time}

-- the client's remaining time: the rest of the time for a message that has started, the full time for a request whose
-- time has not started, and otherwise no time
abbrev pub LeavesTurn : Turn → ℕ → Option (ℕ × ℕ) → Type 0
LeavesTurn (turn.Given time) now rest = LeavesOf time now rest
LeavesTurn turn.Awaited now rest = rest ≡ Some (request_time, now)
LeavesTurn turn.Over now rest = rest ≡ None
