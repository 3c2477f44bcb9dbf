-- The models of sources and sinks, the results of calls to them, and the flushed bytes.
use Rattle.std.specs.Prelude.{◌≡◌, ℕ, ◌<◌, Bool, ◌++◌, length, Option, Result, IfOk, IsErr, IsSome, IsTrue}
use Rattle.gpkt.specs.Change.{Change, WhereKnown}
use Rattle.gpkt.specs.Packets.{Bytes}

-- a successful write of a nonempty slice writes at least one byte
abbrev pub TakesSome : {E : Type 0} → Result ℕ E → Bytes → Type 0
TakesSome result bytes = 0 < length bytes → IfOk result (λ count. 0 < count)

-- a call fails if the source or sink had failed before the call
abbrev pub AnswersDown : {A E : Type 0} → Bool → Result A E → Type 0
AnswersDown was_down result = IsTrue was_down → IsErr result

-- if the flushed bytes were known before the call, all written bytes are flushed after it
abbrev pub PassesAll : Option Bytes → Change → Type 0
PassesAll written passed_on = IsSome passed_on.old → passed_on.new ≡ written

-- the known flushed bytes stay flushed, and more bytes may be flushed after them
abbrev pub KeepsPassed : Change → Type 0
KeepsPassed passed_on = WhereKnown passed_on (λ old new. (more : Bytes) × (new ≡ old ++ more))

-- a source or sink that wraps another value: the wrapped value, and whether the source or sink has failed
pub record Device (X : Type 0) : Type 0 where
  pub inner : X
  pub down : Bool

-- a sink in memory: the written bytes, the flushed bytes, the number of flushes, and whether the sink has failed
pub record Written : Type 0 where
  pub bytes : Bytes
  pub passed_on : Bytes
  pub flushes : ℕ
  pub down : Bool
