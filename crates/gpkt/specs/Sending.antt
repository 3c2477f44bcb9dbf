-- The bytes that a call reads from a source and writes to a sink.
use Rattle.std.specs.Io.KnownBytes.{Appends}
use Rattle.std.specs.Prelude.{◌≡◌, Bool, true, false, ◌++◌, Option, Some, IsSome}
use Rattle.gpkt.specs.Change.{Change, change_of}
use Rattle.gpkt.specs.Devices.{PassesAll}
use Rattle.gpkt.specs.Packets.{Bytes}

-- a source before and after a call: its unread bytes, if known, and whether the source has failed
pub record Input : Type 0 where
  pub read : Change
  pub was_down : Bool
  pub is_down : Bool

abbrev pub input_of : {S : Type 0} → (S → Option Bytes) → (S → Bool) → S → S → Input
input_of remaining is_down old new =
    record { read = change_of remaining old new; was_down = is_down old; is_down = is_down new }

-- the part of the call that begins when the unread bytes of the source are `between`
abbrev pub rest_of : Input → Option Bytes → Input
rest_of input between = record {
  read = record { old = between; new = input.read.new };
  was_down = input.was_down;
  is_down = input.is_down;
}

-- a sink before and after a call: its written and flushed bytes, if known, and whether the sink has failed
pub record Output : Type 0 where
  pub written : Change
  pub passed_on : Change
  pub was_down : Bool
  pub is_down : Bool

abbrev pub output_of : {W : Type 0} → (W → Option Bytes) → (W → Option Bytes) → (W → Bool) → W → W → Output
output_of contents passed_on is_down old new = record {
  written = change_of contents old new;
  passed_on = change_of passed_on old new;
  was_down = is_down old;
  is_down = is_down new;
}

-- the call reads nothing, and the source does not fail
pub record IsUnread (input : Input) : Type 0 where
  pub read : input.read.new ≡ input.read.old
  pub down : input.is_down ≡ input.was_down

-- the source has not failed after the call
abbrev pub IsUp : Input → Type 0
IsUp input = input.is_down ≡ false

-- the call writes and flushes nothing, and the sink does not fail
pub record IsUnwritten (output : Output) : Type 0 where
  pub written : output.written.new ≡ output.written.old
  pub passed_on : output.passed_on.new ≡ output.passed_on.old
  pub down : output.is_down ≡ output.was_down

-- the call writes these bytes, and all written bytes are flushed if the flushed bytes were known before
pub record Sends (output : Output) (bytes : Bytes) : Type 0 where
  pub written : Appends output.written.old output.written.new bytes
  pub passed_on : PassesAll output.written.new output.passed_on
  pub up : output.is_down ≡ false

-- after the call, these bytes and all bytes written before them are flushed, if the written and flushed bytes are known
abbrev pub PassesAfter : Output → Bytes → Type 0
PassesAfter output bytes =
    (old : Bytes) → output.written.old ≡ Some old → IsSome output.passed_on.old
    → (more : Bytes) × (output.passed_on.new ≡ Some (old ++ bytes ++ more))

-- the call writes a prefix of these bytes, perhaps all of them, and the sink has failed
pub record SendsSome (output : Output) (bytes : Bytes) : Type 0 where
  pub front : Bytes
  pub rest : Bytes
  pub parts : bytes ≡ front ++ rest
  pub written : Appends output.written.old output.written.new front
  pub down : output.is_down ≡ true

-- the call writes these bytes, and all written bytes are flushed if the written and flushed bytes are known
pub record Passes (output : Output) (bytes : Bytes) : Type 0 where
  pub written : Appends output.written.old output.written.new bytes
  pub passed_on : IsSome output.written.old → PassesAll output.written.new output.passed_on
  pub up : output.is_down ≡ false

-- the call writes and flushes the bytes `sent`, then writes a prefix of `due`, perhaps all of it, and the sink has
-- failed
pub record SendsAndFails (output : Output) (sent due : Bytes) : Type 0 where
  pub front : Bytes
  pub rest : Bytes
  pub parts : due ≡ front ++ rest
  pub written : Appends output.written.old output.written.new (sent ++ front)
  pub passed_on : PassesAfter output sent
  pub down : output.is_down ≡ true
