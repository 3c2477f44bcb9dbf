-- The bytes that one call to a packet writer writes, and the state after the call (gitprotocol-common(5), "pkt-line
-- Format").
use Rattle.std.specs.Io.KnownBytes.{Appends, Keeps}
use Rattle.std.specs.Prelude.{◌≡◌, ℕ, ◌<◌, Bool, true, false, List, ◌++◌, length, Option, Result, Ok, Err}
use Rattle.gpkt.specs.Change.{Change, change_of}
use Rattle.gpkt.specs.Devices.{KeepsPassed, PassesAll}
use Rattle.gpkt.specs.Packets.{Bytes}
use Rattle.gpkt.specs.declared.fault.WriteFault.{WriteFault}
use Rattle.gpkt.specs.declared.fault.WriteFault.TheVariants.{Failed, Payload, Io}

-- a packet writer: its sink, and whether one of its calls has failed
pub record Writer (W : Type 0) : Type 0 where
  pub sink : W
  pub failed : Bool

-- the call writes a proper prefix of these bytes, if the bytes written before are known
abbrev pub AppendsFront : Change → Bytes → Type 0
AppendsFront written bytes =
    (front : Bytes) × (rest : Bytes) × (bytes ≡ front ++ rest) × (0 < length rest)
    × Appends written.old written.new front

module _
    {W : Type 0} (contents_of passed_on_of : W → Option Bytes) (is_down : W → Bool)
    (loans_of : W → List ℕ)
  where
    -- the writer had not failed before the call; the boolean states whether the writer and its sink have failed after
    -- the call
    abbrev pub SetsWriter : Writer W → Writer W → Bool → Type 0
    SetsWriter old new failed = (old.failed ≡ false) × (new.failed ≡ failed) × (is_down new.sink ≡ failed)

    -- the bytes written before and after the call
    abbrev pub written_by : Writer W → Writer W → Change
    written_by old new = change_of contents_of old.sink new.sink

    -- the bytes flushed before and after the call
    abbrev pub passed_on_by : Writer W → Writer W → Change
    passed_on_by old new = change_of passed_on_of old.sink new.sink

    -- the state after a call that writes these bytes, for each of its results
    abbrev pub Wrote : Writer W → Writer W → Result Unit WriteFault → Bytes → Type 0
    Wrote old new (Ok done) bytes =
        SetsWriter old new false × Appends (contents_of old.sink) (contents_of new.sink) bytes
    Wrote old new (Err Io) bytes = SetsWriter old new true × AppendsFront (written_by old new) bytes
    Wrote old new (Err Payload) bytes = (old.failed ≡ false) × (new ≡ old)
    Wrote old new (Err Failed) bytes = (old.failed ≡ true) × (new ≡ old)

    -- the outcome of one call that writes these bytes and does not flush the sink
    pub record HasWritten (old new : Writer W) (result : Result Unit WriteFault) (bytes : Bytes) : Type 0 where
      pub outcome : Wrote old new result bytes
      pub passed_on : Keeps (passed_on_of old.sink) (passed_on_of new.sink)
      pub loans : loans_of new.sink ≡ loans_of old.sink

    -- the state after a call that flushes the sink, for each of its results
    abbrev pub Pushed : Writer W → Writer W → Result Unit WriteFault → Type 0
    Pushed old new (Ok done) = SetsWriter old new false × PassesAll (contents_of new.sink) (passed_on_by old new)
    Pushed old new (Err Io) = SetsWriter old new true × KeepsPassed (passed_on_by old new)
    Pushed old new (Err Payload) = ⊥
    Pushed old new (Err Failed) = (old.failed ≡ true) × (new ≡ old)

    -- the outcome of one call that flushes the sink and writes no bytes
    pub record HasPushed (old new : Writer W) (result : Result Unit WriteFault) : Type 0 where
      pub outcome : Pushed old new result
      pub written : Keeps (contents_of old.sink) (contents_of new.sink)
      pub loans : loans_of new.sink ≡ loans_of old.sink
