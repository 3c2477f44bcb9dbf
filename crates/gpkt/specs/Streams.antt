-- The effect of a call on a source and on a sink. A call never changes the borrows through which a source or a sink is
-- accessed.
use Rattle.std.specs.Prelude.{◌≡◌}
use Rattle.gpkt.specs.Sending.{Input, Output, input_of, output_of}
use Rattle.gpkt.specs.declared.device.Sink.{Ghosts as SinkGhosts}
use Rattle.gpkt.specs.declared.device.Source.{Ghosts as SourceGhosts}

-- a source before and after a call
abbrev pub taken : {S : Type 0} → SourceGhosts S → S → S → Input
taken source old new = input_of source.remaining source.is_down old new

-- a sink before and after a call
abbrev pub given : {W : Type 0} → SinkGhosts W → W → W → Output
given sink old new = output_of sink.contents sink.passed_on sink.is_down old new

-- a call leaves the borrows of a source unchanged
abbrev pub SameSource : {S : Type 0} → SourceGhosts S → S → S → Type 0
SameSource source old new = source.loans new ≡ source.loans old

-- a call leaves the borrows of a sink unchanged
abbrev pub SameSink : {W : Type 0} → SinkGhosts W → W → W → Type 0
SameSink sink old new = sink.loans new ≡ sink.loans old

-- the call has this effect on a sink
abbrev pub OnSink : {W : Type 0} → SinkGhosts W → W → W → (Output → Type 0) → Type 0
OnSink sink old new Effect = Effect (given sink old new) × SameSink sink old new

-- the call has this effect on a source and a sink
abbrev pub OnBoth : {S W : Type 0} → SourceGhosts S → S → S → SinkGhosts W → W → W → (Input → Output → Type 0) → Type 0
OnBoth source old_source new_source sink old new Effect =
    Effect (taken source old_source new_source) (given sink old new)
    × SameSource source old_source new_source × SameSink sink old new
