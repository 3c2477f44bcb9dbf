-- Flushing bytes that were written.
use Rattle.std.proofs.Common.{◌≡◌, ℕ, List, Ok, Err, Result, inr, ◌∙◌}
use Rattle.std.specs.Prelude.{OnErr, OnOk, is_err}
use Rattle.std.proofs.KnownBytes.{Appends-kept}
use Rattle.std.specs.Io.KnownBytes.{Keeps}
use Rattle.gpkt.specs.Change.{change_of}
use Rattle.gpkt.specs.Devices.{KeepsPassed, PassesAll}
use Rattle.gpkt.proofs.Joins.{IsSome-kept}
use Rattle.gpkt.proofs.SendingLemmas.{keeps_on}
use Rattle.gpkt.specs.declared.device.Down.{Down}
use Rattle.gpkt.specs.declared.device.Sink.{Ghosts}
use Rattle.gpkt.specs.Streams.{SameSink}
use Rattle.gcmd.specs.steps.Outputs.{Puts, SendsTo}

module _ {W : Type 0} (sink : Ghosts W) where
  -- all bytes are written, and then the flush succeeds or fails
  pub SendsTo-flushed : (a b c : W) (bytes : List ℕ) (result : Result (Unit {0}) Down) → Puts sink a b (Ok tt) bytes
      → Keeps (sink.contents b) (sink.contents c) → OnOk result (PassesAll (sink.contents c) (change_of sink.passed_on b c))
      → OnErr result (KeepsPassed (change_of sink.passed_on b c)) → sink.is_down c ≡ is_err result → SameSink sink b c
      → SendsTo sink a c result bytes
  SendsTo-flushed a b c bytes (Ok done) put kept passes keeps up same = (
    record {
      written = Appends-kept _ _ _ bytes put.0.0 kept;
      passed_on = λ known. passes (IsSome-kept _ _ put.0.1 known);
      up = up;
    },
    same ∙ put.1,
  )
  SendsTo-flushed a b c bytes (Err fault) put kept passes keeps down same = (
    inr (record {
      written = Appends-kept _ _ _ bytes put.0.0 kept;
      passed_on = keeps_on (sink.passed_on a) (sink.passed_on b) (sink.passed_on c) put.0.1 keeps;
      down = down;
    }),
    same ∙ put.1,
  )
