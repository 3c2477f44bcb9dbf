-- Reading packets.
use Rattle.std.proofs.Common.{◌≡◌, ℕ, List, Option, Err, Bool, false, refl, sym, ◌∙◌}
use Rattle.gpkt.specs.PacketReading.{Reader, HasRead}
use Rattle.gpkt.specs.declared.fault.PacketFault.{PacketFault}
use Rattle.gpkt.specs.declared.fault.PacketFault.TheVariants.{BadDigits, Reserved, TooLong, Truncated, Io, Failed, Memory}
use Rattle.ggrammar.specs.MessageReading.{IsReadFailure}
use Rattle.ggrammar.specs.declared.fault.Why.TheVariants as why

-- the fault of a failed read, if the reader had not failed before
pub read_failure : {S : Type 0} (remaining : S → Option (List ℕ)) (is_down : S → Bool) (loans : S → List ℕ) (old new : Reader S) (fault : PacketFault)
    → old.failed ≡ false → HasRead remaining is_down loans old new (Err fault) → IsReadFailure false (is_down new.source) (why.Line fault)
read_failure remaining is_down loans old new BadDigits ready h = (refl, h.after.2)
read_failure remaining is_down loans old new Reserved ready h = (refl, h.after.2)
read_failure remaining is_down loans old new TooLong ready h = (refl, h.after.2)
read_failure remaining is_down loans old new Truncated ready h = (refl, h.after.2)
read_failure remaining is_down loans old new Io ready h = (refl, h.after.2)
read_failure remaining is_down loans old new Failed ready h = sym ready ∙ h.after.0
read_failure remaining is_down loans old new Memory ready h = absurd h.after
