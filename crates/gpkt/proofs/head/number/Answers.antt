use Rattle.gpkt.proofs.Digits.{number_of-decoded, number_of-refused}
use Rattle.std.proofs.Common.{ap, ◌∙◌, Some, refl}
use Rattle.gpkt.proofs.head.number.Goals as goal

pub returns-in-Ok : goal.returns-in-Ok
returns-in-Ok c =
    ap Some c.from_be_bytes.ensures ∙ number_of-decoded _ _ _ c.requires c.in-Ok.ensures.value refl c.decode_to_slice.auto.out

pub returns-in-Err : goal.returns-in-Err
returns-in-Err c = number_of-refused _ _ _ _ c.requires c.in-Err.ensures.value refl
