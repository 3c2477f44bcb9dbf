use Rattle.std.proofs.Common.{arith, refl}
use Rattle.gname.specs.declared.digits.TheConstants.{DIGIT_VALUES}
use Rattle.gname.proofs.DigitLemmas.{value_in}
use Rattle.gname.proofs.digits.digit_value.Goals as goal

pub returns : goal.returns
returns c = λ small. value_in DIGIT_VALUES refl c.args.byte (omega arith) small
