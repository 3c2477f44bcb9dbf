use Rattle.std.proofs.Common.{arith, refl}
use Rattle.std.specs.List.{range_with_len}
use Rattle.hex.specs.Hex.{encode_lower}
use Rattle.hex.proofs.OnLiterals.{hex_on_literals}
use Rattle.gname.proofs.DigitLemmas.{pair_at}
use Rattle.gname.proofs.digits.digit_pair.Goals as goal

pub returns-clause-high : goal.returns-clause-high
unfolding hex_on_literals
returns-clause-high c = (pair_at (encode_lower (range_with_len 0 256)) refl c.args.byte (omega arith)).0

pub returns-clause-low : goal.returns-clause-low
unfolding hex_on_literals
returns-clause-low c = (pair_at (encode_lower (range_with_len 0 256)) refl c.args.byte (omega arith)).1
