use Rattle.std.proofs.Common.{sym, arith}
use Rattle.gitwalk.proofs.walk.names_object.Goals as goal

pub returns : goal.returns
returns c = record { name = sym c.requires; bytes = λ i. omega (arith, c.type_inv.body i); sized = omega arith }
