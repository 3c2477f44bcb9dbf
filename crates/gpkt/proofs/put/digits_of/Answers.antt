use Rattle.std.proofs.Common.{rules}
use Rattle.gpkt.specs.Packets.{digits_of}
use Rattle.gpkt.proofs.put.digits_of.Goals as goal

pub returns-clause-value : goal.returns-clause-value
unfolding digits_of
returns-clause-value c = search rules
