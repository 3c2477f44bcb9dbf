use Rattle.gdag.proofs.OrderLemmas as order
use Rattle.gdag.proofs.laws.entries_come_in_order.Goals as goal

pub returns : goal.returns
returns g c = order.entries_come_in_order _
