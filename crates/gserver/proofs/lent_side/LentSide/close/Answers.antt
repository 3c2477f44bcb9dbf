use Rattle.gserver.proofs.lent_side.LentSide.close.Goals as goal

pub returns-clause-said : goal.returns-clause-said
returns-clause-said g c = rw c.silent.ensures (λ said goes says. says.0)
