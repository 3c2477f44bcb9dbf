use Rattle.gdag.proofs.Refusing.{whole_refusal, one_outcome, refuses_of}
use Rattle.gdag.proofs.laws.whole_lists_come_in.Goals as goal

pub returns : goal.returns
returns g c = λ format old entries new inserts. (λ fault refused. whole_refusal format entries old new fault inserts (refuses_of format old entries fault refused), λ other again. one_outcome format entries old new other inserts again)
