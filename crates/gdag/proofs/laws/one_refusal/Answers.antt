use Rattle.gdag.proofs.Refusing.{one_refusal, refuses_of}
use Rattle.gdag.proofs.laws.one_refusal.Goals as goal

pub returns : goal.returns
returns g c = λ format old entries fault other one two some more. one_refusal format entries old fault other (refuses_of format old entries fault one) (refuses_of format old entries other two) some more
