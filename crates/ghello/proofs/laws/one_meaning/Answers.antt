use Rattle.std.proofs.Common.{sym, ◌∙◌}
use Rattle.ghello.proofs.HelloLemmas.{one_hello}
use Rattle.ghello.proofs.laws.one_meaning.Goals as goal

pub returns : goal.returns
returns c = record { hello = one_hello; advert = λ packets one other says also. says.says ∙ sym also.says }
