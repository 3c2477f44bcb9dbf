use Rattle.ghello.proofs.HelloLemmas.{hello_has_endings, open_is_short}
use Rattle.ghello.proofs.hello.HelloReaderMessage.laws.Goals as goal

pub returns-clause-endings : goal.returns-clause-endings
returns-clause-endings g c = λ message. hello_has_endings (c.grammars_are_exact.ensures _).nothing

pub returns-clause-bounded : goal.returns-clause-bounded
returns-clause-bounded g c = λ message. open_is_short
