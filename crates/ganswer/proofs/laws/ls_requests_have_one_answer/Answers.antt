use Rattle.ganswer.proofs.AnswerLemmas.{has_answer, one_answer}
use Rattle.ganswer.proofs.laws.ls_requests_have_one_answer.Goals as goal

pub returns-clause-exists : goal.returns-clause-exists
returns-clause-exists g c = λ server asked. has_answer server asked

pub returns-clause-one : goal.returns-clause-one
returns-clause-one g c = λ server asked. one_answer server asked c.peels_to_one.ensures
