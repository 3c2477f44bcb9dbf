use Rattle.ganswer.proofs.FitLemmas.{ls_answers_fit}
use Rattle.ganswer.proofs.laws.ls_answers_fit.Goals as goal

pub returns : goal.returns
returns g c = ls_answers_fit c.positions_are_nodes.ensures c.head_is_a_name.ensures
