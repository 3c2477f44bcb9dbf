use Rattle.grequest.proofs.WholeRequests.{manual_from_judge, judge_from_manual}
use Rattle.grequest.proofs.laws.manual.Goals as goal

pub returns : goal.returns
returns c = λ limits format lines asked. (
  manual_from_judge c.grammars_are_exact.ensures limits format lines asked,
  judge_from_manual c.grammars_are_exact.ensures limits format lines asked,
)
