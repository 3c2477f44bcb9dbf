use Rattle.grequest.proofs.WholeRequests.{HasEndings-judge}
use Rattle.grequest.proofs.laws.endings.Goals as goal

pub returns : goal.returns
returns c =
    let exact = c.grammars_are_exact.ensures in
    record {
      each = HasEndings-judge exact;
      first = λ limits format. (exact _).misfits (HasEndings-judge exact limits format);
    }
