use Rattle.std.proofs.Common.{◌∙◌}
use Rattle.gserver.proofs.ErrorLemmas.{err_line}
use Rattle.gserver.proofs.lent_side.LentSide.decline.Goals as goal

pub returns-clause-said : goal.returns-clause-said
returns-clause-said g c =
    rw c.refusal_of.ensures (λ said goes says. says.0 ∙ err_line c.words_of-words.result c.args.fault c.words_of-words.ensures)
