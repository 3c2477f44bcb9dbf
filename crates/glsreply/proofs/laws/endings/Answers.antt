use Rattle.glsreply.specs.LsReplies.{judge}
use Rattle.glsreply.proofs.LawLemmas.{has_endings}
use Rattle.glsreply.proofs.laws.endings.Goals as goal

pub returns-clause-endings : goal.returns-clause-endings
returns-clause-endings c = has_endings c.grammars_are_exact.ensures

pub returns-clause-first : goal.returns-clause-first
returns-clause-first c = λ format ends.
    (c.grammars_are_exact.ensures (judge format ends)).misfits (has_endings c.grammars_are_exact.ensures format ends)
