use Rattle.std.proofs.Common.{sym, ◌∙◌}
use Rattle.std.proofs.lemmas.Bool.{false≢true}
use Rattle.ggraph.proofs.SaveLemmas.{head_is_not, head_is_other}
use Rattle.ggraph.proofs.text.saving.other_head.Goals as goal

pub returns-then-is_of : goal.returns-then-is_of
returns-then-is_of g c = rw c.in-Id.is (head_is_not c.args.format c.in-Id.id (c.is_of.ensures.0 c.if-is_of.true))

pub returns-else-is_of : goal.returns-else-is_of
returns-else-is_of g c = rw c.in-Id.is (head_is_other c.args.format c.in-Id.id (λ is. absurd (false≢true (sym c.if-is_of.false ∙ c.is_of.ensures.1 is))))
