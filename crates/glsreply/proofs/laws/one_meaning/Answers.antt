use Rattle.std.proofs.Common.{sym, ◌∙◌}
use Rattle.glsreply.proofs.laws.one_meaning.Goals as goal

pub returns : goal.returns
returns c = λ format ends packets one other says also. says.says ∙ sym also.says
