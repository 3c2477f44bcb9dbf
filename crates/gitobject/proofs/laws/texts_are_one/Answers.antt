use Rattle.gitobject.proofs.Words.{text_once}
use Rattle.gitobject.proofs.laws.texts_are_one.Goals as goal

pub returns : goal.returns
returns c = text_once
