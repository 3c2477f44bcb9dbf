use Rattle.gitpack.proofs.EntryLemmas.{heads_once}
use Rattle.gitpack.proofs.laws.heads_are_one.Goals as goal

pub returns : goal.returns
returns c = heads_once
