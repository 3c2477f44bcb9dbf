use Rattle.gname.proofs.NameLemmas.{rules_never_report_memory}
use Rattle.gname.proofs.laws.rules_never_report_memory.Goals as goal

pub returns : goal.returns
returns c = rules_never_report_memory
