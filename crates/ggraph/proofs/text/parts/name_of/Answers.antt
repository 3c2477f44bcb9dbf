use Rattle.std.proofs.Common.{◌≡◌, rules}
use Rattle.gname.specs.declared.faults.NameFault.TheVariants.{Memory}
use Rattle.ggraph.proofs.NameLemmas.{only_memory}
use Rattle.ggraph.proofs.text.parts.name_of.Goals as goal

pub returns-in-Err-Memory : goal.returns-in-Err-Memory
returns-in-Err-Memory g c =
    let is : c.in-Err-Memory.field-0 ≡ Memory = search rules in
    record { well_formed = only_memory c.text_laws.ensures c.args.text.now c.in-Err-Memory.field-0 is c.in-Err-Memory.ensures; below = (cc) }
