use Rattle.std.proofs.Common.{arith, rules}
use Rattle.std.proofs.lemmas.Grind.{common_steps}
use Rattle.gitrefs.proofs.BranchLemmas.{branch_reads}
use Rattle.gitrefs.proofs.texts.branch_text.Goals as goal

pub returns-clause-reads : goal.returns-clause-reads
returns-clause-reads g c = branch_reads c.args.branch.now c.push.new.self.items c.name.ensures.below.well_formed (grind (arith, common_steps))
