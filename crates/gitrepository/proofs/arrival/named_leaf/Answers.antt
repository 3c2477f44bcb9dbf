use Rattle.std.proofs.Common.{rules}
use Rattle.gitrepository.proofs.ArrivalLemmas.{target_needed}
use Rattle.gitrepository.proofs.arrival.named_leaf.Goals as goal

pub returns-in-Tree-clause-needed : goal.returns-in-Tree-clause-needed
returns-in-Tree-clause-needed g c = target_needed c.args.tag.now c.in_ok-link.link (search rules)

pub returns-in-Blob-clause-needed : goal.returns-in-Blob-clause-needed
returns-in-Blob-clause-needed g c = target_needed c.args.tag.now c.in_ok-link.link (search rules)
