use Rattle.gwalk.proofs.ancestry.missing_counted.Goals as goal

pub missing_known-requires : goal.missing_known-requires
missing_known-requires g c = c.new.ensures.connected c.args.graph.now.entries

pub returns-clause-count : goal.returns-clause-count
returns-clause-count g c = rw c.new.ensures.none at c.missing_known-2.ensures.count
