use Rattle.gdag.specs.Graphs.{entries_of}
use Rattle.gdag.proofs.Pairs.{taken_pairs, cut}
use Rattle.gdag.proofs.graph.Graph.cut_back.Goals as goal

pub invariant_of-self : goal.invariant_of-self
invariant_of-self g c =
    let old = c.self.inside.nodes.entries in
    let is = taken_pairs old c.truncate.new.self.entries c.args.count c.truncate.ensures.entries in
    cut c.self.inside.format (entries_of old) (entries_of c.truncate.new.self.entries) c.args.count c.args.ordered is c.self.invariant.0 (rw (← c.self.view_is) at c.requires)
