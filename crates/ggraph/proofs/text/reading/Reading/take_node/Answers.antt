use Rattle.std.proofs.Common.{refl}
use Rattle.ggraph.specs.declared.text.Order.TheVariants.{Any}
use Rattle.ggraph.proofs.ReadingLemmas.{no_node_id, no_node_parents, node_taken, node_stopped}
use Rattle.ggraph.proofs.text.reading.Reading.take_node.Goals as goal

pub returns-in_default-clause-refused : goal.returns-in_default-clause-refused
returns-in_default-clause-refused g c =
    (refl, no_node_id c.text_laws.ensures Any c.args.self.now c.args.line.kind c.args.line.ids.now c.requires (rw c.format-format.ensures at c.in_default.ensures))

pub returns-in_default-read-clause-refused : goal.returns-in_default-read-clause-refused
returns-in_default-read-clause-refused g c =
    (refl, no_node_parents c.text_laws.ensures Any c.args.self.now c.args.line.kind c.args.line.ids.now c.in-Some.first.id c.in-Some.first.rest.now c.requires c.in-Some.ensures.0 (rw c.format-format.ensures at c.in-Some.ensures.2) (rw c.format-format.ensures at c.in_default-read.ensures))

pub returns-clause-ok : goal.returns-clause-ok
returns-clause-ok g c =
    node_taken c.text_laws.ensures c.args.order c.args.self.now c.args.line.kind c.args.line.ids.now c.in-Some.first.id c.in-Some.first.rest.now c.in-Some-read.parents.now c.requires c.in-Some.ensures.0 c.in-Some-read.ensures.0 c.add_node-added.new.graph c.add_node-added.result c.add_node-added.ensures.ok

pub returns-clause-refused : goal.returns-clause-refused
returns-clause-refused g c =
    node_stopped c.text_laws.ensures c.args.order c.args.self.now c.args.line.kind c.args.line.ids.now c.in-Some.first.id c.in-Some.first.rest.now c.in-Some-read.parents.now c.requires c.in-Some.ensures.0 c.in-Some-read.ensures.0 c.args.number c.add_node-added.result
    (record { id = rw c.format-format.ensures at c.in-Some.ensures.2; parents = rw c.format-format.ensures at c.in-Some-read.ensures.1 }) c.add_node-added.ensures.refused
