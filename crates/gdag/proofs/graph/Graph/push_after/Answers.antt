use Rattle.std.proofs.Common.{◌≡◌, ◌∙◌, None, ap}
use Rattle.gobject.specs.Objects.{node_at}
use Rattle.gdag.specs.Graphs.{entries_of}
use Rattle.gdag.proofs.Pairs.{pushed_pairs, pushed}
use Rattle.gdag.proofs.graph.Graph.push_after.Goals as goal

pub invariant_of-self-2 : goal.invariant_of-self-2
invariant_of-self-2 g c =
    let v = c.self.view_is in
    let old = entries_of c.self.inside.nodes.entries in
    let absent : node_at old c.args.entry.id ≡ None = ap (λ h. node_at h.entries c.args.entry.id) v ∙ c.requires.new in
    let stays = rw (← v) at c.stays_ordered-ordered.ensures in
    let parents = rw (← v) at c.requires.parents in
    let is = pushed_pairs c.self.inside.nodes c.insert.new.self.entries c.args.entry absent c.in_ok-insert.ensures.entries in
    pushed c.self.inside.format old (entries_of c.insert.new.self.entries) c.args.entry c.stays_ordered-ordered.result is c.self.invariant.0 absent (rw (← v) at c.requires.ids) c.requires.shaped (rw (← v) at c.requires.room)
    (λ t. ((stays.0 t).0, parents.0 (stays.0 t).1), λ both. stays.1 (both.0, parents.1 both.1))

pub returns-clause-graph : goal.returns-clause-graph
returns-clause-graph g c = (invariant_of-self-2 g c).0
