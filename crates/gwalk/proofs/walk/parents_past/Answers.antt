use Rattle.std.proofs.Common.{sym, ◌∙◌}
use Rattle.gwalk.proofs.Stopping.{lends_none, lends_all}
use Rattle.gwalk.proofs.walk.parents_past.Goals as goal

pub returns-then-is_marked : goal.returns-then-is_marked
returns-then-is_marked g c =
    lends_none c.args.known.now c.args.graph.now.entries c.args.position (sym c.is_marked.ensures ∙ c.if-is_marked.true) c.requires

pub returns : goal.returns
returns g c =
    lends_all c.args.known.now c.args.graph.now.entries c.args.position c.parents.result.now (sym c.is_marked.ensures ∙ c.if-is_marked.false) c.parents.ensures
