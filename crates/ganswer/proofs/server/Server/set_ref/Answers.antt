use Rattle.std.proofs.Common.{sym, subst}
use Rattle.ganswer.specs.LsAnswers.{KnowsPeels}
use Rattle.ganswer.proofs.ServerLemmas.{with_ref_or_same}
use Rattle.ganswer.proofs.PeelLemmas.{knows_none}
use Rattle.ganswer.proofs.server.Server.set_ref.Goals as goal

pub invariant_of-self : goal.invariant_of-self
invariant_of-self g c =
    let inside = c.self.inside in (
      with_ref_or_same inside.graph inside.refs c.set.new.self inside.head c.args.name c.args.id c.self.invariant.0
          (c.contains.ensures.0 c.if-not-contains.false) c.set.result c.set.ensures.ok c.set.ensures.err c.set.ensures.refs,
      c.self.invariant.1,
      subst (KnowsPeels inside.graph.entries c.set.new.self) (sym c.new.ensures.items) (knows_none inside.graph.entries c.set.new.self),
    )

pub returns-in-Ok-clause-server : goal.returns-in-Ok-clause-server
returns-in-Ok-clause-server g c =
    let inside = c.self.inside in
    with_ref_or_same inside.graph inside.refs c.set.new.self inside.head c.args.name c.args.id c.self.invariant.0
    (c.contains.ensures.0 c.if-not-contains.false) c.set.result c.set.ensures.ok c.set.ensures.err c.set.ensures.refs
