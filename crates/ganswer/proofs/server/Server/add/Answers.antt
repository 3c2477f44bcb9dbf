use Rattle.ganswer.proofs.ServerLemmas.{grown_or_same}
use Rattle.ganswer.proofs.PeelLemmas.{stays_known}
use Rattle.ganswer.proofs.server.Server.add.Goals as goal

pub returns-clause-server : goal.returns-clause-server
returns-clause-server g c =
    let inside = c.self.inside in
    grown_or_same c.closed_stays.ensures inside.graph c.insert.new.self inside.refs inside.head c.args.entry c.self.invariant.0
    (rw c.as_slice.ensures at c.in_default.ensures) c.insert.result c.insert.ensures.adds c.insert.ensures.keeps c.insert.ensures.graph

pub invariant_of-self : goal.invariant_of-self
invariant_of-self g c =
    let inside = c.self.inside in (
      returns-clause-server g c,
      c.self.invariant.1,
      stays_known inside.graph.entries c.insert.new.self.entries c.insert.ensures.keeps c.self.invariant.0.closed inside.refs inside.peels.items c.self.invariant.0.held c.self.invariant.2,
    )
