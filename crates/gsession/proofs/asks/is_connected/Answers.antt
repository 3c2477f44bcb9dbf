use Rattle.std.proofs.Common.{◌↔◌, Bool, subst}
use Rattle.std.specs.Bool.{IsTrue}
use Rattle.gdag.specs.Graphs.{Holds}
use Rattle.gdag.specs.Reach.{IsConnected}
use Rattle.gsession.proofs.CommonLemmas.{connected_unless_missing, none_by, unheld_not_connected}
use Rattle.gsession.proofs.asks.is_connected.Goals as goal

pub returns-then-not-contains-clause-connected : goal.returns-then-not-contains-clause-connected
returns-then-not-contains-clause-connected g c =
    let id = c.args.id.now in
    let held = subst (λ h. IsTrue c.contains.result ↔ Holds h.entries id) c.graph.ensures c.contains.ensures in
    unheld_not_connected c.args.repo.now.graph.entries id c.contains.result held c.if-not-contains.true

pub returns-clause-connected : goal.returns-clause-connected
returns-clause-connected g c =
    let entries = c.args.repo.now.graph.entries in
    let id = c.args.id.now in
    let found = c.in_ok-missing.field-0 in
    subst (λ (b : Bool). IsTrue b ↔ IsConnected entries id) (none_by found c.is_none.result c.is_none.ensures)
    (connected_unless_missing entries id found c.in_ok-missing.ensures.answer)
