use Rattle.std.proofs.Common.{◌≡◌, ◌∙◌, true, false, Some, slice_index_or, sym, ap}
use Rattle.gobject.specs.Objects.{position_of}
use Rattle.gsession.proofs.CommonLemmas.{known_connected}
use Rattle.gsession.proofs.asks.is_known.Goals as goal

pub returns-in-Some : goal.returns-in-Some
returns-in-Some g c = λ marked.
    let graph = c.args.repo.now.graph in
    let at : position_of graph.entries c.args.id.now ≡ Some c.in-Some.number =
    sym (c.in-Some.ensures ∙ ap (λ h. position_of h.entries c.args.id.now) c.graph.ensures) in
    let mark : slice_index_or c.args.repo.now.known c.in-Some.number false ≡ true =
    sym (ap (λ m. slice_index_or m c.in-Some.number false) c.marks.ensures) ∙ sym c.is_marked.ensures ∙ marked in
    known_connected c.positions_are_nodes.ensures graph.entries c.args.repo.now.known c.args.id.now c.in-Some.number
    c.laws.ensures.graph.differ c.laws.ensures.whole.connected at mark
