use Rattle.std.proofs.lemmas.Result.{err_from_is_err_and}
use Rattle.ggraph.proofs.Loadable.{loads_again}
use Rattle.ggraph.proofs.text.saving.save.Goals as goal

pub returns-in_err-text-clause-text : goal.returns-in_err-text-clause-text
returns-in_err-text-clause-text g c =
    let p = err_from_is_err_and c.from_residual.result c.from_residual.ensures.1 in
    rw (p.1, p.2) (rw (c.format.ensures, c.as_slice.ensures.refs) at c.in_default.ensures)

pub returns-clause-loadable : goal.returns-clause-loadable
returns-clause-loadable g c =
    loads_again c.entries_come_in_order.ensures c.refs_come_in_order.ensures c.args.graph.now c.args.refs.now c.args.head.now
    c.in_ok-text.ensures.graph c.as_slice.ensures.valid c.in_ok-text.ensures.head
    (rw (c.format.ensures, c.as_slice.ensures.refs) at c.in_default.ensures)
