use Rattle.std.proofs.Common.{Result, ap, sym, subst}
use Rattle.gdag.specs.Graphs.{History}
use Rattle.gfetch.specs.declared.fault.FetchFault.{FetchFault}
use Rattle.gfetch.specs.declared.fault.FetchFault.TheVariants as fetch
use Rattle.gfetch.specs.declared.fetched.Fetched.{Fetched}
use Rattle.gfetch.specs.steps.Ending.{SettlesFetch}
use Rattle.gfetch.proofs.FetchLemmas.{err_of, fault_keeps_graph, settle_fails}
use Rattle.gfetch.proofs.client.Client.settle.Goals as goal

pub returns-in_err-settled-clause-settles : goal.returns-in_err-settled-clause-settles
returns-in_err-settled-clause-settles g c =
    let cause = c.in_err-settled.field-0.0 in
    let it = c.self.inside in
    rw (← c.self.view_is) (λ ready.
    subst (λ (r : Result (Fetched g.row.A.Denot) (FetchFault g.row.A.Denot)). SettlesFetch it.session it.repo it.unborn c.settle.new.repo r)
    (sym (err_of (fetch.Client cause) c.from_residual.result c.from_residual.ensures.1))
    (settle_fails it.session c.settle.new.self it.repo c.settle.new.repo it.unborn cause ready c.in_err-settled.ensures))

pub returns-clause-settles : goal.returns-clause-settles
returns-clause-settles g c =
    rw (← c.self.view_is) (λ ready. (c.in_ok-settled.ensures.1, c.in_ok-settled.ensures.3, c.rounds-requests.ensures.rounds, c.replace-unborn.ensures.value))

pub returns-in_err-settled-clause-graph : goal.returns-in_err-settled-clause-graph
returns-in_err-settled-clause-graph g c =
    let it = c.self.inside in
    rw (← c.self.view_is)
    (fault_keeps_graph it.session c.settle.new.self it.repo c.settle.new.repo c.in_err-settled.field-0.0 c.in_err-settled.ensures)

pub returns-clause-graph : goal.returns-clause-graph
returns-clause-graph g c =
    rw (← c.self.view_is) (ap (λ (h : History g.row.A.Denot). h.entries) c.in_ok-settled.ensures.3.0.graph)
