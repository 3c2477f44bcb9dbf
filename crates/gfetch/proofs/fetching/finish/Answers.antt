use Rattle.std.proofs.Common.{ℕ, sym, ◌∙◌}
use Rattle.gdag.specs.Walks.{CountsReached}
use Rattle.gsession.specs.Sessions.{tips_of}
use Rattle.gfetch.proofs.FetchLemmas.{closed_after, closed_bound, over_broken, over_fault, settled_bound, settled_over}
use Rattle.gfetch.proofs.fetching.finish.Goals as goal

pub returns-in-Err-clause-fetches : goal.returns-in-Err-clause-fetches
returns-in-Err-clause-fetches g c = λ start input output ends.
    over_broken g.K.KeepingIndexer.indexes g.K.KeepingIndexer.index_fails start input output c.args.side.now c.args.side.now c.args.driven ends _ c.in-Err.is

pub returns-in-Some-clause-fetches : goal.returns-in-Some-clause-fetches
returns-in-Some-clause-fetches g c = λ start input output ends.
    over_fault g.K.KeepingIndexer.indexes g.K.KeepingIndexer.index_fails start input output c.args.side.now c.take_fault.new.self c.args.driven ends _ c.in-Some.fault c.in-Ok.is
    (sym c.take_fault.ensures.fault ∙ c.in-Some.is) c.take_fault.ensures.client

pub returns-in-None-clause-fetches : goal.returns-in-None-clause-fetches
returns-in-None-clause-fetches g c = λ start input output ends.
    let indexes = g.K.KeepingIndexer.indexes in
    let fails = g.K.KeepingIndexer.index_fails in
    let t = c.take_fault in
    let closed = closed_after indexes fails start input output c.args.side.now t.new.self c.args.driven ends _ c.in-Ok.is
    (sym t.ensures.fault ∙ c.in-None.is) t.ensures.client in
    settled_over indexes fails start input output t.new.self closed c.settle.new.self.repo c.settle.result (c.settle.ensures.settles closed.settles_next)

pub returns-in-None-clause-bound : goal.returns-in-None-clause-bound
returns-in-None-clause-bound g c = λ start input output ends whole.
    let indexes = g.K.KeepingIndexer.indexes in
    let fails = g.K.KeepingIndexer.index_fails in
    let t = c.take_fault in
    let closed = closed_after indexes fails start input output c.args.side.now t.new.self c.args.driven ends _ c.in-Ok.is
    (sym t.ensures.fault ∙ c.in-None.is) t.ensures.client in
    settled_bound t.new.self.client.session t.new.self.client.repo c.settle.new.self.repo t.new.self.client.unborn
    (λ (held parents : ℕ). CountsReached start.repo.graph.entries (tips_of start.repo) held parents) c.settle.result (c.settle.ensures.settles closed.settles_next)
    (closed_bound indexes fails start input output t.new.self closed c.distinct_are_once.ensures c.began_stays.ensures c.rounds_are_few.ensures whole c.settle.ensures.well)
