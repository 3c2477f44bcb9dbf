use Rattle.std.proofs.Common.{ℕ, ◌≤◌, ◌+◌, IfOk, refl, sym, ap, subst, ◌∙◌}
use Rattle.gpkt.specs.Sending.{input_of, output_of}
use Rattle.gdag.specs.Walks.{CountsReached}
use Rattle.gclientrepo.specs.Repos.{IsConnectedRepo, RepoState}
use Rattle.gsession.specs.Sessions.{tips_of}
use Rattle.gsession.proofs.KeepingLemmas.{keeps_none}
use Rattle.gfetch.specs.Conversations.{FetchesOver}
use Rattle.gfetch.specs.Starts.{Start}
use Rattle.gfetch.specs.Fetching.{start_of_side}
use Rattle.gfetch.proofs.FetchLemmas.{keeps_to, same_start}
use Rattle.gfetch.proofs.fetching.fetch_to.Goals as goal

pub returns-in-Err-clause-fetches : goal.returns-in-Err-clause-fetches
returns-in-Err-clause-fetches g c =
    let input = input_of g.S.Source.remaining g.S.Source.is_down c.args.source.now c.args.source.now in
    let output = output_of g.W.Sink.contents g.W.Sink.passed_on g.W.Sink.is_down c.args.sink.now c.args.sink.now in
    c.in-Err.ensures.fails input output (record { read = refl; down = refl })
    (record { written = refl; passed_on = refl; down = refl })

pub returns-in-Err-clause-keeps : goal.returns-in-Err-clause-keeps
returns-in-Err-clause-keeps g c = keeps_none (g.K.KeepingIndexer.keeps c.args.indexer.now) c.args.repo.now.graph.entries

pub returns-clause-fetches : goal.returns-clause-fetches
returns-clause-fetches g c =
    let indexes = g.K.KeepingIndexer.indexes in
    let fails = g.K.KeepingIndexer.index_fails in
    let plan = c.args.plan.now in
    let input = input_of g.S.Source.remaining g.S.Source.is_down c.args.source.now c.talk-driven.new.source in
    let output = output_of g.W.Sink.contents g.W.Sink.passed_on g.W.Sink.is_down c.args.sink.now c.talk-driven.new.sink in
    let same = same_start c.args.repo.now plan.specs.now plan.limit plan.ends plan.options _ c.new-side.result
    (c.new-side.ensures.repo ∙ c.replace.ensures.value) c.new-side.ensures.session c.in-Ok.ensures.begins in
    subst (λ (s : Start g.row.A.Denot). FetchesOver indexes fails s input output
    c.finish_into-fetched.new.repo c.finish_into-fetched.result) same
    (c.finish_into-fetched.ensures.fetches (start_of_side c.new-side.result) input output c.talk-driven.ensures.ends)

pub returns-clause-bound : goal.returns-clause-bound
returns-clause-bound g c =
    let plan = c.args.plan.now in
    let input = input_of g.S.Source.remaining g.S.Source.is_down c.args.source.now c.talk-driven.new.source in
    let output = output_of g.W.Sink.contents g.W.Sink.passed_on g.W.Sink.is_down c.args.sink.now c.talk-driven.new.sink in
    let same = same_start c.args.repo.now plan.specs.now plan.limit plan.ends plan.options _ c.new-side.result
    (c.new-side.ensures.repo ∙ c.replace.ensures.value) c.new-side.ensures.session c.in-Ok.ensures.begins in
    subst (λ (s : Start g.row.A.Denot). IfOk c.finish_into-fetched.result (λ fetched. (held parents : ℕ)
    → CountsReached s.repo.graph.entries (tips_of s.repo) held parents → fetched.requests ≤ held + 1)) same
    (c.finish_into-fetched.ensures.bound (start_of_side c.new-side.result) input output c.talk-driven.ensures.ends
    (subst (λ (s : Start g.row.A.Denot). IsConnectedRepo s.repo) (sym same) c.laws.ensures.whole))

pub returns-clause-keeps : goal.returns-clause-keeps
returns-clause-keeps g c =
    let name =
    sym (c.into_indexer-indexer.ensures.in_place ∙ (c.finish_into-fetched.ensures.indexer.in_place
    ∙ (c.talk-driven.ensures.keeps.in_place ∙ c.new-side.ensures.in_place))) in
    keeps_to g.K.KeepingIndexer.keeps c.args.indexer.now c.new-side.result.indexer.now c.talk-driven.result.1.indexer.now c.indexer-1.given.0
    c.args.repo.now.graph.entries c.new-side.result.client.repo.graph.entries c.talk-driven.result.1.client.repo.graph.entries c.finish_into-fetched.new.repo.graph.entries
    c.new-side.ensures.indexer
    (c.indexer-1.given.1 name ∙ (c.into_indexer-indexer.ensures.value ∙ c.finish_into-fetched.ensures.indexer.value))
    (ap (λ (r : RepoState g.row.A.Denot). r.graph.entries) (c.new-side.ensures.repo ∙ c.replace.ensures.value))
    c.finish_into-fetched.ensures.graph c.talk-driven.ensures.keeps.keeps_on
