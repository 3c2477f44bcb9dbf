use Rattle.std.proofs.Common.{ℕ, subst}
use Rattle.gpkt.specs.Sending.{input_of, output_of}
use Rattle.gsession.specs.declared.options.PackOptions.{PackOptions}
use Rattle.gfetch.specs.Conversations.{FetchesOver}
use Rattle.gfetch.specs.Starts.{start_for, start_of}
use Rattle.gclient.proofs.conversation.fetch_over.Goals as goal

pub returns-clause-fetches : goal.returns-clause-fetches
returns-clause-fetches g c =
    let indexes = g.K.Indexer.indexes in
    let fails = g.K.Indexer.index_fails in
    let repo = c.args.repo.now in
    let specs = c.args.specs.now in
    let input = input_of g.S.Source.remaining g.S.Source.is_down c.args.source.now c.fetch_over_with.new.source in
    let output =
    output_of g.W.Sink.contents g.W.Sink.passed_on g.W.Sink.is_down c.args.sink.now c.fetch_over_with.new.sink in
    let new = c.fetch_over_with.new.repo in
    let result = c.fetch_over_with.result in
    subst (λ (limit : ℕ). FetchesOver indexes fails (start_of repo specs limit c.args.ends) input output new result)
    c.from.ensures
    (subst (λ (options : PackOptions). FetchesOver indexes fails
    (start_for repo specs c.from.result c.args.ends options) input output new result)
    c.default.ensures c.fetch_over_with.ensures.fetches)
