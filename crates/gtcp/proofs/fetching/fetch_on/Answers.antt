use Rattle.std.proofs.Common.{ℕ, inl, subst}
use Rattle.ghello.specs.Hello.{Hello, IsHello}
use Rattle.gsession.specs.declared.options.PackOptions.{PackOptions}
use Rattle.gfetch.specs.Starts.{start_for, start_of}
use Rattle.gtcp.specs.Sockets.{FetchesFrom}
use Rattle.gtcp.proofs.fetching.fetch_on.Goals as goal

pub returns-clause-fetches : goal.returns-clause-fetches
returns-clause-fetches g c =
    let indexes = g.K.Indexer.indexes in
    let fails = g.K.Indexer.index_fails in
    let repo = c.args.repo.now in
    let new = c.fetch_git_on.new.repo in
    let result = c.fetch_git_on.result in
    inl (
      subst IsHello c.in-Ok.ensures.0 c.in-Ok.ensures.1,
      subst (λ (hello : Hello). FetchesFrom indexes fails
          (start_of repo c.args.specs.now c.args.limit c.args.ends) hello new result) c.in-Ok.ensures.0
          (subst (λ (limit : ℕ). FetchesFrom indexes fails
          (start_of repo c.args.specs.now limit c.args.ends) c.in-Ok.hello new result) c.from-2.ensures
          (subst (λ (options : PackOptions). FetchesFrom indexes fails
          (start_for repo c.args.specs.now c.from-2.result c.args.ends options) c.in-Ok.hello new result)
          c.default.ensures c.fetch_git_on.ensures.fetches)),
    )
