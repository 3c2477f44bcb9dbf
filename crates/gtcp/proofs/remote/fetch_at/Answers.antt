use Rattle.std.proofs.Common.{ℕ, Ok, Err, refl, subst}
use Rattle.ghello.specs.Hello.{Hello}
use Rattle.gsession.specs.declared.options.PackOptions.{PackOptions}
use Rattle.gfetch.specs.Starts.{start_for, start_of}
use Rattle.gcmd.specs.Fetching.{plain_index_fails, plain_indexes}
use Rattle.gtcp.specs.Sockets.{FetchesFrom}
use Rattle.gtcp.proofs.remote.fetch_at.Goals as goal

pub returns-in_default-clause-fetches : goal.returns-in_default-clause-fetches
returns-in_default-clause-fetches g c = refl

pub returns-in-Ok-clause-fetches : goal.returns-in-Ok-clause-fetches
returns-in-Ok-clause-fetches g c =
    let fetch = c.args.fetch.now in
    subst (λ (hello : Hello). FetchesFrom plain_indexes (plain_index_fails g.row.A.Denot)
    (start_of c.args.repo.now fetch.specs.now fetch.limit fetch.ends) hello c.fetch_from.new.repo (Ok c.in-Ok.fetched))
    c.hello.ensures
    (subst (λ (limit : ℕ). FetchesFrom plain_indexes (plain_index_fails g.row.A.Denot)
    (start_of c.args.repo.now fetch.specs.now limit fetch.ends) c.hello.result.now c.fetch_from.new.repo
    (Ok c.in-Ok.fetched))
    c.from.ensures
    (subst (λ (options : PackOptions). FetchesFrom plain_indexes (plain_index_fails g.row.A.Denot)
    (start_for c.args.repo.now fetch.specs.now c.from.result fetch.ends options) c.hello.result.now
    c.fetch_from.new.repo (Ok c.in-Ok.fetched))
    c.default.ensures c.in-Ok.ensures.fetches))

pub returns-clause-fetches : goal.returns-clause-fetches
returns-clause-fetches g c =
    let fetch = c.args.fetch.now in
    subst (λ (hello : Hello). FetchesFrom plain_indexes (plain_index_fails g.row.A.Denot)
    (start_of c.args.repo.now fetch.specs.now fetch.limit fetch.ends) hello c.fetch_from.new.repo (Err c.in-Err.fault))
    c.hello.ensures
    (subst (λ (limit : ℕ). FetchesFrom plain_indexes (plain_index_fails g.row.A.Denot)
    (start_of c.args.repo.now fetch.specs.now limit fetch.ends) c.hello.result.now c.fetch_from.new.repo
    (Err c.in-Err.fault))
    c.from.ensures
    (subst (λ (options : PackOptions). FetchesFrom plain_indexes (plain_index_fails g.row.A.Denot)
    (start_for c.args.repo.now fetch.specs.now c.from.result fetch.ends options) c.hello.result.now
    c.fetch_from.new.repo (Err c.in-Err.fault))
    c.default.ensures c.in-Err.ensures.fetches))
