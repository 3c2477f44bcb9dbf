use Rattle.std.proofs.Common.{Err, Ok, subst, sym}
use Rattle.ghello.specs.Hello.{IsHello}
use Rattle.gcmd.specs.declared.fault.ProgramFault.{ProgramFault}
use Rattle.gtcp.specs.Remote.{FetchesInPair}
use Rattle.gtcp.proofs.PairLemmas.{fetched_between, pair_fails, pair_fetches}
use Rattle.gtcp.proofs.pair.converse.Goals as goal

pub returns-in-Ok-fetch_between-clause-fetches : goal.returns-in-Ok-fetch_between-clause-fetches
returns-in-Ok-fetch_between-clause-fetches g c =
    let old = c.args.repo.now in
    let specs = c.args.specs.now in
    let new = c.fetch_between.new.repo in
    let fetched = c.in-Ok-fetch_between.fetched in
    pair_fetches old specs new fetched (subst IsHello c.in-Ok.ensures.0 c.in-Ok.ensures.1)
    (fetched_between old specs new c.default.result c.default-2.result c.in-Ok.hello (Ok fetched) c.default.ensures c.default-2.ensures
    c.in-Ok.ensures.0 c.in-Ok-fetch_between.ensures.fetches)

pub returns-clause-fetches : goal.returns-clause-fetches
returns-clause-fetches g c =
    let old = c.args.repo.now in
    let specs = c.args.specs.now in
    let new = c.fetch_between.new.repo in
    let fault = c.in-Err-fetch_between.fault in
    subst (λ (met : ProgramFault g.row.A.Denot). FetchesInPair old specs new (Err met)) (sym c.fault_of.ensures)
    (pair_fails old specs new fault (subst IsHello c.in-Ok.ensures.0 c.in-Ok.ensures.1)
    (fetched_between old specs new c.default.result c.default-2.result c.in-Ok.hello (Err fault) c.default.ensures c.default-2.ensures
    c.in-Ok.ensures.0 c.in-Err-fetch_between.ensures.fetches))
