use Rattle.std.proofs.Common.{[], refl}
use Rattle.gfetch.specs.Starts.{start_for}
use Rattle.gpair.proofs.PairLemmas.{between_grows, between_settles}
use Rattle.gpair.proofs.pairing.fetch_between.Goals as goal

pub exchange-requires : goal.exchange-requires
exchange-requires g c = record {
  far_held = ([], [], c.with_room.ensures.holds (c.new-dialogue.ensures.holds (c.new-side.ensures.fresh, (refl, refl))));
}

pub returns-clause-settled : goal.returns-clause-settled
returns-clause-settled g c =
    let fetch = c.args.fetch.now in
    between_settles g.K.KeepingIndexer.indexes g.K.KeepingIndexer.index_fails
    (start_for c.args.repo.now fetch.specs.now fetch.limit fetch.ends fetch.options) fetch.hello.now c.exchange.new.repo c.exchange.result c.exchange.ensures

pub returns-clause-grows : goal.returns-clause-grows
returns-clause-grows g c =
    let fetch = c.args.fetch.now in
    between_grows g.K.KeepingIndexer.indexes g.K.KeepingIndexer.index_fails
    (start_for c.args.repo.now fetch.specs.now fetch.limit fetch.ends fetch.options) fetch.hello.now c.exchange.new.repo c.exchange.result c.exchange.ensures
