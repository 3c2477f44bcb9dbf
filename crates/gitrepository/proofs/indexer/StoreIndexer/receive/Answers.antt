use Rattle.std.proofs.Common.{true≢false, sym, ◌∙◌}
use Rattle.gdag.proofs.Holding.{none_is}
use Rattle.gitrepository.proofs.indexer.StoreIndexer.receive.Goals as goal

pub returns-in-Ok-clause-free : goal.returns-in-Ok-clause-free
returns-in-Ok-clause-free g c = none_is c.args.self.now.received (λ is. true≢false (sym is ∙ sym c.is_some.ensures ∙ c.if-is_some.false))
