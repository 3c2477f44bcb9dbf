use Rattle.gfetch.specs.Starts.{start_for}
use Rattle.gfetch.proofs.KeptLemmas.{over_grows, over_keeps_refs, over_settles}
use Rattle.gfetch.proofs.fetching.fetch_over_with.Goals as goal

pub returns-clause-settled : goal.returns-clause-settled
returns-clause-settled g c =
    over_settles g.K.KeepingIndexer.indexes g.K.KeepingIndexer.index_fails
    (start_for c.args.repo.now c.args.plan.now.specs.now c.args.plan.now.limit c.args.plan.now.ends c.args.plan.now.options) _ _ c.fetch_to-fetched.new.repo
    c.fetch_to-fetched.result c.fetch_to-fetched.ensures.fetches

pub returns-clause-refs : goal.returns-clause-refs
returns-clause-refs g c =
    over_keeps_refs g.K.KeepingIndexer.indexes g.K.KeepingIndexer.index_fails
    (start_for c.args.repo.now c.args.plan.now.specs.now c.args.plan.now.limit c.args.plan.now.ends c.args.plan.now.options) _ _ c.fetch_to-fetched.new.repo
    c.fetch_to-fetched.result c.fetch_to-fetched.ensures.fetches

pub returns-clause-grows : goal.returns-clause-grows
returns-clause-grows g c =
    over_grows g.K.KeepingIndexer.indexes g.K.KeepingIndexer.index_fails
    (start_for c.args.repo.now c.args.plan.now.specs.now c.args.plan.now.limit c.args.plan.now.ends c.args.plan.now.options) _ _ c.fetch_to-fetched.new.repo
    c.fetch_to-fetched.result c.fetch_to-fetched.ensures.fetches
