use Rattle.std.proofs.Common.{sym, ap, subst, ◌∙◌}
use Rattle.gclientrepo.specs.Repos.{RepoState}
use Rattle.gfetch.specs.Conversations.{FetchesOver}
use Rattle.gfetch.proofs.fetching.finish_into.Goals as goal

pub returns-clause-fetches : goal.returns-clause-fetches
returns-clause-fetches g c = λ start input output ends.
    subst (λ (r : RepoState g.row.A.Denot). FetchesOver g.K.KeepingIndexer.indexes g.K.KeepingIndexer.index_fails
    start input output r c.finish-fetched.result) (sym c.swap_repo.ensures.repo)
    (c.finish-fetched.ensures.fetches start input output ends)

pub returns-clause-indexer : goal.returns-clause-indexer
returns-clause-indexer g c = record {
  value = c.swap_repo.ensures.indexer.value ∙ c.finish-fetched.ensures.indexer.value;
  in_place = c.swap_repo.ensures.indexer.in_place ∙ c.finish-fetched.ensures.indexer.in_place;
}

pub returns-clause-graph : goal.returns-clause-graph
returns-clause-graph g c =
    ap (λ (r : RepoState g.row.A.Denot). r.graph.entries) c.swap_repo.ensures.repo ∙ c.finish-fetched.ensures.graph
