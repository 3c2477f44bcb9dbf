use Rattle.std.proofs.Common.{◌≡◌, Some, map, subst}
use Rattle.std.specs.List.{HoldsAt}
use Rattle.gitcommitgraph.specs.Chains.{ListsParents, graph_commits}
use Rattle.gitrepository.specs.Entries.{id_at}
use Rattle.gitrepository.proofs.CommitLemmas.{is_of_commit}
use Rattle.gitrepository.proofs.commit_graph.entry_at.Goals as goal

pub returns : goal.returns
returns g c =
    let commits = graph_commits c.args.commits.now in
    is_of_commit commits c.args.position c.in-Some.positions c.args.id.now c.in_ok-parents.parents c.requires.inside c.requires.id
    (subst (λ found. HoldsAt (λ commit. ListsParents 64 commit.parents found) commits c.args.position) c.in-Some.is c.in_ok-positions.ensures.parents)
    (subst (λ list. map (id_at commits) list ≡ map Some c.in_ok-parents.parents) c.as_slice.ensures.value c.in_ok-parents.ensures)
