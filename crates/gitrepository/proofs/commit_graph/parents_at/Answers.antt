use Rattle.std.proofs.Common.{◌≡◌, ◌+◌, Some, map, subst, sym, take}
use Rattle.gitcommitgraph.specs.Chains.{graph_commits}
use Rattle.gitrepository.specs.Entries.{id_at}
use Rattle.gitrepository.proofs.CommitLemmas.{ids_pushed}
use Rattle.gitrepository.proofs.commit_graph.parents_at.Goals as goal

pub loop-position-preserved : goal.loop-position-preserved
loop-position-preserved g c =
    let commits = graph_commits c.args.commits.now in
    let positions = c.args.positions.now in
    let i = c.loop-position.position-index in
    subst (λ ids. map (id_at commits) (take (i + 1) positions) ≡ map Some ids) (sym c.in_ok-push.ensures.ok)
    (ids_pushed commits positions i c.position-item.result c.loop-position.parents _ c.loop-position-test.true c.position-item.is c.requires
    c.loop-position.invariant c.id.ensures.id)
