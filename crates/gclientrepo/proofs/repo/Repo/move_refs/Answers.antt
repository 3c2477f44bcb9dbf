use Rattle.std.proofs.Common.{◌≡◌, ◌∙◌, ap}
use Rattle.gclientrepo.specs.Asks.{asked_ids}
use Rattle.gclientrepo.specs.Repos.{RepoState}
use Rattle.gclientrepo.proofs.KeepingConnected.{come_from}
use Rattle.gclientrepo.proofs.repo.Repo.move_refs.Goals as goal

pub install-requires-clause-from : goal.install-requires-clause-from
install-requires-clause-from g c =
    let refs : c.self.inside.refs ≡ c.args.self.now.refs = ap (λ (s : RepoState g.row.A.Denot). s.refs) c.self.view_is in
    let ids : c.as_slice.result.now ≡ asked_ids c.args.asks.now = c.as_slice.ensures.value ∙ c.in_ok-ids.ensures in
    rw (ids, ← refs)
    (come_from c.refs_come_in_order.ensures c.self.inside.graph.entries c.self.inside.refs c.args.asks.now _ c.in_ok-refs.refs c.in_ok-refs.ensures.valid c.in_ok-refs.ensures.settles.settles)
