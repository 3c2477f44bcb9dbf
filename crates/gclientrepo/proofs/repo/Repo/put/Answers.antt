use Rattle.std.proofs.Common.{◌≡◌, ap, ◌∙◌}
use Rattle.gclientrepo.specs.Repos.{RepoState}
use Rattle.gclientrepo.proofs.RepoLemmas.{set_from}
use Rattle.gclientrepo.proofs.repo.Repo.put.Goals as goal

pub install-requires-clause-from : goal.install-requires-clause-from
install-requires-clause-from g c =
    set_from c.args.self.now.refs c.in_ok-refs.refs c.set.new.self c.args.name c.args.id
    (c.in_ok-refs.ensures ∙ ap (λ (s : RepoState g.row.A.Denot). s.refs) c.self.view_is) c.in_ok-set.ensures.ok
