use Rattle.std.proofs.Common.{◌≡◌, refl, subst, sym, ◌∙◌}
use Rattle.std.proofs.lemmas.Bool.{false≢true}
use Rattle.gdag.specs.Reach.{IsConnected}
use Rattle.gclientrepo.specs.Repos.{RepoState}
use Rattle.gclientrepo.specs.Settling.{CannotSettle}
use Rattle.gclientrepo.proofs.repo.Repo.settle.Goals as goal

pub returns-then-cannot_settle-clause-settles : goal.returns-then-cannot_settle-clause-settles
returns-then-cannot_settle-clause-settles g c = (
  refl,
  rw c.in_default.is at c.in_ok-missing.ensures.answer,
  subst (λ (s : RepoState g.row.A.Denot). CannotSettle s.refs c.args.asks.now) c.self.view_is
      (c.cannot_settle.ensures.0 c.if-cannot_settle.true),
)

pub move_refs-requires-clause-can : goal.move_refs-requires-clause-can
move_refs-requires-clause-can g c = λ cannot.
    let back = subst (λ (s : RepoState g.row.A.Denot). CannotSettle s.refs c.args.asks.now) (sym c.self.view_is) cannot in
    false≢true (sym c.if-cannot_settle.false ∙ c.cannot_settle.ensures.1 back)
