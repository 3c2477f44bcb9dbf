use Rattle.std.proofs.Common.{◌≡◌, [], refl, subst, sym, ◌∙◌}
use Rattle.std.proofs.lemmas.Bool.{false≢true}
use Rattle.std.proofs.lemmas.List.Elements.{All-head}
use Rattle.gdag.specs.Reach.{IsConnected}
use Rattle.grefs.specs.RefLists.{CannotSet}
use Rattle.gclientrepo.specs.Repos.{RepoState}
use Rattle.gclientrepo.proofs.repo.Repo.set_local_ref.Goals as goal
use Rattle.gclientrepo.proofs.repo.Repo.set_local_ref.Goals.{in-Ok, in-Err}

pub returns-then-cannot_set-clause-sets : goal.returns-then-cannot_set-clause-sets
returns-then-cannot_set-clause-sets g c =
    let connected = rw c.in_default.is at c.in_ok-missing.ensures.answer in (
      refl,
      All-head (IsConnected c.args.self.now.graph.entries) c.args.id [] connected,
      subst (λ (s : RepoState g.row.A.Denot). CannotSet s.refs c.args.name) c.self.view_is
          (c.cannot_set.ensures.0 c.if-cannot_set.true),
    )

pub returns-clause-sets : goal.returns-clause-sets
returns-clause-sets g c =
    let s = c.args.self.now in
    let connected = All-head (IsConnected s.graph.entries) c.args.id [] (rw c.in_default.is at c.in_ok-missing.ensures.answer) in
    let can : ¬ (CannotSet s.refs c.args.name) = λ cannot.
    let back = subst (λ (t : RepoState g.row.A.Denot). CannotSet t.refs c.args.name) (sym c.self.view_is) cannot in
    false≢true (sym c.if-cannot_set.false ∙ c.cannot_set.ensures.1 back) in
    elim c.match-put.branch [
      | in-Ok w ↦ rw w.result-is w.in-Ok.ensures.puts
      | in-Err w ↦ rw w.result-is (w.in-Err.ensures.puts, connected, can)
    ]
