use Rattle.std.proofs.Common.{Bool, refl, ap₂}
use Rattle.gsession.specs.Sessions.{SessionState}
use Rattle.gsession.proofs.session.Session.hear.Goals as goal

pub returns : goal.returns
returns g c = (
  c.if-not-is_begun.ensures,
  ap₂ (λ (s : SessionState g.row.A.Denot) (offers : Bool). record s { offers_unborn = offers }) c.self.view_is
      c.has_feature-self-inside.ensures,
)

pub returns-then-not-is_begun : goal.returns-then-not-is_begun
returns-then-not-is_begun g c = (c.if-not-is_begun.ensures, refl)
