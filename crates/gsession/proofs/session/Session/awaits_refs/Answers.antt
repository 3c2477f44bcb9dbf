use Rattle.std.proofs.Common.{◌≡◌, Option, Some, sym, ap, ◌∙◌}
use Rattle.std.specs.Option.{option_map}
use Rattle.grequest.specs.Asked.{Ls}
use Rattle.grequest.specs.Building.{LimitedLsRefs}
use Rattle.grequest.specs.RequestValues.{asked_by_request}
use Rattle.grequest.specs.declared.request.Request.{Request}
use Rattle.grequest.specs.declared.request.Request.TheVariants as request
use Rattle.gsession.specs.Sessions.{SessionState}
use Rattle.gsession.proofs.session.Session.awaits_refs.Goals as goal

awaits : {A : Type 0} (s : SessionState A) (pending : Option (Request A)) (held : Request A) (ls : LimitedLsRefs)
    → option_map asked_by_request pending ≡ s.pending → pending ≡ Some held → held ≡ request.Ls ls
    → s.pending ≡ Some (Ls ls.asked)
awaits s pending held ls viewed is same =
    sym viewed ∙ (ap (option_map asked_by_request) is ∙ ap (λ r. Some (asked_by_request r)) same)

pub returns-in-Some-Ls : goal.returns-in-Some-Ls
returns-in-Some-Ls g c = (
  c.in-Some-Ls.field-0-0.asked,
  awaits c.args.self.now c.self.inside.pending _ c.in-Some-Ls.field-0-0
      (ap (λ (s : SessionState g.row.A.Denot). s.pending) c.self.view_is) c.in-Some-Ls.is
      (rw c.in-Some-Ls.is at c.in-Some-Ls.field-0-is),
)
