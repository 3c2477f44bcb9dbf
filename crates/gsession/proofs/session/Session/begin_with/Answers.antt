use Rattle.std.proofs.Common.{All, refl, sym, ap, subst, arith, length}
use Rattle.gname.specs.Ids.{IsIdOf}
use Rattle.gname.specs.declared.formats.Format.{Format}
use Rattle.gsession.proofs.SessionLemmas.{begun}
use Rattle.gsession.proofs.session.Session.begin_with.Goals as goal

pub invariant_of-result : goal.invariant_of-result
invariant_of-result g c =
    let long = ap length c.in_ok-refspecs.ensures in (
      begun _ (omega (arith, long))
          (subst (λ (f : Format). All (IsIdOf f) c.in_ok-tips.tips.items) (sym c.format.ensures.format)
          c.in_ok-tips.ensures.ids)
          (cc) (cc) (cc) refl refl refl,
      tt,
      tt,
    )
