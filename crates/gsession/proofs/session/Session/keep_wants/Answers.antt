use Rattle.std.proofs.Common.{◌∙◌, ◌≤◌, All, None, sym, ap, length, subst}
use Rattle.gname.specs.Ids.{IsIdOf}
use Rattle.grequest.specs.Asked.{max_wants}
use Rattle.gsession.specs.Sessions.{SessionState}
use Rattle.gsession.specs.steps.Fields.{session_of}
use Rattle.gsession.specs.TakingRefs.{AwaitsRefs, stage_for}
use Rattle.gsession.proofs.SessionLemmas.{refs_taken, waits}
use Rattle.gsession.proofs.session.Session.keep_wants.Goals as goal

pub invariant_of-self : goal.invariant_of-self
invariant_of-self g c =
    let v = c.self.view_is in
    let stage = c.stage_for-self-inside.result in
    let wants = c.args.wants.items in
    waits (record (session_of c.self.inside) { stage = stage; asks = c.args.asks; wants = wants })
    c.set_pending.new.pending None c.set_pending.ensures
    (refs_taken _ _ _ _ c.self.invariant.0
    (subst (λ (s : SessionState g.row.A.Denot). AwaitsRefs s) (sym v) c.requires.waits)
    (subst (λ (s : SessionState g.row.A.Denot). All (IsIdOf s.format) wants) (sym v) c.requires.ids)
    (subst (λ (s : SessionState g.row.A.Denot). length wants ≤ max_wants s.options.limits) (sym v) c.requires.few)
    (c.stage_for-self-inside.ensures ∙ ap stage_for c.as_slice.ensures.value)) tt tt
