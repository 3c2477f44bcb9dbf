use Rattle.std.proofs.Common.{List, None, sym, ap, subst, ◌∙◌}
use Rattle.gclientrepo.specs.declared.ask.Ask.{Ask}
use Rattle.gsession.specs.Sessions.{SessionState}
use Rattle.gsession.specs.TakingRefs.{TakesLines, stage_for}
use Rattle.gsession.proofs.session.Session.take_asked.Goals as goal

pub returns-in-Ok : goal.returns-in-Ok
returns-in-Ok g c =
    let s = c.args.self.now in
    let wants = c.in-Ok.wants.items in
    let after = c.keep_wants.ensures ∙ ap (λ (a : List (Ask g.row.A.Denot)).
    record s { stage = stage_for wants; pending = None; asks = a; wants = wants }) c.requires.asked.0 in
    subst (λ (new : SessionState g.row.A.Denot).
    TakesLines s c.args.repo.now.graph.entries c.args.reply.now new c.in-Ok.taken)
    (sym after) c.in-Ok.ensures.wanted
