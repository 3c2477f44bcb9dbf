use Rattle.std.proofs.Common.{◌≡◌, List, ap, refl, subst, sym, ◌∙◌}
use Rattle.std.proofs.lemmas.Bool.{false≢true}
use Rattle.grefs.specs.Refspecs.{Refspec}
use Rattle.gsession.specs.Asking.{AreNamed, asks_by_all}
use Rattle.gsession.specs.Sessions.{SessionState}
use Rattle.gsession.specs.steps.Calls.{FindsAsks}
use Rattle.gsession.proofs.session.Session.take_refs.Goals as goal

pub misnamed_fault-requires : goal.misnamed_fault-requires
misnamed_fault-requires g c = λ named.
    let specs : c.as_slice.result.now ≡ c.args.self.now.refspecs =
    c.as_slice.ensures.value ∙ ap (λ (s : SessionState g.row.A.Denot). s.refspecs) c.self.view_is in
    false≢true (sym c.if-not-are_named.true
    ∙ c.are_named.ensures.1 (subst (λ (l : List Refspec).
    AreNamed {A = g.row.A.Denot} (asks_by_all l c.args.reply.now.lines)) (sym specs) named))

pub returns-then-not-are_named : goal.returns-then-not-are_named
returns-then-not-are_named g c = (c.misnamed_fault.ensures c.args.repo.now.graph.entries, refl)

pub take_asked-requires-clause-asked : goal.take_asked-requires-clause-asked
take_asked-requires-clause-asked g c =
    let specs : c.as_slice-2.result.now ≡ c.args.self.now.refspecs =
    c.as_slice-2.ensures.value ∙ ap (λ (s : SessionState g.row.A.Denot). s.refspecs) c.self.view_is in
    subst (λ (l : List Refspec). FindsAsks l c.args.reply.now.lines c.in_ok-asks.asks) specs c.in_ok-asks.ensures.asks

pub take_asked-requires-clause-ids : goal.take_asked-requires-clause-ids
take_asked-requires-clause-ids g c = c.in_ok-asks.ensures.ids c.args.self.now.format c.requires.formed.lines
