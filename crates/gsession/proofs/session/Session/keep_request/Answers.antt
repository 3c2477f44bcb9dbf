use Rattle.std.proofs.Common.{◌+◌, Some, ap}
use Rattle.gsession.specs.steps.Fields.{session_of}
use Rattle.gsession.proofs.SessionLemmas.{objects_asked, waits}
use Rattle.gsession.proofs.session.Session.keep_request.Goals as goal

pub invariant_of-self-2 : goal.invariant_of-self-2
invariant_of-self-2 g c =
    let sent = c.extend_from_slice.new.self.items in
    waits (record (session_of c.self.inside) { sent = sent; rounds = c.self.inside.rounds + 1 })
    c.set_pending.new.pending (Some c.args.request) c.set_pending.ensures
    (objects_asked _ c.args.batch.now sent _ c.self.invariant.0
    (rw (← c.self.view_is) at c.requires.stage) (rw (← c.self.view_is) at c.requires.pending)
    (rw (← c.self.view_is) at c.requires.fits)
    (ap Some (rw (← c.self.view_is) at c.requires.asked)) c.in_ok-extend_from_slice.ensures.items)
    (rw (← c.self.view_is) at c.requires.format) (rw (← c.self.view_is) at c.requires.limits)
