use Rattle.std.proofs.Common.{refl}
use Rattle.gfetchreply.specs.FetchReplies.{reply_of}
use Rattle.gsession.specs.TakingReplies.{reading_for}
use Rattle.gsession.proofs.OfferLemmas.{offers_grow}
use Rattle.gfetch.proofs.SideLemmas.{objects_accepted, objects_ready, objects_rejected, reply_said}
use Rattle.gfetch.proofs.client.Client.accept_objects.Goals as goal

pub invariant_of-self : goal.invariant_of-self
invariant_of-self g c =
    let it = c.self.inside in
    let adds = rw c.in-Ok-Round.field-0-is at c.in-Ok-Round.ensures.round in
    rw adds.2
    (offers_grow c.distinct_are_once.ensures it.session c.accept_objects.new.self adds.0 it.repo.graph.entries it.walk c.laws.ensures adds.1 c.self.invariant)

pub returns-in-Ok-Round-clause-accepts : goal.returns-in-Ok-Round-clause-accepts
returns-in-Ok-Round-clause-accepts g c =
    let session = c.self.inside.session in
    rw (← c.self.view_is) (λ asked lines waits holds whole.
    let reply = reply_of (reading_for session asked) lines in
    let says = reply_said session asked lines whole in
    objects_accepted g.K.KeepingIndexer.indexes g.K.KeepingIndexer.index_fails _ _ asked reply lines _ says
    (c.in-Ok-Round.ensures.accepts asked lines reply waits holds says) refl)

pub returns-in-Ok-PackTaken-clause-accepts : goal.returns-in-Ok-PackTaken-clause-accepts
returns-in-Ok-PackTaken-clause-accepts g c =
    let session = c.self.inside.session in
    rw (← c.self.view_is) (λ asked lines waits holds whole.
    let reply = reply_of (reading_for session asked) lines in
    let says = reply_said session asked lines whole in
    objects_accepted g.K.KeepingIndexer.indexes g.K.KeepingIndexer.index_fails _ _ asked reply lines _ says
    (c.in-Ok-PackTaken.ensures.accepts asked lines reply waits holds says) refl)

pub returns-in-Err-clause-accepts : goal.returns-in-Err-clause-accepts
returns-in-Err-clause-accepts g c =
    let session = c.self.inside.session in
    rw (← c.self.view_is) (λ asked lines waits holds whole.
    let reply = reply_of (reading_for session asked) lines in
    let says = reply_said session asked lines whole in
    objects_rejected g.K.KeepingIndexer.indexes g.K.KeepingIndexer.index_fails _ _ asked reply lines c.in-Err.fault says
    (c.in-Err.ensures.accepts asked lines reply waits holds says) refl)

pub returns-in-Ok-Round-clause-ready : goal.returns-in-Ok-Round-clause-ready
returns-in-Ok-Round-clause-ready g c =
    rw (← c.self.view_is) (objects_ready c.self.inside.session c.accept_objects.new.self _ c.in-Ok-Round.ensures.goes)

pub returns-in-Ok-PackTaken-clause-ready : goal.returns-in-Ok-PackTaken-clause-ready
returns-in-Ok-PackTaken-clause-ready g c =
    rw (← c.self.view_is) (objects_ready c.self.inside.session c.accept_objects.new.self _ c.in-Ok-PackTaken.ensures.goes)
