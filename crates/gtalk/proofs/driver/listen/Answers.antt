use Rattle.std.proofs.Common.{◌∙◌, inl, inr, refl}
use Rattle.gtalk.proofs.Moves.{held_after, nothing_heard, reads_joined}
use Rattle.gtalk.proofs.Driving.{has_read, later_later, later_nothing, over_now}
use Rattle.gtalk.proofs.driver.listen.Goals as goal

pub loop-connection-init : goal.loop-connection-init
loop-connection-init g c = record {
  hears = nothing_heard g.C.Conversation.holds g.C.Conversation.turn c.args.connection.now _;
  source = λ h. h;
  reads = inl refl;
  later = later_nothing g.C.Conversation.turn g.C.Conversation.left _;
  pending = refl;
  loans = refl;
}

pub hear_some-requires-clause-held : goal.hear_some-requires-clause-held
hear_some-requires-clause-held g c =
    held_after g.C.Conversation.holds g.C.Conversation.turn _ _ _ _ _ c.loop-connection.invariant.hears.goes c.requires.held

pub loop-connection-preserved : goal.loop-connection-preserved
loop-connection-preserved g c = record {
  hears = reads_joined g.C.Conversation.holds g.C.Conversation.turn _ _ _ _ _ _ c.loop-connection.invariant.hears c.hear_some.ensures.hears;
  source = λ h. c.hear_some.ensures.source;
  reads = inr c.hear_some.ensures.source;
  later = later_later g.C.Conversation.turn g.C.Conversation.left _ _ _ c.loop-connection.invariant.later c.hear_some.ensures.later;
  pending = c.hear_some.ensures.pending ∙ c.loop-connection.invariant.pending;
  loans = c.hear_some.ensures.loans ∙ c.loop-connection.invariant.loans;
}

pub returns-in-Speaks-clause-reads : goal.returns-in-Speaks-clause-reads
returns-in-Speaks-clause-reads g c =
    has_read g.C.Conversation.turn c.args.connection.now c.loop-connection.connection _ c.requires.turn c.requires.goes_on (over_now g.C.Conversation.turn c.loop-connection.connection _ c.turn.ensures c.in-Speaks.is) c.loop-connection.invariant.reads
