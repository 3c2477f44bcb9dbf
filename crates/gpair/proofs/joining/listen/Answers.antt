use Rattle.std.proofs.Common.{◌∙◌, refl}
use Rattle.gtalk.proofs.Moves.{held_after, nothing_heard, reads_joined}
use Rattle.gtalk.proofs.Driving.{later_later, later_nothing}
use Rattle.gpair.proofs.joining.listen.Goals as goal

pub loop-connection-init : goal.loop-connection-init
loop-connection-init g c = record {
  hears = nothing_heard g.C.Conversation.holds g.C.Conversation.turn c.args.connection.now _;
  later = later_nothing g.C.Conversation.turn g.C.Conversation.left _;
  pending = refl;
  loans = refl;
}

pub hear_some-requires-clause-held : goal.hear_some-requires-clause-held
hear_some-requires-clause-held g c =
    held_after g.C.Conversation.holds g.C.Conversation.turn _ _ _ _ _ c.loop-connection.invariant.hears.goes c.requires.held

pub loop-connection-preserved : goal.loop-connection-preserved
loop-connection-preserved g c = record {
  hears = reads_joined g.C.Conversation.holds g.C.Conversation.turn _ _ _ _ _ _ c.loop-connection.invariant.hears c.hear_some.ensures.hears;
  later = later_later g.C.Conversation.turn g.C.Conversation.left _ _ _ c.loop-connection.invariant.later c.hear_some.ensures.later;
  pending = c.hear_some.ensures.pending ∙ c.loop-connection.invariant.pending;
  loans = c.hear_some.ensures.loans ∙ c.loop-connection.invariant.loans;
}
