use Rattle.std.proofs.Common.{◌∙◌, refl}
use Rattle.gtalk.proofs.Moves.{held_after, nothing_heard, reads_joined}
use Rattle.gtalk.proofs.Driving.{later_later, later_nothing}
use Rattle.gpair.proofs.JoinLemmas.{drives_nothing, drives_then}
use Rattle.gpair.proofs.joining.listen_to.Goals as goal

pub loop-near-init : goal.loop-near-init
loop-near-init g c = record {
  hears = nothing_heard g.C.Conversation.holds g.C.Conversation.turn c.args.near.now.connection _;
  later = later_nothing g.C.Conversation.turn g.C.Conversation.left _;
  pending = refl;
  sink = refl;
  far = drives_nothing g.D.Conversation.holds g.D.Conversation.turn c.args.far.now.connection _ _;
  source_loans = refl;
  far_source_loans = refl;
  far_sink_loans = refl;
}

pub hear_from-requires-clause-held : goal.hear_from-requires-clause-held
hear_from-requires-clause-held g c =
    held_after g.C.Conversation.holds g.C.Conversation.turn _ _ _ _ _ c.loop-near.invariant.hears.goes c.requires.held

pub hear_from-requires-clause-far_held : goal.hear_from-requires-clause-far_held
hear_from-requires-clause-far_held g c =
    held_after g.D.Conversation.holds g.D.Conversation.turn _ _ _ _ _ c.loop-near.invariant.far.goes c.requires.far_held

pub loop-near-preserved : goal.loop-near-preserved
loop-near-preserved g c = record {
  hears = reads_joined g.C.Conversation.holds g.C.Conversation.turn _ _ _ _ _ _ c.loop-near.invariant.hears c.hear_from.ensures.hears;
  later = later_later g.C.Conversation.turn g.C.Conversation.left _ _ _ c.loop-near.invariant.later c.hear_from.ensures.later;
  pending = c.hear_from.ensures.pending ∙ c.loop-near.invariant.pending;
  sink = c.hear_from.ensures.sink ∙ c.loop-near.invariant.sink;
  far = drives_then g.D.Conversation.holds g.D.Conversation.turn _ _ _ _ _ _ _ _ _ c.loop-near.invariant.far c.hear_from.ensures.far;
  source_loans = c.hear_from.ensures.source_loans ∙ c.loop-near.invariant.source_loans;
  far_source_loans = c.hear_from.ensures.far_source_loans ∙ c.loop-near.invariant.far_source_loans;
  far_sink_loans = c.hear_from.ensures.far_sink_loans ∙ c.loop-near.invariant.far_sink_loans;
}
