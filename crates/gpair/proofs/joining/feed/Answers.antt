use Rattle.std.proofs.Common.{◌∙◌, refl, sym}
use Rattle.gtalk.proofs.Moves.{held_after, no_bytes}
use Rattle.gpair.proofs.JoinLemmas.{drives_heard, drives_nothing, drives_said}
use Rattle.gpair.proofs.joining.feed.Goals as goal

pub returns-then-not-is_empty-clause-drives : goal.returns-then-not-is_empty-clause-drives
returns-then-not-is_empty-clause-drives g c = drives_nothing g.D.Conversation.holds g.D.Conversation.turn c.args.far.now.connection _ _

pub loop-far-init : goal.loop-far-init
loop-far-init g c = record {
  drives = drives_nothing g.D.Conversation.holds g.D.Conversation.turn c.args.far.now.connection _ _;
  all_sent = sym c.output.ensures ∙ no_bytes _ (sym c.if-not-is_empty.false ∙ c.is_empty.ensures);
  source_loans = refl;
  sink_loans = refl;
}

pub listen-requires : goal.listen-requires
listen-requires g c = record {
  held = held_after g.D.Conversation.holds g.D.Conversation.turn _ _ _ _ _ c.loop-far.invariant.drives.goes c.requires.held;
}

pub speak_turn-requires-clause-held : goal.speak_turn-requires-clause-held
speak_turn-requires-clause-held g c =
    held_after g.D.Conversation.holds g.D.Conversation.turn _ _ _ _ _ c.listen.ensures.hears.goes
    (held_after g.D.Conversation.holds g.D.Conversation.turn _ _ _ _ _ c.loop-far.invariant.drives.goes c.requires.held)

pub loop-far-preserved : goal.loop-far-preserved
loop-far-preserved g c = record {
  drives = drives_said g.D.Conversation.holds g.D.Conversation.turn _ _ _ _ _ _ _ _
      (drives_heard g.D.Conversation.holds g.D.Conversation.turn _ _ _ _ _ _ _ _ c.loop-far.invariant.drives c.listen.ensures.hears) c.speak_turn.ensures.says.sends;
  all_sent = c.in-Ok.ensures.all_sent;
  source_loans = c.listen.ensures.loans ∙ c.loop-far.invariant.source_loans;
  sink_loans = c.speak_turn.ensures.loans ∙ c.loop-far.invariant.sink_loans;
}

pub returns-in-Err-clause-drives : goal.returns-in-Err-clause-drives
returns-in-Err-clause-drives g c =
    drives_said g.D.Conversation.holds g.D.Conversation.turn _ _ _ _ _ _ _ _
    (drives_heard g.D.Conversation.holds g.D.Conversation.turn _ _ _ _ _ _ _ _ c.loop-far.invariant.drives c.listen.ensures.hears) c.speak_turn.ensures.says.sends

pub returns-in-Listens : goal.returns-in-Listens
returns-in-Listens g c = record {
  drives = drives_heard g.D.Conversation.holds g.D.Conversation.turn _ _ _ _ _ _ _ _ c.loop-far.invariant.drives c.listen.ensures.hears;
  source_loans = c.listen.ensures.loans ∙ c.loop-far.invariant.source_loans;
  sink_loans = c.loop-far.invariant.sink_loans;
}
