use Rattle.std.proofs.Common.{inl, inr, refl, subst, sym, ◌∙◌}
use Rattle.gtalk.specs.Partial.{LeavesSource}
use Rattle.gtalk.specs.Talks.{AnyTalk}
use Rattle.gtalk.proofs.Moves.{driven_any, held_after, more_said}
use Rattle.gtalk.proofs.Driving.{breaks_off, driven_heard, driven_nothing, driven_said, drove_as, fails_by, first_now, has_read, said_as, still}
use Rattle.gtalk.proofs.driver.converse.Goals as goal

pub loop-connection-init : goal.loop-connection-init
loop-connection-init g c = record {
  driven = driven_nothing g.C.Conversation.holds g.C.Conversation.turn g.W.Sink.contents g.W.Sink.passed_on g.W.Sink.is_down c.args.connection.now _ _;
  all_sent = c.requires.all_sent;
  down = refl;
  source = λ h. h;
  reads = λ listens goes. inl refl;
  source_loans = refl;
  sink_loans = refl;
}

pub listen-requires-clause-held : goal.listen-requires-clause-held
listen-requires-clause-held g c =
    held_after g.C.Conversation.holds g.C.Conversation.turn _ _ _ _ _ c.loop-connection.invariant.driven.drives.goes c.requires.held

pub speak_turn-requires-clause-held : goal.speak_turn-requires-clause-held
speak_turn-requires-clause-held g c =
    held_after g.C.Conversation.holds g.C.Conversation.turn _ _ _ _ _ c.loop-connection.invariant.driven.drives.goes c.requires.held

pub returns-in-Err-clause-drives : goal.returns-in-Err-clause-drives
returns-in-Err-clause-drives g c =
    more_said g.C.Conversation.holds g.C.Conversation.turn AnyTalk _ _ _ _ _ _ _ _ (λ t u v p q. tt) c.loop-connection.invariant.driven.drives c.speak_turn.ensures.says.sends

pub returns-in-Done-clause-drives : goal.returns-in-Done-clause-drives
returns-in-Done-clause-drives g c = driven_any g.C.Conversation.holds g.C.Conversation.turn _ _ _ _ _ c.loop-connection.invariant.driven.drives

pub loop-connection-preserved-in-Listens : goal.loop-connection-preserved-in-Listens
loop-connection-preserved-in-Listens g c = record {
  driven = driven_heard g.C.Conversation.holds g.C.Conversation.turn g.W.Sink.contents g.W.Sink.passed_on g.W.Sink.is_down _ _ _ _ _ _ _ _ _ c.in-Listens.ensures.0
      c.loop-connection.invariant.driven c.listen.ensures.hears;
  all_sent = c.listen.ensures.pending ∙ c.loop-connection.invariant.all_sent;
  down = c.loop-connection.invariant.down;
  source = λ h. c.listen.ensures.source (c.loop-connection.invariant.source h);
  reads = λ listens goes. inr c.listen.ensures.reads;
  source_loans = c.listen.ensures.loans ∙ c.loop-connection.invariant.source_loans;
  sink_loans = c.loop-connection.invariant.sink_loans;
}

pub returns-in-Err-clause-broken : goal.returns-in-Err-clause-broken
returns-in-Err-clause-broken g c =
    breaks_off g.C.Conversation.holds g.C.Conversation.turn g.W.Sink.contents g.W.Sink.passed_on g.W.Sink.is_down c.loop-connection.passed _ _ _ _ _ _ _ _
    c.loop-connection.invariant.driven (inl c.in-Speaks.ensures) c.loop-connection.invariant.all_sent c.speak_turn.ensures.says.sends c.in-Err.ensures.kept

pub returns-in-Err-clause-fails : goal.returns-in-Err-clause-fails
returns-in-Err-clause-fails g c =
    fails_by g.C.Conversation.holds g.C.Conversation.turn g.W.Sink.contents g.W.Sink.passed_on g.W.Sink.is_down c.in-Err.fault c.loop-connection.passed _ _ _ _ _ _ _ _
    c.loop-connection.invariant.driven c.in-Speaks.ensures c.loop-connection.invariant.all_sent (said_as g.C.Conversation.holds g.C.Conversation.turn g.W.Sink.contents g.W.Sink.passed_on g.W.Sink.is_down _ _ _ _ _ _ c.in-Err.is c.speak_turn.ensures.says) c.in-Err.ensures.kept

pub loop-connection-preserved-then-passed : goal.loop-connection-preserved-then-passed
loop-connection-preserved-then-passed g c = record {
  driven = drove_as g.C.Conversation.holds g.C.Conversation.turn g.W.Sink.contents g.W.Sink.passed_on g.W.Sink.is_down _ _ _ _ _ _ _ _ (still c.loop-connection.passed c.in-Ok.sent c.if-passed.true)
      (driven_said g.C.Conversation.holds g.C.Conversation.turn g.W.Sink.contents g.W.Sink.passed_on g.W.Sink.is_down c.loop-connection.passed c.in-Ok.sent _ _ _ _ _ _ _ _
      c.loop-connection.invariant.driven (said_as g.C.Conversation.holds g.C.Conversation.turn g.W.Sink.contents g.W.Sink.passed_on g.W.Sink.is_down _ _ _ _ _ _ c.in-Ok.is c.speak_turn.ensures.says) c.in-Ok.ensures.over c.in-Ok.ensures.passed_on c.in-Ok.ensures.up);
  all_sent = c.in-Ok.ensures.all_sent;
  down = c.in-Ok.ensures.down ∙ c.loop-connection.invariant.down;
  source = λ h. subst (λ s. LeavesSource s (g.S.Source.remaining c.loop-connection.source) (g.S.Source.is_down c.loop-connection.source)) (sym c.speak_turn.ensures.stopped) (c.loop-connection.invariant.source h);
  reads = λ listens goes. inr (subst (λ s. LeavesSource s (g.S.Source.remaining c.loop-connection.source) (g.S.Source.is_down c.loop-connection.source)) (sym c.speak_turn.ensures.stopped)
      (has_read g.C.Conversation.turn c.args.connection.now c.loop-connection.connection _ listens goes (inl c.in-Speaks.ensures) (c.loop-connection.invariant.reads listens goes)));
  source_loans = c.loop-connection.invariant.source_loans;
  sink_loans = c.speak_turn.ensures.loans ∙ c.loop-connection.invariant.sink_loans;
}

pub loop-connection-preserved : goal.loop-connection-preserved
loop-connection-preserved g c = record {
  driven = drove_as g.C.Conversation.holds g.C.Conversation.turn g.W.Sink.contents g.W.Sink.passed_on g.W.Sink.is_down _ _ _ _ _ _ _ _ (first_now c.loop-connection.passed c.in-Ok.sent c.if-passed.false)
      (driven_said g.C.Conversation.holds g.C.Conversation.turn g.W.Sink.contents g.W.Sink.passed_on g.W.Sink.is_down c.loop-connection.passed c.in-Ok.sent _ _ _ _ _ _ _ _
      c.loop-connection.invariant.driven (said_as g.C.Conversation.holds g.C.Conversation.turn g.W.Sink.contents g.W.Sink.passed_on g.W.Sink.is_down _ _ _ _ _ _ c.in-Ok.is c.speak_turn.ensures.says) c.in-Ok.ensures.over c.in-Ok.ensures.passed_on c.in-Ok.ensures.up);
  all_sent = c.in-Ok.ensures.all_sent;
  down = c.in-Ok.ensures.down ∙ c.loop-connection.invariant.down;
  source = λ h. subst (λ s. LeavesSource s (g.S.Source.remaining c.loop-connection.source) (g.S.Source.is_down c.loop-connection.source)) (sym c.speak_turn.ensures.stopped) (c.loop-connection.invariant.source h);
  reads = λ listens goes. inr (subst (λ s. LeavesSource s (g.S.Source.remaining c.loop-connection.source) (g.S.Source.is_down c.loop-connection.source)) (sym c.speak_turn.ensures.stopped)
      (has_read g.C.Conversation.turn c.args.connection.now c.loop-connection.connection _ listens goes (inl c.in-Speaks.ensures) (c.loop-connection.invariant.reads listens goes)));
  source_loans = c.loop-connection.invariant.source_loans;
  sink_loans = c.speak_turn.ensures.loans ∙ c.loop-connection.invariant.sink_loans;
}

pub returns-in-Done-clause-reads : goal.returns-in-Done-clause-reads
returns-in-Done-clause-reads g c = λ listens goes.
    has_read g.C.Conversation.turn c.args.connection.now c.loop-connection.connection _ listens goes (inr c.in-Done.ensures) (c.loop-connection.invariant.reads listens goes)

pub returns-in-Err-clause-reads : goal.returns-in-Err-clause-reads
returns-in-Err-clause-reads g c = λ listens goes.
    subst (λ s. LeavesSource s (g.S.Source.remaining c.loop-connection.source) (g.S.Source.is_down c.loop-connection.source)) (sym c.speak_turn.ensures.stopped)
    (has_read g.C.Conversation.turn c.args.connection.now c.loop-connection.connection _ listens goes (inl c.in-Speaks.ensures) (c.loop-connection.invariant.reads listens goes))
