-- The bytes that both ends have received and sent so far, and the number of remaining reads.
use Rattle.std.proofs.Common.{◌≡◌}
use Rattle.gpkt.specs.Change.{change_of}
use Rattle.gtalk.specs.Connections.{Drives, HearsRead, conversation_of, pending_of}
use Rattle.gtalk.specs.Talks.{AnyTalk}
use Rattle.gtalk.specs.steps.Driving.{IsLater, reading_left}
use Rattle.gpair.proofs.joining.listen_to.Given as goal

abbrev pub invariant-loop-near : goal.invariant-loop-near
invariant-loop-near g l = record {
  hears : HearsRead g.C.Conversation.turn g.C.Conversation.holds l.initial.near.connection l.near.connection (change_of g.S.Source.remaining l.initial.near.source l.near.source);
  later : IsLater g.C.Conversation.turn g.C.Conversation.left (conversation_of l.initial.near.connection) (conversation_of l.near.connection);
  pending : pending_of l.near.connection ≡ pending_of l.initial.near.connection;
  sink : l.near.sink ≡ l.initial.near.sink;
  far : Drives g.D.Conversation.turn g.D.Conversation.holds AnyTalk l.initial.far.connection l.far.connection
      (change_of g.F.Source.remaining l.initial.far.source l.far.source) (change_of g.V.Sink.contents l.initial.far.sink l.far.sink);
  source_loans : g.S.Source.loans l.near.source ≡ g.S.Source.loans l.initial.near.source;
  far_source_loans : g.F.Source.loans l.far.source ≡ g.F.Source.loans l.initial.far.source;
  far_sink_loans : g.V.Sink.loans l.far.sink ≡ g.V.Sink.loans l.initial.far.sink;
}

abbrev pub decreases-loop-near : goal.decreases-loop-near
decreases-loop-near g l = reading_left g.C.Conversation.turn g.C.Conversation.left l.near.connection
