-- The bytes that both ends have received, sent and flushed so far, and the number of remaining turns of the near end.
use Rattle.std.proofs.Common.{◌≡◌, []}
use Rattle.gpkt.specs.Change.{change_of}
use Rattle.gtalk.specs.Connections.{Drives, HasDriven, pending_of}
use Rattle.gtalk.specs.Talks.{AnyTalk}
use Rattle.gtalk.specs.steps.Driving.{turns_left}
use Rattle.gpair.proofs.joining.join.Given as goal

abbrev pub invariant-loop-near : goal.invariant-loop-near
invariant-loop-near g l = record {
  driven : HasDriven g.C.Conversation.turn g.C.Conversation.holds l.passed l.initial.near.connection l.near.connection (change_of g.S.Source.remaining l.initial.near.source l.near.source)
      (change_of g.W.Sink.contents l.initial.near.sink l.near.sink) (change_of g.W.Sink.passed_on l.initial.near.sink l.near.sink) (g.W.Sink.is_down l.near.sink) (l.near.sink ≡ l.initial.near.sink);
  all_sent : pending_of l.near.connection ≡ [];
  down : g.W.Sink.is_down l.near.sink ≡ g.W.Sink.is_down l.initial.near.sink;
  far : Drives g.D.Conversation.turn g.D.Conversation.holds AnyTalk l.initial.far.connection l.far.connection
      (change_of g.F.Source.remaining l.initial.far.source l.far.source) (change_of g.V.Sink.contents l.initial.far.sink l.far.sink);
  source_loans : g.S.Source.loans l.near.source ≡ g.S.Source.loans l.initial.near.source;
  sink_loans : g.W.Sink.loans l.near.sink ≡ g.W.Sink.loans l.initial.near.sink;
  far_source_loans : g.F.Source.loans l.far.source ≡ g.F.Source.loans l.initial.far.source;
  far_sink_loans : g.V.Sink.loans l.far.sink ≡ g.V.Sink.loans l.initial.far.sink;
}

abbrev pub decreases-loop-near : goal.decreases-loop-near
decreases-loop-near g l = turns_left g.C.Conversation.turn g.C.Conversation.left l.near.connection
