-- The bytes that the far end has received and sent so far, and the number of remaining turns.
use Rattle.std.proofs.Common.{◌≡◌, []}
use Rattle.gpkt.specs.Change.{change_of}
use Rattle.gtalk.specs.Connections.{Drives, conversation_of, pending_of}
use Rattle.gtalk.specs.Talks.{AnyTalk}
use Rattle.gpair.proofs.joining.feed.Given as goal

abbrev pub invariant-loop-far : goal.invariant-loop-far
invariant-loop-far g l = record {
  drives : Drives g.D.Conversation.turn g.D.Conversation.holds AnyTalk l.initial.far.connection l.far.connection
      (change_of g.F.Source.remaining l.initial.far.source l.far.source) (change_of g.V.Sink.contents l.initial.far.sink l.far.sink);
  all_sent : pending_of l.far.connection ≡ [];
  source_loans : g.F.Source.loans l.far.source ≡ g.F.Source.loans l.initial.far.source;
  sink_loans : g.V.Sink.loans l.far.sink ≡ g.V.Sink.loans l.initial.far.sink;
}

abbrev pub decreases-loop-far : goal.decreases-loop-far
decreases-loop-far g l = (g.D.Conversation.left (conversation_of l.far.connection)).turns
