-- The bytes received, sent and flushed so far, and the number of remaining turns.
use Rattle.std.proofs.Common.{◌≡◌, ◌⊎◌, [], None}
use Rattle.gpkt.specs.Change.{change_of}
use Rattle.gtalk.specs.Connections.{HasDriven, conversation_of, has_stopped, pending_of}
use Rattle.gtalk.specs.Partial.{LeavesSource}
use Rattle.gtalk.specs.steps.Driving.{turns_left}
use Rattle.gtalk.specs.declared.conversation.Turn.TheVariants.{Listens}
use Rattle.gtalk.proofs.driver.converse.Given as goal

abbrev pub invariant-loop-connection : goal.invariant-loop-connection
invariant-loop-connection g l = record {
  driven : HasDriven g.C.Conversation.turn g.C.Conversation.holds l.passed l.initial.connection l.connection (change_of g.S.Source.remaining l.initial.source l.source)
      (change_of g.W.Sink.contents l.initial.sink l.sink) (change_of g.W.Sink.passed_on l.initial.sink l.sink) (g.W.Sink.is_down l.sink) (l.sink ≡ l.initial.sink);
  all_sent : pending_of l.connection ≡ [];
  down : g.W.Sink.is_down l.sink ≡ g.W.Sink.is_down l.initial.sink;
  source : LeavesSource (has_stopped l.initial.connection) (g.S.Source.remaining l.initial.source) (g.S.Source.is_down l.initial.source)
      → LeavesSource (has_stopped l.connection) (g.S.Source.remaining l.source) (g.S.Source.is_down l.source);
  reads : g.C.Conversation.turn (conversation_of l.initial.connection) ≡ Listens → has_stopped l.initial.connection ≡ None → (l.connection ≡ l.initial.connection) ⊎ LeavesSource (has_stopped l.connection) (g.S.Source.remaining l.source) (g.S.Source.is_down l.source);
  source_loans : g.S.Source.loans l.source ≡ g.S.Source.loans l.initial.source;
  sink_loans : g.W.Sink.loans l.sink ≡ g.W.Sink.loans l.initial.sink;
}

abbrev pub decreases-loop-connection : goal.decreases-loop-connection
decreases-loop-connection g l = turns_left g.C.Conversation.turn g.C.Conversation.left l.connection
