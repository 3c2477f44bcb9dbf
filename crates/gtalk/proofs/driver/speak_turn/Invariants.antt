-- The packets queued and sent so far in this turn, and the number of remaining calls.
use Rattle.std.proofs.Common.{◌≡◌, [], Ok}
use Rattle.std.specs.Io.KnownBytes.{Keeps}
use Rattle.gpkt.specs.Change.{change_of}
use Rattle.gtalk.specs.Connections.{conversation_of, has_stopped, pending_of}
use Rattle.gtalk.specs.steps.Driving.{IsLater, SaysTurn, saying_left}
use Rattle.gtalk.proofs.driver.speak_turn.Given as goal

abbrev pub invariant-loop-connection : goal.invariant-loop-connection
invariant-loop-connection g l = record {
  says : SaysTurn g.C.Conversation.turn g.C.Conversation.holds (Ok l.sent) l.initial.connection l.connection (change_of g.W.Sink.contents l.initial.sink l.sink) (l.sink ≡ l.initial.sink);
  stopped : has_stopped l.connection ≡ has_stopped l.initial.connection;
  later : IsLater g.C.Conversation.turn g.C.Conversation.left (conversation_of l.initial.connection) (conversation_of l.connection);
  all_sent : pending_of l.connection ≡ [];
  passed_on : Keeps (g.W.Sink.passed_on l.initial.sink) (g.W.Sink.passed_on l.sink);
  down : g.W.Sink.is_down l.sink ≡ g.W.Sink.is_down l.initial.sink;
  loans : g.W.Sink.loans l.sink ≡ g.W.Sink.loans l.initial.sink;
}

abbrev pub decreases-loop-connection : goal.decreases-loop-connection
decreases-loop-connection g l = saying_left g.C.Conversation.turn g.C.Conversation.left l.connection
