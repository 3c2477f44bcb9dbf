-- The bytes received so far, and the number of remaining reads.
use Rattle.std.proofs.Common.{◌≡◌}
use Rattle.gpkt.specs.Change.{change_of}
use Rattle.gtalk.specs.Connections.{HearsRead, conversation_of, pending_of}
use Rattle.gtalk.specs.steps.Driving.{IsLater, reading_left}
use Rattle.gpair.proofs.joining.listen.Given as goal

abbrev pub invariant-loop-connection : goal.invariant-loop-connection
invariant-loop-connection g l = record {
  hears : HearsRead g.C.Conversation.turn g.C.Conversation.holds l.initial.connection l.connection (change_of g.S.Source.remaining l.initial.source l.source);
  later : IsLater g.C.Conversation.turn g.C.Conversation.left (conversation_of l.initial.connection) (conversation_of l.connection);
  pending : pending_of l.connection ≡ pending_of l.initial.connection;
  loans : g.S.Source.loans l.source ≡ g.S.Source.loans l.initial.source;
}

abbrev pub decreases-loop-connection : goal.decreases-loop-connection
decreases-loop-connection g l = reading_left g.C.Conversation.turn g.C.Conversation.left l.connection
