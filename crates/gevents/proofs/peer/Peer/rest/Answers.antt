use Rattle.std.proofs.Common.{[]}
use Rattle.std.proofs.Math.Logic.{∥∥₁_map}
use Rattle.gevents.proofs.Counting.{counted_on}
use Rattle.gevents.proofs.peer.Peer.rest.Goals as goal

pub invariant_of-self : goal.invariant_of-self
invariant_of-self g c = record {
  held = ∥∥₁_map c.args.self.now.held (counted_on g.C.Conversation.holds c.args.self.now.connection c.give_back.new.self [] _
      c.give_back.ensures.moves);
}
