use Rattle.std.proofs.Math.Logic.{∥∥₁_map}
use Rattle.gevents.proofs.Counting.{counted_sent}
use Rattle.std.proofs.Common.{ap, ◌+◌, ◌∙◌, min, ◌^◌, ◌-◌}
use Rattle.gevents.proofs.peer.Peer.write_once.Goals as goal

pub invariant_of-self : goal.invariant_of-self
invariant_of-self g c = record {
  held = ∥∥₁_map c.args.self.now.held (counted_sent g.C.Conversation.holds c.args.self.now.connection c.write_some-written.new.connection _ _ _ _
      c.write_some-written.ensures.sends
      (c.saturating_add-sent.ensures ∙ ap (λ n. min (c.args.self.now.sent + n) (2 ^ 64 - 1)) c.written_count.ensures));
}
