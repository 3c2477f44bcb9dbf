-- The ended connection that the loop returns.
use Rattle.std.proofs.Common.{◌≡◌, Option, Some, refl, subst, sym}
use Rattle.gtalk.specs.declared.conversation.Conversation.{Ghosts}
use Rattle.gevents.specs.Turns.{HandsOut, IsEndOf}
use Rattle.gevents.specs.declared.event.End.{End}
use Rattle.gevents.specs.declared.event.Ended.{Ended}
use Rattle.gevents.specs.declared.peer.Peer.{Peer}
use Rattle.gevents.specs.declared.slot.Slot.{Slot}
use Rattle.gevents.specs.declared.slot.Slot.TheVariants as slot

module _ {C A : Type 0} {ghosts : Ghosts C} where
  -- the loop returns the connection of the peer at a key
  pub handed_out : (one : Option (Slot C A ghosts)) (peer : Peer C A ghosts) (how : End) (ended : Ended C A ghosts)
      → one ≡ Some (slot.Talks peer) → IsEndOf peer how ended → HandsOut one how (Some ended)
  handed_out one peer how ended same is =
      subst (λ it. HandsOut it how (Some ended)) (sym same) (ended, refl, is)
