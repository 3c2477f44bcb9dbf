-- The outcome of a peer's turn, and the ended connection that the loop returns.
use Rattle.std.specs.Prelude.{◌≡◌, Option, Some, None}
use Rattle.gtalk.specs.declared.connection.Connection.{Connection}
use Rattle.gtalk.specs.declared.conversation.Conversation.{Ghosts}
use Rattle.gtalk.specs.declared.conversation.Turn.{Turn}
use Rattle.gevents.specs.Peers.{HasEnded}
use Rattle.gevents.specs.declared.event.End.{End}
use Rattle.gevents.specs.declared.event.End.TheVariants as end
use Rattle.gevents.specs.declared.event.Ended.{Ended}
use Rattle.gevents.specs.declared.event.Event.{Event}
use Rattle.gevents.specs.declared.event.Event.TheVariants as event
use Rattle.gevents.specs.declared.moving.After.{After}
use Rattle.gevents.specs.declared.moving.After.TheVariants as after
use Rattle.gevents.specs.declared.moving.Move.{Move}
use Rattle.gevents.specs.declared.moving.Move.TheVariants as move
use Rattle.gevents.specs.declared.peer.Peer.{Peer}
use Rattle.gevents.specs.declared.slot.Slot.{Slot}
use Rattle.gevents.specs.declared.slot.Slot.TheVariants as slot

-- a move can end the connection only with `Lost`
abbrev pub LosesAtMost : Move → Type 0
LosesAtMost (move.Ended how) = how ≡ end.Lost
LosesAtMost other = Unit {0}

module _ {C A : Type 0} (turn : C → Turn) where
  -- if a move ends the connection, the connection is in the state that the reason for the end requires
  abbrev pub EndsByMove : Connection C A → Move → Type 0
  EndsByMove connection (move.Ended how) = HasEnded turn connection how
  EndsByMove connection other = Unit {0}

  -- if a turn ends the connection, the connection is in the state that the reason for the end requires
  abbrev pub EndsBy : Connection C A → After → Type 0
  EndsBy connection (after.Ends how) = HasEnded turn connection how
  EndsBy connection other = Unit {0}

module _ {C A : Type 0} {ghosts : Ghosts C} (turn : C → Turn) where
  -- if a turn ends the connection of a peer, the connection is in the state that the reason for the end requires
  abbrev pub EndsSlot : Slot C A ghosts → After → Type 0
  EndsSlot (slot.Talks peer) turned = EndsBy turn peer.connection turned
  EndsSlot (slot.Leaves leaver) turned = Unit {0}

  abbrev pub EndsAt : Option (Slot C A ghosts) → After → Type 0
  EndsAt (Some one) turned = EndsSlot one turned
  EndsAt None turned = Unit {0}

module _ {C A : Type 0} {ghosts : Ghosts C} where
  -- the loop returns the connection of the peer, with the peer's address, the count of sent bytes, and the reason for
  -- the end
  pub record IsEndOf (peer : Peer C A ghosts) (how : End) (ended : Ended C A ghosts) : Type 0 where
    pub connection : ended.connection ≡ peer.connection
    pub address : ended.address ≡ peer.address
    pub sent : ended.sent ≡ peer.sent
    pub how_it_ended : ended.end ≡ how

  -- the loop returns the connection of the peer at a key, or `None` if the key has no peer or that connection had ended
  -- earlier
  abbrev pub HandsOut : Option (Slot C A ghosts) → End → Option (Ended C A ghosts) → Type 0
  HandsOut (Some (slot.Talks peer)) how result =
      (ended : Ended C A ghosts) × (result ≡ Some ended) × IsEndOf peer how ended
  HandsOut (Some (slot.Leaves leaver)) how result = result ≡ None
  HandsOut None how result = result ≡ None

  -- the loop returns the connection of the peer at a key, if this turn ends the connection
  abbrev pub HandsOutAfter : Option (Slot C A ghosts) → After → Option (Ended C A ghosts) → Type 0
  HandsOutAfter one (after.Ends how) result = HandsOut one how result
  HandsOutAfter one turned result = Unit {0}

  -- the ended connection that an event contains, if any
  abbrev pub ended_in : Option (Event C A ghosts) → Option (Ended C A ghosts)
  ended_in (Some (event.Ended ended)) = Some ended
  ended_in other = None
