-- The history of one end of a conversation, and a bound on its remaining turns and steps.
use Rattle.std.specs.Prelude.{◌≡◌, ◌≢◌, ℕ, ◌*◌, ◌<◌, ◌≤◌, ◌⊎◌, List, [], ◌∷◌, ◌++◌, Option, Some, None}
use Rattle.gpkt.specs.Packets.{Bytes, Packet, canonical_all, max_packet}
use Rattle.gtalk.specs.declared.conversation.Stop.{Stop}
use Rattle.gtalk.specs.declared.conversation.Turn.{Turn}

-- The history of a conversation: the packets received, the packets queued to send, and the reason why no more packets
-- arrive, if any. `earlier` contains the packets that were queued before the last packet was received, or before the
-- notification that no more packets arrive.
pub record Talk : Type 0 where
  pub heard : List Packet
  pub stopped : Option Stop
  pub said : List Packet
  pub earlier : List Packet

-- the history in which no packet was received or queued
abbrev pub no_talk : Talk
no_talk = record { heard = []; stopped = None; said = []; earlier = [] }

-- the history with one more packet received
abbrev pub talk_after : Talk → Packet → Talk
talk_after talk packet =
    record { heard = talk.heard ++ packet ∷ []; stopped = talk.stopped; said = talk.said; earlier = talk.said }

-- the history after the conversation was notified that no more packets arrive, with the reason `why`
abbrev pub stop_talk : Talk → Stop → Talk
stop_talk talk why = record { heard = talk.heard; stopped = Some why; said = talk.said; earlier = talk.said }

-- the history with more packets queued
abbrev pub talk_with_reply : Talk → List Packet → Talk
talk_with_reply talk more =
    record { heard = talk.heard; stopped = talk.stopped; said = talk.said ++ more; earlier = talk.earlier }

-- no packet was queued since the last packet was received, or since the notification that no more packets arrive
abbrev pub IsTurnStart : Talk → Type 0
IsTurnStart talk = talk.earlier ≡ talk.said

-- the two histories need not be related
abbrev pub AnyTalk : Talk → Talk → Type 0
AnyTalk talk after = Unit {0}

-- the conversation queues more packets, and receives nothing
abbrev pub SaysOn : Talk → Talk → Type 0
SaysOn talk after = (more : List Packet) × (after ≡ talk_with_reply talk more)

-- the bytes encode packets that the conversation may queue after the history `talk`
pub record Says (Holds : Talk → Type 0) (talk : Talk) (bytes : Bytes) : Type 0 where
  pub more : List Packet
  pub spelt : bytes ≡ canonical_all more
  pub held : Holds (talk_with_reply talk more)

-- the capacity of the send queue in bytes: two packets of the maximum size
abbrev pub queue_room : ℕ
queue_room = 2 * max_packet

-- The maximum number of remaining changes of turn, and the maximum number of steps in the current turn that do not
-- change the turn. Each received packet is a step, and each call that queues packets is a step.
pub record Left : Type 0 where
  pub turns : ℕ
  pub steps : ℕ

-- the conversation is nearer to its end: fewer steps remain in the current turn, or fewer turns remain
abbrev pub IsNearer : {C : Type 0} → (C → Turn) → (C → Left) → C → C → Type 0
IsNearer turn left old new =
    ((turn new ≡ turn old) × ((left new).turns ≤ (left old).turns) × ((left new).steps < (left old).steps))
    ⊎ ((turn new ≢ turn old) × ((left new).turns < (left old).turns))
