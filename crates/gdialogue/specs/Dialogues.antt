-- A dialogue: the messages that one end receives, and its answer to each.
use Rattle.std.specs.Prelude.{◌≡◌, ◌⊎◌, ℕ, ◌+◌, ◌-◌, ◌^◌, Bool, true, false, List, [], ◌∷◌, ◌++◌, length, Option, Some, None}
use Rattle.gpkt.specs.Packets.{Packet}
use Rattle.gpkt.specs.declared.fault.PacketFault.TheVariants.{Io}
use Rattle.ggrammar.specs.Grammar.{Judge, IsOpen, IsWhole}
use Rattle.ggrammar.specs.MessageReading.{IsReason}
use Rattle.ggrammar.specs.declared.fault.Why.{Why}
use Rattle.ggrammar.specs.declared.fault.Why.TheVariants as why
use Rattle.ggrammar.specs.declared.fault.MessageFault.{MessageFault}
use Rattle.gtalk.specs.Talks.{IsTurnStart, Left, Talk}
use Rattle.gtalk.specs.declared.conversation.Turn.{Turn}
use Rattle.gtalk.specs.declared.conversation.Turn.TheVariants.{Listens, Speaks, Done}
use Rattle.gtalk.specs.declared.conversation.Stop.{Stop}
use Rattle.gtalk.specs.declared.conversation.Stop.TheVariants as stop
use Rattle.gdialogue.specs.declared.dialogue.Dialogue.{Dialogue}
use Rattle.gdialogue.specs.declared.dialogue.DialogueStage.{DialogueStage}
use Rattle.gdialogue.specs.declared.dialogue.DialogueStage.TheVariants as stage

-- the reason to refuse an incomplete message when no more packets arrive
abbrev pub reason_of : Stop → Why
reason_of stop.Ended = why.Ended
reason_of (stop.Refused fault) = why.Line fault
reason_of stop.Failed = why.Line Io

-- the fault of a refused message: the grammar rejects a packet, memory runs out for its contents, or the message is
-- incomplete when no more packets arrive
pub data IsRefused (judge : Judge) (brings : List Packet → Packet → Bool)
    : List Packet → Option Stop → MessageFault → Type 0 where
  packet : (front : List Packet) (packet : Packet) (why : Why) → IsOpen judge front
      → IsReason (judge front packet) (brings front packet) why
      → IsRefused judge brings (front ++ packet ∷ []) None (record { frame = length front; why = why })
  stopped : (front : List Packet) (stop : Stop) → IsOpen judge front
      → IsRefused judge brings front (Some stop) (record { frame = length front; why = reason_of stop })

-- ---- the turns of a dialogue

abbrev pub turn_of : {M R : Type 0} → DialogueStage M R → Turn
turn_of (stage.Hears message frame) = Listens
turn_of (stage.Says reply) = Speaks
turn_of (stage.Ends reply) = Speaks
turn_of stage.Over = Done

-- A bound on the rest of a dialogue: two turns for each further message, and at most three turns for the current stage.
-- The steps of a message are its packets, at most 2^60 in all. The steps of a reply are its calls.
abbrev pub left_of : {M R : Type 0} → (R → ℕ) → ℕ → DialogueStage M R → Left
left_of calls messages (stage.Hears message frame) = record { turns = messages + messages + 2; steps = 2 ^ 60 - frame }
left_of calls messages (stage.Says reply) = record { turns = messages + messages + 3; steps = calls reply }
left_of calls messages (stage.Ends reply) = record { turns = 1; steps = calls reply }
left_of calls messages stage.Over = record { turns = 0; steps = 0 }

module _ {S : Type 0} (judge : S → Judge) (brings : S → List Packet → Packet → Bool)
    (opens : S → List Packet → Bool → Type 0) (answers : S → List Packet → List Packet → Bool → S → Type 0)
    (refuses : S → MessageFault → List Packet → S → Type 0) where
  -- The dialogue from the first state of this end until now. This end first sent the packets that `opens` allows.
  -- This end then answered each received message in the state before that message.
  pub data Answered (first : S) : List Packet → List Packet → S → Type 0 where
    opened : (said : List Packet) → opens first said true → Answered first [] said first
    more : (heard said lines reply : List Packet) (mid last : S) → Answered first heard said mid
        → IsWhole (judge mid) lines → answers mid lines reply true last
        → Answered first (heard ++ lines) (said ++ reply) last

  -- The latest answer of this end, or the packets that it sent before the first message. The arguments are all packets
  -- received, the reason why no more packets arrive, the packets of all earlier answers, the packets of this answer,
  -- whether the dialogue then continues, and the state of this end.
  pub data HasReplied (first : S) : List Packet → Option Stop → List Packet → List Packet → Bool → S → Type 0 where
    opened : (reply : List Packet) (goes : Bool) → opens first reply goes → HasReplied first [] None [] reply goes first
    answered : (heard said lines reply : List Packet) (goes : Bool) (mid last : S) → Answered first heard said mid
        → IsWhole (judge mid) lines → answers mid lines reply goes last
        → HasReplied first (heard ++ lines) None said reply goes last
    refused : (heard said lines reply : List Packet) (stop : Option Stop) (fault : MessageFault) (mid last : S)
        → Answered first heard said mid → IsRefused (judge mid) (brings mid) lines stop fault
        → refuses mid fault reply last
        → HasReplied first (heard ++ lines) stop said reply false last

  module _ {M R : Type 0} (hears : S → M → List Packet → Type 0) (may : R → List Packet → Bool → Type 0) where
    -- This end is receiving a message, and has answered all earlier messages. The packets that were queued since the
    -- last received packet, if any, are the latest answer.
    pub record HoldsHearing (side : S) (message : M) (frame : ℕ) (talk : Talk) : Type 0 where
      pub first : S
      pub heard : List Packet
      pub answered : Answered first heard talk.said side
      pub front : List Packet
      pub all : talk.heard ≡ heard ++ front
      pub goes : IsOpen (judge side) front
      pub held : hears side message front
      pub count : frame ≡ length front
      pub unstopped : talk.stopped ≡ None
      pub latest : IsTurnStart talk ⊎ ((part : List Packet) × (talk.said ≡ talk.earlier ++ part)
          × HasReplied first talk.heard talk.stopped talk.earlier part true side)

    -- This end is sending an answer, and has queued the packets `part` of it. Every list of packets that may complete
    -- the reply completes the answer.
    pub record HoldsSaying (side : S) (reply : R) (talk : Talk) : Type 0 where
      pub first : S
      pub part : List Packet
      pub all : talk.said ≡ talk.earlier ++ part
      pub due : (rest : List Packet) (goes : Bool) → may reply rest goes
          → HasReplied first talk.heard talk.stopped talk.earlier (part ++ rest) goes side

    -- This end is sending its last reply, and has queued the packets `part` of it. Every list of packets that may
    -- complete the reply ends the dialogue.
    pub record HoldsEnding (side : S) (reply : R) (talk : Talk) : Type 0 where
      pub first : S
      pub part : List Packet
      pub all : talk.said ≡ talk.earlier ++ part
      pub due : (rest : List Packet) (goes : Bool) → may reply rest goes
          → HasReplied first talk.heard talk.stopped talk.earlier (part ++ rest) false side

    -- the dialogue has ended with these packets received and queued
    pub record HoldsOver (side : S) (talk : Talk) : Type 0 where
      pub first : S
      pub part : List Packet
      pub all : talk.said ≡ talk.earlier ++ part
      pub ended : HasReplied first talk.heard talk.stopped talk.earlier part false side

    abbrev pub HoldsStage : S → DialogueStage M R → Talk → Type 0
    HoldsStage side (stage.Hears message frame) talk = HoldsHearing side message frame talk
    HoldsStage side (stage.Says reply) talk = HoldsSaying side reply talk
    HoldsStage side (stage.Ends reply) talk = HoldsEnding side reply talk
    HoldsStage side stage.Over talk = HoldsOver side talk

    -- the packets received and queued so far match the state of the dialogue
    abbrev pub Holds : Dialogue S M R → Talk → Type 0
    Holds dialogue talk = HoldsStage dialogue.side dialogue.stage talk
