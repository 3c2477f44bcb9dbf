-- The result of reading a message, and the packets that the call consumes from its source.
use Rattle.std.specs.Prelude.{◌≡◌, Bool, true, false, List, [], ◌∷◌, ◌++◌, length, Option, Some, None, Result}
use Rattle.std.specs.Prelude.{IsTrue, Ok, Err}
use Rattle.gpkt.specs.Packets.{Bytes, Packet}
use Rattle.gpkt.specs.Change.{Change}
use Rattle.gpkt.specs.PacketReading.{Reader, Reads, ReadsPackets}
use Rattle.gpkt.specs.declared.fault.PacketFault.TheVariants.{Io, Failed, Memory as PacketMemory}
use Rattle.ggrammar.specs.Grammar.{Judge, Verdict, Open, Whole, Refused, IsOpen, IsUnfinished, IsWhole}
use Rattle.ggrammar.specs.declared.fault.Why.{Why}
use Rattle.ggrammar.specs.declared.fault.Why.TheVariants.{Line, Memory, Ended}
use Rattle.ggrammar.specs.declared.fault.MessageFault.{MessageFault}
use Rattle.ggrammar.specs.declared.message.Step.{Step}
use Rattle.ggrammar.specs.declared.message.Step.TheVariants as step

-- these packets are read, and form a complete message
pub record ReadsWhole (judge : Judge) (change : Change) (lines : List Packet) : Type 0 where
  pub whole : IsWhole judge lines
  pub bytes : ReadsPackets change lines

-- the verdict accepts the packet
abbrev pub IsAccepted : Verdict → Type 0
IsAccepted Open = Unit {0}
IsAccepted Whole = Unit {0}
IsAccepted (Refused why) = ⊥

-- The reason to reject a packet: the judge's reason, or out of memory for the contents of a packet that the judge
-- accepts.
abbrev pub IsReason : Verdict → Bool → Why → Type 0
IsReason verdict brings (Line fault) = ⊥
IsReason verdict brings Ended = ⊥
IsReason verdict brings Memory = IsAccepted verdict × IsTrue brings
IsReason verdict brings why = verdict ≡ Refused why

-- the next packet is read, and rejected for this reason
abbrev pub ReadsRefusedPacket : Judge → (List Packet → Packet → Bool) → List Packet → Change → Why → Type 0
ReadsRefusedPacket judge brings front change why =
    (packet : Packet) × Reads change (Ok (Some packet)) × IsReason (judge front packet) (brings front packet) why

-- the possible reasons to reject the message after these packets: the packet reader fails, the input ends, or the next
-- packet is rejected
abbrev pub IsReasonAfter : Judge → (List Packet → Packet → Bool) → List Packet → Change → Why → Type 0
IsReasonAfter judge brings front change (Line fault) = Reads change (Err fault)
IsReasonAfter judge brings front change Ended = Reads change (Ok None)
IsReasonAfter judge brings front change why = ReadsRefusedPacket judge brings front change why

-- the message is rejected after these packets, which begin a message and contain no complete message
pub record ReadsRefused (judge : Judge) (brings : List Packet → Packet → Bool) (front : List Packet) (change : Change)
    (fault : MessageFault) : Type 0 where
  pub between : Option Bytes
  pub goes : IsOpen judge front
  pub unfinished : IsUnfinished judge front
  pub frame : fault.frame ≡ length front
  pub before : ReadsPackets (record { old = change.old; new = between }) front
  pub reason : IsReasonAfter judge brings front (record { old = between; new = change.new }) fault.why

-- ---- the effect of a packet on a message that is being read

module _ {M : Type 0} (judge : Judge) (brings : List Packet → Packet → Bool)
    (holds left : M → List Packet → Type 0) where
  -- The message accepts or rejects the packet according to the judge. If the packet is rejected, the predicate `left`
  -- is true for the packets before it.
  abbrev pub TakesPacket : List Packet → Packet → M → Result Step Why → Type 0
  TakesPacket front packet new (Ok step.Open) = (judge front packet ≡ Open) × holds new (front ++ packet ∷ [])
  TakesPacket front packet new (Ok step.Whole) = (judge front packet ≡ Whole) × holds new (front ++ packet ∷ [])
  TakesPacket front packet new (Err why) = IsReason (judge front packet) (brings front packet) why × left new front

  -- a complete message was read, and `message` contains the contents of its packets
  pub record HasTaken (change : Change) (message : M) : Type 0 where
    pub lines : List Packet
    pub read : ReadsWhole judge change lines
    pub held : holds message lines

  -- the message was rejected after some packets, and `left` is true for these packets
  pub record HasRefused (change : Change) (message : M) (fault : MessageFault) : Type 0 where
    pub front : List Packet
    pub refused : ReadsRefused judge brings front change fault
    pub leaves : left message front

-- The fault is an error of the source exactly if the source has failed and the reader had not failed before. The fault
-- is `Failed` exactly if the reader had failed before. Reading a packet needs no memory.
abbrev pub IsReadFailure : Bool → Bool → Why → Type 0
IsReadFailure failed down (Line Io) = (failed ≡ false) × (down ≡ true)
IsReadFailure failed down (Line Failed) = failed ≡ true
IsReadFailure failed down (Line PacketMemory) = ⊥
IsReadFailure failed down why = (failed ≡ false) × (down ≡ false)

-- the packet reader has failed exactly if the fault is a fault of the packet reader
abbrev pub IsFailedBy : Why → Bool → Type 0
IsFailedBy (Line fault) failed = failed ≡ true
IsFailedBy why failed = failed ≡ false

-- The state of the packet reader after reading a message. After a complete message, neither the reader nor its source
-- has failed. After a fault, the reader has failed exactly if the fault is a fault of the packet reader. Unless the
-- reader had failed before, the source has failed exactly if the fault is an error of the source. If the reader had
-- failed before, the fault reports packet position 0.
abbrev pub LeavesReader : {S M : Type 0} → (S → Bool) → Reader S → Reader S → Result M MessageFault → Type 0
LeavesReader is_down old new (Ok message) =
    (old.failed ≡ false) × (new.failed ≡ false) × (is_down new.source ≡ false)
LeavesReader is_down old new (Err fault) =
    IsReadFailure old.failed (is_down new.source) fault.why × IsFailedBy fault.why new.failed
    × (old.failed ≡ true → fault.frame ≡ 0)

-- ---- one packet of a message

-- the packet is accepted according to the verdict, and `taken` is true afterwards, or the packet is rejected
abbrev pub TakesAs : Verdict → Bool → Type 0 → Result Step Why → Type 0
TakesAs verdict brings taken (Ok step.Open) = (verdict ≡ Open) × taken
TakesAs verdict brings taken (Ok step.Whole) = (verdict ≡ Whole) × taken
TakesAs verdict brings taken (Err why) = IsReason verdict brings why

-- the packet is accepted, does not end the message, and `taken` is true afterwards, or the packet is rejected
abbrev pub AddsAs : Verdict → Bool → Type 0 → Result Unit Why → Type 0
AddsAs verdict brings taken (Ok done) = (verdict ≡ Open) × taken
AddsAs verdict brings taken (Err why) = IsReason verdict brings why
