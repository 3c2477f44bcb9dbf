-- The grammar of a message, as a judge: a function that accepts or rejects packets. Given the packets so far and the
-- next packet, a judge decides that the message continues, is complete, or is rejected with a reason. For each message,
-- gitprotocol-v2(5) states which packets may be sent, and the judge adds the reasons for rejection.
use Rattle.std.specs.Prelude.{◌≡◌, Bool, List, [], ◌∷◌, ◌++◌, if◌then◌else◌}
use Rattle.gpkt.specs.Packets.{Packet}
use Rattle.ggrammar.specs.declared.fault.Why.{Why}
use Rattle.ggrammar.specs.declared.fault.Why.TheVariants.{Limit}

pub data Verdict : Type 0 where
  Open Whole : Verdict
  Refused : (why : Why) → Verdict

-- the verdict on a packet that is accepted exactly if the message has room for it
abbrev pub if_room : Bool → Verdict
if_room has_room = if has_room then Open else Refused Limit

abbrev pub Judge : Type 0
Judge = List Packet → Packet → Verdict

-- the message continues after each of these packets
pub record IsOpen (judge : Judge) (lines : List Packet) : Type 0 where
  pub each : (front : List Packet) (packet : Packet) (back : List Packet) → lines ≡ front ++ packet ∷ back
      → judge front packet ≡ Open

-- the packets are a complete message, which ends with the last packet and not before
pub record IsWhole (judge : Judge) (lines : List Packet) : Type 0 where
  pub front : List Packet
  pub last : Packet
  pub parts : lines ≡ front ++ last ∷ []
  pub goes : IsOpen judge front
  pub ends : judge front last ≡ Whole

-- the packets are the beginning of a complete message
abbrev pub Begins : Judge → List Packet → Type 0
Begins judge lines = (more : List Packet) × IsWhole judge (lines ++ more)

-- the packets begin a message, and no prefix of them is a complete message
pub record IsUnfinished (judge : Judge) (front : List Packet) : Type 0 where
  pub begins : Begins judge front
  pub unfinished : (whole back : List Packet) → front ≡ whole ++ back → IsWhole judge whole → ⊥

-- the earlier packets are the beginning of a message, but no message begins with them followed by `packet`
pub record IsFirstMisfit (judge : Judge) (front : List Packet) (packet : Packet) : Type 0 where
  pub before : IsUnfinished judge front
  pub misfit : Begins judge (front ++ packet ∷ []) → ⊥

-- each list of packets after which the message continues can be completed to a message
abbrev pub HasEndings : Judge → Type 0
HasEndings judge = (front : List Packet) → IsOpen judge front → Begins judge front

-- ---- laws of judges; the first two laws apply to judges whose open lists can all be completed

-- an open list is the beginning of a message, and no prefix of it is a complete message
abbrev pub OpenIsUnfinished : Judge → Type 0
OpenIsUnfinished judge = (front : List Packet) → IsOpen judge front → IsUnfinished judge front

-- a rejected packet is the first packet that fits no message
abbrev pub RefusesFirstMisfits : Judge → Type 0
RefusesFirstMisfits judge = (front : List Packet) (packet : Packet) (why : Why) → IsOpen judge front
    → judge front packet ≡ Refused why → IsFirstMisfit judge front packet

-- no message is a proper prefix of another
abbrev pub IsPrefixFree : Judge → Type 0
IsPrefixFree judge = (lines back : List Packet) → IsWhole judge lines → IsWhole judge (lines ++ back) → back ≡ []

-- the empty list of packets is open
abbrev pub NothingIsOpen : Judge → Type 0
NothingIsOpen judge = IsOpen judge []

-- an open list stays open if the judge accepts another packet that does not end the message
abbrev pub OpenGoesOn : Judge → Type 0
OpenGoesOn judge = (front : List Packet) (packet : Packet) → IsOpen judge front → judge front packet ≡ Open
    → IsOpen judge (front ++ packet ∷ [])

-- each prefix of an open list is open
abbrev pub FrontIsOpen : Judge → Type 0
FrontIsOpen judge = (lines more : List Packet) → IsOpen judge (lines ++ more) → IsOpen judge lines

-- the laws of every judge
pub record LawsOf (judge : Judge) : Type 0 where
  pub nothing : NothingIsOpen judge
  pub goes_on : OpenGoesOn judge
  pub front : FrontIsOpen judge
  pub beginnings : HasEndings judge → OpenIsUnfinished judge
  pub misfits : HasEndings judge → RefusesFirstMisfits judge
  pub one_end : IsPrefixFree judge
