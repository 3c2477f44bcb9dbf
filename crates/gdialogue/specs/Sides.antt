-- The packets that one end of a dialogue receives and sends.
use Rattle.std.specs.Prelude.{◌≡◌, Bool, true, false, List, [], ◌++◌, Result}
use Rattle.gpkt.specs.Packets.{Bytes, Packet, canonical_all}
use Rattle.ggrammar.specs.Grammar.{Judge}
use Rattle.ggrammar.specs.MessageReading.{TakesPacket}
use Rattle.ggrammar.specs.declared.fault.Why.{Why}
use Rattle.ggrammar.specs.declared.message.Step.{Step}
use Rattle.gdialogue.specs.declared.side.Answer.{Answer}
use Rattle.gdialogue.specs.declared.side.Answer.TheVariants as answer
use Rattle.gdialogue.specs.declared.side.Said.{Said}
use Rattle.gdialogue.specs.declared.side.Said.TheVariants.{More, Whole, Last}

-- the message accepts or rejects the packet according to the judge; after a rejection, nothing is known of the message
abbrev pub HearsPacket : {M : Type 0} → Judge → (List Packet → Packet → Bool) → (M → List Packet → Type 0)
    → List Packet → Packet → M → Result Step Why → Type 0
HearsPacket judge brings hears front packet new result =
    TakesPacket judge brings hears (λ message packets. Unit {0}) front packet new result

-- a reply with known packets sends exactly the remaining packets, and then the dialogue continues
abbrev pub SaysExactly : {R : Type 0} → (R → List Packet) → R → List Packet → Bool → Type 0
SaysExactly rest reply packets goes = (packets ≡ rest reply) × (goes ≡ true)

-- the end sends no packet before the first message
abbrev pub SaysNothing : List Packet → Bool → Type 0
SaysNothing packets goes = (packets ≡ []) × (goes ≡ true)

module _ {R : Type 0} (may : R → List Packet → Bool → Type 0) where
  -- from the old state, the reply may send the packets `said` followed by any packets that may complete it from the new
  -- state
  abbrev pub LeadsTo : R → R → List Packet → Said → Type 0
  LeadsTo old new said More = (rest : List Packet) (goes : Bool) → may new rest goes → may old (said ++ rest) goes
  LeadsTo old new said Whole = may old said true
  LeadsTo old new said Last = may old said false

  -- these bytes encode the next packets of a reply
  pub record SaysSome (old new : R) (bytes : Bytes) (result : Said) : Type 0 where
    pub said : List Packet
    pub spelt : bytes ≡ canonical_all said
    pub leads : LeadsTo old new said result

  -- whether an answer may send these packets; `goes` states whether the dialogue then continues, and a last answer
  -- always ends the dialogue
  abbrev pub MayAnswer : Answer R → List Packet → Bool → Type 0
  MayAnswer (answer.GoesOn reply) packets goes = may reply packets goes
  MayAnswer (answer.Last reply) packets goes = (goes ≡ false) × ((reply_goes : Bool) × may reply packets reply_goes)
