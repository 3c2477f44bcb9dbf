-- The packets that may complete a reply of a server from a given state (gitprotocol-v2(5), "ls-refs" and "fetch").
use Rattle.std.specs.Prelude.{◌≡◌, ℕ, ◌+◌, ◌-◌, Bool, false, List, [], ◌∷◌, ◌++◌, length, map, drop, codes, Option, Some, None}
use Rattle.gname.specs.Ids.{Id}
use Rattle.gobject.specs.declared.fault.PackFault.{PackFault}
use Rattle.gobject.specs.Faults.{pack_fault_text}
use Rattle.gparts.specs.Parts.{Gives}
use Rattle.gpkt.specs.Packets.{Packet, Data, Flush, Delim, ResponseEnd}
use Rattle.gpkt.specs.Bands.{band_payload, Fatal}
use Rattle.ggrammar.specs.Texts.{text_packet}
use Rattle.ggrammar.specs.Endings.{ends_with}
use Rattle.ggrammar.specs.declared.ends.Ends.{Ends}
use Rattle.gfetchreply.specs.FetchReplies.{ack_packet, heading_packet, nak_if_none, ready_packet}
use Rattle.gserver.specs.ErrTexts.{error_packets}
use Rattle.gserver.specs.PackSaying.{May, SaysPack}
use Rattle.gserver.specs.declared.said.Rest.{Rest}
use Rattle.gserver.specs.declared.said.Rest.TheVariants as rest

-- the packet that reports a packer's fault on side band 3
abbrev pub fatal_packet : PackFault → Packet
fatal_packet fault = Data (band_payload (Fatal (pack_fault_text fault)))

-- the packets `front`, followed by packets that `May_rest` permits
pub record SaysFirst (front : List Packet) (May_rest : May) (said : List Packet) (goes : Bool) : Type 0 where
  pub rest : List Packet
  pub parts : said ≡ front ++ rest
  pub then : May_rest rest goes

module _ (ends : Ends) (goes_on : Bool) where
  -- the flush packet that ends a reply, followed by a response-end packet if each reply ends with one
  abbrev pub SaysEnd : May
  SaysEnd said goes = (said ≡ Flush ∷ ends_with ends) × (goes ≡ goes_on)

  -- The packets of a pack and the end of the reply. If the packer fails, a packet that reports the fault replaces the
  -- end of the reply.
  abbrev pub EndsPack : List Packet → Option PackFault → May
  EndsPack packets None said goes = (said ≡ packets ++ Flush ∷ ends_with ends) × (goes ≡ goes_on)
  EndsPack packets (Some fault) said goes = (said ≡ packets ++ fatal_packet fault ∷ []) × (goes ≡ false)

  pub record SaysRestOfPack (gives : Gives) (said : List Packet) (goes : Bool) : Type 0 where
    pub packets : List Packet
    pub end : Option PackFault
    pub pack : SaysPack gives packets end
    pub ended : EndsPack packets end said goes

  -- the section of a pack, with its heading
  abbrev pub SaysSection : Gives → May
  SaysSection gives = SaysFirst (text_packet (codes "packfile") ∷ []) (SaysRestOfPack gives)

-- the packets that acknowledge the ids, or `NAK` if there are no ids and no pack follows
abbrev pub acks_or_nak : {K : Type 0} → List Id → Option K → List Packet
acks_or_nak ids None = nak_if_none (map ack_packet ids)
acks_or_nak ids (Some pack) = map ack_packet ids

-- ---- the rest of a reply

-- the packets that follow the acknowledged ids
abbrev pub SaysAfterAcks : {R P : Type 0} → (R → P → Gives) → Ends → Bool → Option (R × P) → May
SaysAfterAcks gives ends goes_on None = SaysEnd ends goes_on
SaysAfterAcks gives ends goes_on (Some pack) =
    SaysFirst (ready_packet ∷ Delim ∷ []) (SaysSection ends goes_on (gives pack.0 pack.1))

module _ {A R P : Type 0} (gives : R → P → Gives) (ends : Ends) (goes_on : Bool) where
  -- the packets from this state of a reply to the end of the reply
  abbrev pub SaysRest : Rest A R P → May
  SaysRest rest.Nothing said goes = (said ≡ []) × (goes ≡ false)
  SaysRest (rest.Refusal text) said goes = (said ≡ error_packets text) × (goes ≡ false)
  SaysRest (rest.AckHeading acks pack) said goes =
      SaysFirst (heading_packet ∷ acks_or_nak acks.ids pack) (SaysAfterAcks gives ends goes_on pack) said goes
  SaysRest (rest.Ack acks at pack) said goes =
      SaysFirst (map ack_packet (drop at acks.ids)) (SaysAfterAcks gives ends goes_on pack) said goes
  SaysRest rest.Nak said goes = SaysFirst (text_packet (codes "NAK") ∷ []) (SaysEnd ends goes_on) said goes
  SaysRest (rest.Delim packer parts) said goes =
      SaysFirst (Delim ∷ []) (SaysSection ends goes_on (gives packer parts)) said goes
  SaysRest (rest.PackHeading packer parts) said goes = SaysSection ends goes_on (gives packer parts) said goes
  SaysRest (rest.Pack packer parts) said goes = SaysRestOfPack ends goes_on (gives packer parts) said goes
  SaysRest rest.Flush said goes = SaysEnd ends goes_on said goes
  SaysRest rest.ResponseEnd said goes = (said ≡ ResponseEnd ∷ []) × (goes ≡ goes_on)

-- ---- the remaining steps

abbrev pub steps_after_acks : {R P : Type 0} → (R → P → ℕ) → Option (R × P) → ℕ
steps_after_acks most None = 2
steps_after_acks most (Some pack) = most pack.0 pack.1 + 5

module _ {A R P : Type 0} (most : R → P → ℕ) where
  -- the maximum number of steps after the next step; each step sends at most one packet
  abbrev pub steps_of : Rest A R P → ℕ
  steps_of rest.Nothing = 0
  steps_of (rest.Refusal text) = 0
  steps_of (rest.AckHeading acks pack) = length acks.ids + 3 + steps_after_acks most pack
  steps_of (rest.Ack acks at pack) = (length acks.ids - at) + 1 + steps_after_acks most pack
  steps_of rest.Nak = 2
  steps_of (rest.Delim packer parts) = most packer parts + 4
  steps_of (rest.PackHeading packer parts) = most packer parts + 3
  steps_of (rest.Pack packer parts) = most packer parts + 2
  steps_of rest.Flush = 1
  steps_of rest.ResponseEnd = 0
