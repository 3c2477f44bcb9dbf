-- The fetch replies that a server may send, as gitprotocol-v2(5) states them: sequences of sections.
use Rattle.std.specs.Prelude.{◌≡◌, ℕ, ◌≤◌, ◌⊎◌, true, false, List, [], ◌∷◌, ◌++◌, length, map, codes, All, Result, Ok}
use Rattle.std.specs.Option.{IsSome}
use Rattle.gname.specs.Ids.{Id}
use Rattle.gpkt.specs.Packets.{Bytes, Packet, Data, Flush, Delim, text}
use Rattle.gpkt.specs.Bands.{BandPacket, band_form, Data as BandData, Progress}
use Rattle.gpkt.specs.declared.fault.BandFault.{BandFault}
use Rattle.gname.specs.declared.formats.Format.{Format}
use Rattle.ggrammar.specs.Endings.{ends_with}
use Rattle.ggrammar.specs.declared.limits.Limits.{Limits}
use Rattle.gfetchreply.specs.FetchReplies.{Reading, FetchReply, Acks, Ready, Pack, reply_form, ack_id, acks_of, data_of}
use Rattle.gfetchreply.specs.FetchReplies.{max_acks, max_packets}

-- the text of an acknowledgment: `ACK ` and an id
abbrev pub IsAck : Format → Bytes → Type 0
IsAck format line = IsSome (ack_id format (reply_form line))

-- the side-band packet carries data of the pack, or progress
abbrev pub IsDataOrProgress : Result BandPacket BandFault → Type 0
IsDataOrProgress (Ok (BandData bytes)) = Unit {0}
IsDataOrProgress (Ok (Progress bytes)) = Unit {0}
IsDataOrProgress _ = ⊥

-- the section of acknowledgments: the heading `acknowledgments` and the acknowledged ids
pub record IsAckSection (limits : Limits) (format : Format) (packets : List Packet)
    (ids : List Id) : Type 0 where
  pub heading : Bytes
  pub acks : List Bytes
  pub parts : packets ≡ Data heading ∷ map Data acks
  pub is_heading : text heading ≡ codes "acknowledgments"
  pub are_acks : All (IsAck format) (map text acks)
  pub few : length acks ≤ max_acks limits
  pub are : ids ≡ acks_of format (map text acks)

-- the section of the pack: the heading `packfile`, side-band packets and a flush
pub record IsPackSection (limit : ℕ) (packets : List Packet) (pack : Bytes) : Type 0 where
  pub heading : Bytes
  pub payloads : List Bytes
  pub parts : packets ≡ Data heading ∷ (map Data payloads ++ Flush ∷ [])
  pub is_heading : text heading ≡ codes "packfile"
  pub are_bands : All (λ payload. IsDataOrProgress (band_form payload)) payloads
  pub few : length payloads ≤ max_packets
  pub short : length pack ≤ limit
  pub is_data : pack ≡ data_of payloads

-- a reply with NAK, which has no acknowledged ids, no `ready` and no pack
pub record IsNakReply (limits : Limits) (format : Format) (packets : List Packet) : Type 0 where
  pub section : List Packet
  pub nak : Bytes
  pub acks : IsAckSection limits format section []
  pub is_nak : text nak ≡ codes "NAK"
  pub parts : packets ≡ section ++ Data nak ∷ Flush ∷ []

-- a reply with acknowledged ids, possibly none, but no NAK, no `ready` and no pack
pub record IsAckReply (limits : Limits) (format : Format) (packets : List Packet)
    (ids : List Id) : Type 0 where
  pub section : List Packet
  pub acks : IsAckSection limits format section ids
  pub parts : packets ≡ section ++ Flush ∷ []

-- a reply with acknowledged ids, possibly none, followed by `ready` and the pack
pub record IsReadyReply (limits : Limits) (format : Format) (limit : ℕ) (packets : List Packet) (ids : List Id)
    (pack : Bytes) : Type 0 where
  pub section : List Packet
  pub readiness : Bytes
  pub rest : List Packet
  pub acks : IsAckSection limits format section ids
  pub is_readiness : text readiness ≡ codes "ready"
  pub packs : IsPackSection limit rest pack
  pub parts : packets ≡ section ++ Data readiness ∷ Delim ∷ rest

abbrev pub IsBody : Reading → List Packet → FetchReply → Type 0
IsBody reading packets (Acks ids) =
    (reading.direct ≡ false)
    × (((ids ≡ []) × IsNakReply reading.limits reading.format packets)
    ⊎ IsAckReply reading.limits reading.format packets ids)
IsBody reading packets (Ready ids pack) =
    (reading.direct ≡ false) × IsReadyReply reading.limits reading.format reading.limit packets ids pack
IsBody reading packets (Pack pack) = (reading.direct ≡ true) × IsPackSection reading.limit packets pack

-- the packets encode this reply
pub record IsFetchReply (reading : Reading) (packets : List Packet) (reply : FetchReply) : Type 0 where
  pub body : List Packet
  pub is_body : IsBody reading body reply
  pub parts : packets ≡ body ++ ends_with reading.ends
