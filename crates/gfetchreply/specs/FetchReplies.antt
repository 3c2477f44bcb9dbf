-- The grammar of a fetch reply (gitprotocol-v2(5), "fetch"):
--
--   output = acknowledgements flush-pkt | [acknowledgments delim-pkt] packfile flush-pkt
--   acknowledgments = "acknowledgments" (nak | *ack) (ready)
--   packfile = "packfile" *(sideband packet)
--
-- A reply is `direct` if the request had `done` or no haves. A direct reply has only one section, the pack. Any other
-- reply begins with the acknowledgments, and the pack follows exactly if the acknowledgments end with `ready`. If the
-- peer ends each reply with a response-end, this packet follows the flush.
use Rattle.std.specs.Prelude.{◌≡◌, ℕ, zero, suc, ◌+◌, Bool, true, false, ◌&&◌, List, [], ◌∷◌, ◌++◌, length, map, take, drop}
use Rattle.std.specs.Prelude.{if◌then◌else◌, codes, min, nat_le, nat_lt, Option, Some, None, is_some, Result, Ok, Err}
use Rattle.std.specs.List.{filter_map, flat_map, list_any}
use Rattle.std.specs.Str.{bytes_eq}
use Rattle.gpkt.specs.Packets.{Bytes, Packet, Data, Flush, Delim, ResponseEnd, text}
use Rattle.gpkt.specs.Bands.{BandPacket, band_form, band_payload, max_band, Data as BandData, Progress, Fatal}
use Rattle.gpkt.specs.declared.fault.BandFault.{BandFault}
use Rattle.gname.specs.Ids.{Id, id_text}
use Rattle.gname.specs.declared.formats.Format.{Format}
use Rattle.ggrammar.specs.Grammar.{Verdict, Open, Refused, IsWhole, if_room}
use Rattle.ggrammar.specs.Endings.{ends_with, at_flush, after_flush}
use Rattle.ggrammar.specs.declared.ends.Ends.{Ends}
use Rattle.ggrammar.specs.declared.limits.Limits.{Limits}
use Rattle.ggrammar.specs.Places.{place_after, collect}
use Rattle.ggrammar.specs.Texts.{text_packet}
use Rattle.ggrammar.specs.Faults.{kept_text}
use Rattle.ggrammar.specs.Ids.{id_of_text}
use Rattle.ggrammar.specs.PeerErrors.{after_word, judge_unless_error}
use Rattle.ggrammar.specs.declared.fault.Why.TheVariants as why

-- the contents of a reply
pub data FetchReply : Type 0 where
  Acks : (ids : List Id) → FetchReply
  Ready : (ids : List Id) (pack : Bytes) → FetchReply
  Pack : (pack : Bytes) → FetchReply

-- the parameters of reading a reply: the limits on acknowledged ids, the id format, whether the reply starts with the
-- pack, the pack's size limit, and the packets that end the reply
pub record Reading : Type 0 where
  pub limits : Limits
  pub format : Format
  pub direct : Bool
  pub limit : ℕ
  pub ends : Ends

-- the maximum number of packets in the section of a pack; also the maximum number of acknowledged ids, even with higher
-- limits
abbrev pub max_packets : ℕ
max_packets = 4294967295

-- the maximum number of ids that a reply acknowledges with these limits
abbrev pub max_acks : Limits → ℕ
max_acks limits = min limits.haves max_packets

-- ---- texts

pub data ReplyForm : Type 0 where
  Acknowledgments Nak Readiness Packfile : ReplyForm
  Ack : (id : Bytes) → ReplyForm
  OtherForm : ReplyForm

abbrev pub ack_or_other : Option Bytes → ReplyForm
ack_or_other None = OtherForm
ack_or_other (Some id) = Ack id

-- the kind of a text; a text that starts with `ACK ` is always an acknowledgment
unfoldable pub reply_form : Bytes → ReplyForm
reply_form line =
    if bytes_eq line (codes "acknowledgments") then Acknowledgments
    else if bytes_eq line (codes "NAK") then Nak
    else if bytes_eq line (codes "ready") then Readiness
    else if bytes_eq line (codes "packfile") then Packfile
    else ack_or_other (after_word (codes "ACK ") line)

-- ---- the place of the next packet in the grammar

pub data Point : Type 0 where
  -- the heading of the acknowledgments is expected
  Start : Point
  -- the heading of the acknowledgments was read, and possibly acknowledged ids
  Acking : Point
  -- NAK was read, which means that no have is common; a flush is expected
  AfterNak : Point
  -- `ready` was read; the delimiter is expected
  AfterReady : Point
  -- the heading of the pack is expected
  BeforePack : Point
  -- the heading of the pack was read, and possibly some of the pack
  InPack : Point
  -- the flush was read; only a response-end may follow
  Over : Point

abbrev pub first_place : Bool → Point
first_place true = BeforePack
first_place false = Start

-- the place in the grammar after a text
abbrev pub after_text : Point → ReplyForm → Point
after_text Start Acknowledgments = Acking
after_text Acking Nak = AfterNak
after_text Acking Readiness = AfterReady
after_text BeforePack Packfile = InPack
after_text place line = place

abbrev pub next_place : Point → Packet → Point
next_place InPack (Data payload) = InPack
next_place Over (Data payload) = Over
next_place place (Data payload) = after_text place (reply_form (text payload))
next_place AfterReady Delim = BeforePack
next_place place Delim = place
next_place Acking Flush = Over
next_place AfterNak Flush = Over
next_place InPack Flush = Over
next_place place Flush = place
next_place place ResponseEnd = place

abbrev pub place_of : Bool → List Packet → Point
place_of direct packets = place_after next_place (first_place direct) packets

-- ---- the contents of the packets so far

-- the id that a text acknowledges, if any
abbrev pub ack_id : Format → ReplyForm → Option Id
ack_id format (Ack id) = id_of_text format id
ack_id format _ = None

abbrev pub texts_there : Point → Packet → List Bytes
texts_there Acking (Data payload) = text payload ∷ []
texts_there place packet = []

abbrev pub bands_there : Point → Packet → List Bytes
bands_there InPack (Data payload) = payload ∷ []
bands_there place packet = []

-- the texts of the acknowledgments, without the heading
unfoldable pub ack_texts : Bool → List Packet → List Bytes
ack_texts direct packets = collect next_place texts_there (first_place direct) packets

-- the payloads of the pack's section, without the heading
unfoldable pub band_payloads : Bool → List Packet → List Bytes
band_payloads direct packets = collect next_place bands_there (first_place direct) packets

abbrev pub acks_of : Format → List Bytes → List Id
acks_of format texts = filter_map (λ line. ack_id format (reply_form line)) texts

abbrev pub data_in : Result BandPacket BandFault → Bytes
data_in (Ok (BandData bytes)) = bytes
data_in _ = []

-- the pack's data, which is on band 1
abbrev pub data_of : List Bytes → Bytes
data_of payloads = flat_map (λ payload. data_in (band_form payload)) payloads

abbrev pub is_readiness : ReplyForm → Bool
is_readiness Readiness = true
is_readiness _ = false

abbrev pub is_ready : List Bytes → Bool
is_ready texts = list_any (λ line. is_readiness (reply_form line)) texts

abbrev pub reply_by : Reading → List Bytes → List Bytes → FetchReply
reply_by reading texts payloads =
    if reading.direct then Pack (data_of payloads)
    else if is_ready texts then Ready (acks_of reading.format texts) (data_of payloads)
    else Acks (acks_of reading.format texts)

abbrev pub reply_of : Reading → List Packet → FetchReply
reply_of reading packets = reply_by reading (ack_texts reading.direct packets) (band_payloads reading.direct packets)

-- ---- the verdict on each packet

-- the state of reading after some packets
pub record State : Type 0 where
  pub place : Point
  pub ack_count : ℕ
  pub band_count : ℕ
  pub byte_count : ℕ

abbrev pub state_of : Reading → List Packet → State
state_of reading packets = record {
  place = place_of reading.direct packets;
  ack_count = length (acks_of reading.format (ack_texts reading.direct packets));
  band_count = length (band_payloads reading.direct packets);
  byte_count = length (data_of (band_payloads reading.direct packets));
}

abbrev pub judge_ack : Limits → Format → State → Bytes → Verdict
judge_ack limits format state id =
    if is_some (id_of_text format id) then if_room (nat_lt state.ack_count (max_acks limits)) else Refused why.BadId

abbrev pub judge_acking : Limits → Format → State → ReplyForm → Verdict
judge_acking limits format state (Ack id) = judge_ack limits format state id
judge_acking limits format state Nak = if nat_lt 0 state.ack_count then Refused why.WrongSection else Open
judge_acking limits format state Readiness = Open
judge_acking limits format state Acknowledgments = Refused why.WrongSection
judge_acking limits format state Packfile = Refused why.WrongSection
judge_acking limits format state OtherForm = Refused why.BadText

-- the verdict on a text after NAK or `ready`, where no text is allowed
abbrev pub judge_late : ReplyForm → Verdict
judge_late OtherForm = Refused why.BadText
judge_late _ = Refused why.WrongSection

abbrev pub judge_start : ReplyForm → Verdict
judge_start Acknowledgments = Open
judge_start Packfile = Refused why.WrongSection
judge_start _ = Refused why.BadText

abbrev pub judge_before_pack : ReplyForm → Verdict
judge_before_pack Packfile = Open
judge_before_pack Acknowledgments = Refused why.WrongSection
judge_before_pack _ = Refused why.BadText

abbrev pub judge_band : ℕ → State → Result BandPacket BandFault → Verdict
judge_band limit state (Err fault) = Refused (why.Band fault)
judge_band limit state (Ok (Fatal bytes)) = Refused (why.RemoteFatal (kept_text bytes))
judge_band limit state (Ok (BandData bytes)) =
    if_room (nat_lt state.band_count max_packets && nat_le (state.byte_count + length bytes) limit)
judge_band limit state (Ok (Progress bytes)) = if_room (nat_lt state.band_count max_packets)

abbrev pub judge_payload : Reading → Point → State → Bytes → Verdict
judge_payload reading Start state payload = judge_start (reply_form (text payload))
judge_payload reading Acking state payload =
    judge_acking reading.limits reading.format state (reply_form (text payload))
judge_payload reading AfterNak state payload = judge_late (reply_form (text payload))
judge_payload reading AfterReady state payload = judge_late (reply_form (text payload))
judge_payload reading BeforePack state payload = judge_before_pack (reply_form (text payload))
judge_payload reading InPack state payload = judge_band reading.limit state (band_form payload)
judge_payload reading Over state payload = Refused why.UnexpectedFrame

abbrev pub judge_flush : Ends → Point → Verdict
judge_flush ends Acking = at_flush ends
judge_flush ends AfterNak = at_flush ends
judge_flush ends InPack = at_flush ends
judge_flush ends _ = Refused why.WrongSection

abbrev pub judge_delim : Point → Verdict
judge_delim AfterReady = Open
judge_delim _ = Refused why.WrongSection

abbrev pub judge_there : Reading → Point → State → Packet → Verdict
judge_there reading Over state packet = after_flush packet
judge_there reading place state (Data payload) =
    judge_unless_error (λ bytes. judge_payload reading place state bytes) payload
judge_there reading place state Flush = judge_flush reading.ends place
judge_there reading place state Delim = judge_delim place
judge_there reading place state ResponseEnd = Refused why.UnexpectedFrame

unfoldable pub judge_at : Reading → State → Packet → Verdict
judge_at reading state packet = judge_there reading state.place state packet

abbrev pub judge : Reading → List Packet → Packet → Verdict
judge reading packets packet = judge_at reading (state_of reading packets) packet

-- ---- accepting a packet may need memory

-- Whether accepting the packet needs memory. An acknowledged id is stored, and a sink may run out of memory for data of
-- the pack. All other packets need no memory.
abbrev pub form_brings : ReplyForm → Bool
form_brings (Ack id) = true
form_brings _ = false

abbrev pub band_brings : Bool → Result BandPacket BandFault → Bool
band_brings refuses (Ok (BandData bytes)) = refuses && nat_lt 0 (length bytes)
band_brings refuses _ = false

abbrev pub payload_brings : Bool → Point → Bytes → Bool
payload_brings refuses Acking payload = form_brings (reply_form (text payload))
payload_brings refuses InPack payload = band_brings refuses (band_form payload)
payload_brings refuses _ payload = false

-- whether accepting the packet needs memory; `refuses` states whether the sink may refuse a piece
abbrev pub brings_into : Bool → Reading → List Packet → Packet → Bool
brings_into refuses reading packets (Data payload) = payload_brings refuses (place_of reading.direct packets) payload
brings_into refuses reading packets _ = false

-- whether accepting the packet needs memory, if the pack is stored in memory
abbrev pub brings : Reading → List Packet → Packet → Bool
brings = brings_into true

-- the packets encode this reply
pub record Says (reading : Reading) (packets : List Packet) (reply : FetchReply) : Type 0 where
  pub whole : IsWhole (judge reading) packets
  pub says : reply ≡ reply_of reading packets

-- ---- writing a reply

abbrev pub ack_packet : Id → Packet
ack_packet id = text_packet (codes "ACK " ++ id_text id)

abbrev pub nak_if_none : List Packet → List Packet
nak_if_none [] = text_packet (codes "NAK") ∷ []
nak_if_none (first ∷ acks) = first ∷ acks

-- at most this many pieces of the pack; each has the maximum size, except that the last may be shorter
abbrev pub pieces_within : ℕ → Bytes → List Bytes
pieces_within zero pack = []
pieces_within (suc most) [] = []
pieces_within (suc most) (byte ∷ rest) =
    take max_band (byte ∷ rest) ∷ pieces_within most (drop max_band (byte ∷ rest))

-- the pieces of the pack; each has the maximum size, except that the last may be shorter
unfoldable pub pieces : Bytes → List Bytes
pieces pack = pieces_within (length pack) pack

abbrev pub data_packet : Bytes → Packet
data_packet bytes = Data (band_payload (BandData bytes))

-- the packets of the pack: the heading `packfile`, the pack on band 1, and a flush
abbrev pub pack_section : Bytes → List Packet
pack_section pack = text_packet (codes "packfile") ∷ (map data_packet (pieces pack) ++ Flush ∷ [])

abbrev pub heading_packet : Packet
heading_packet = text_packet (codes "acknowledgments")

abbrev pub ready_packet : Packet
ready_packet = text_packet (codes "ready")

-- the packets of a reply up to and including its flush
abbrev pub body_packets : FetchReply → List Packet
body_packets (Acks ids) = heading_packet ∷ (nak_if_none (map ack_packet ids) ++ Flush ∷ [])
body_packets (Ready ids pack) = heading_packet ∷ (map ack_packet ids ++ ready_packet ∷ Delim ∷ pack_section pack)
body_packets (Pack pack) = pack_section pack

-- the packets that are written for a reply
unfoldable pub canonical_reply : Ends → FetchReply → List Packet
canonical_reply ends reply = body_packets reply ++ ends_with ends

-- the packets are exactly those that are written for the reply
abbrev pub IsCanonical : Ends → List Packet → FetchReply → Type 0
IsCanonical ends packets reply = packets ≡ canonical_reply ends reply
