-- The steps of reading a reply: the values stored for the packets so far, and the change with each packet.
use Rattle.std.specs.Prelude.{◌≡◌, ℕ, ◌+◌, Bool, true, false, List, [], ◌∷◌, ◌++◌, length}
use Rattle.std.specs.Prelude.{Option, Some, None, Result, Ok, Err}
use Rattle.gname.specs.Ids.{Id}
use Rattle.gpkt.specs.Packets.{Bytes, Packet, Data, text}
use Rattle.gpkt.specs.Bands.{band_form}
use Rattle.gname.specs.declared.formats.Format.{Format}
use Rattle.ggrammar.specs.Grammar.{Verdict, Open, Whole}
use Rattle.ggrammar.specs.Ids.{id_of_text}
use Rattle.ggrammar.specs.MessageReading.{IsReason}
use Rattle.ggrammar.specs.declared.fault.Why.{Why}
use Rattle.ggrammar.specs.declared.limits.Limits.{Limits}
use Rattle.ggrammar.specs.declared.message.Step.{Step}
use Rattle.ggrammar.specs.declared.message.Step.TheVariants as step
use Rattle.gfetchreply.specs.FetchReplies.{Reading, State, next_place, payload_brings, place_of}
use Rattle.gfetchreply.specs.FetchReplies.{Point, Start, Acking, AfterNak, AfterReady, BeforePack, InPack, Over}
use Rattle.gfetchreply.specs.FetchReplies.{ReplyForm, Acknowledgments, Nak, Readiness, Packfile, Ack, reply_form}
use Rattle.gfetchreply.specs.FetchReplies.{ack_texts, acks_of, band_payloads, data_in, data_of, first_place, is_ready}
use Rattle.gfetchreply.specs.Values.{Acks}
use Rattle.gfetchreply.specs.declared.sections.Point as coded
use Rattle.gfetchreply.specs.declared.sections.Point.TheVariants as place
use Rattle.gfetchreply.specs.declared.sections.Sections.{Sections}

-- the place of the next packet in the grammar, the acknowledged ids, whether `ready` was read, and the numbers of
-- packets and of bytes of the pack
pub record Kept : Type 0 where
  pub place : Point
  pub acks : Acks
  pub ready : Bool
  pub band_count : ℕ
  pub byte_count : ℕ

-- the values stored after these packets
abbrev pub kept_of : Limits → Format → Bool → List Packet → Kept
kept_of limits format direct packets = record {
  place = place_of direct packets;
  acks = record { limits = limits; format = format; ids = acks_of format (ack_texts direct packets) };
  ready = is_ready (ack_texts direct packets);
  band_count = length (band_payloads direct packets);
  byte_count = length (data_of (band_payloads direct packets));
}

abbrev pub first_kept : Limits → Format → Bool → Kept
first_kept limits format direct = record {
  place = first_place direct;
  acks = record { limits = limits; format = format; ids = [] };
  ready = false;
  band_count = 0;
  byte_count = 0;
}

-- the state of the grammar that corresponds to the stored values
abbrev pub state_kept : Kept → State
state_kept kept = record {
  place = kept.place;
  ack_count = length kept.acks.ids;
  band_count = kept.band_count;
  byte_count = kept.byte_count;
}

-- ---- the change with a packet

abbrev pub id_list : Option Id → List Id
id_list None = []
id_list (Some id) = id ∷ []

abbrev pub with_text : Point → Kept → ReplyForm → Kept
with_text Start kept Acknowledgments = record kept { place = Acking }
with_text Acking kept Nak = record kept { place = AfterNak }
with_text Acking kept Readiness = record kept { place = AfterReady; ready = true }
with_text Acking kept (Ack id) = record kept {
  acks = record kept.acks { ids = kept.acks.ids ++ id_list (id_of_text kept.acks.format id) };
}
with_text BeforePack kept Packfile = record kept { place = InPack }
with_text place kept form = kept

-- the stored values after another packet that contains this many bytes of the pack
abbrev pub with_band : Kept → ℕ → Kept
with_band kept more = record kept { band_count = kept.band_count + 1; byte_count = kept.byte_count + more }

abbrev pub with_payload : Point → Kept → Bytes → Kept
with_payload InPack kept payload = with_band kept (length (data_in (band_form payload)))
with_payload Over kept payload = kept
with_payload place kept payload = with_text place kept (reply_form (text payload))

abbrev pub with_packet : Kept → Packet → Kept
with_packet kept (Data payload) = with_payload kept.place kept payload
with_packet kept packet = record kept { place = next_place kept.place packet }

-- the data of the pack in the next packet
abbrev pub data_at : Point → Bytes → Bytes
data_at InPack payload = data_in (band_form payload)
data_at place payload = []

abbrev pub data_there : Point → Packet → Bytes
data_there place (Data payload) = data_at place payload
data_there place _ = []

-- whether accepting the packet needs memory
abbrev pub brings_there : Bool → Point → Packet → Bool
brings_there refuses place (Data payload) = payload_brings refuses place payload
brings_there refuses place _ = false

-- ---- the contents of stored values, independent of where they are in memory

abbrev pub place_in : coded.Point → Point
place_in place.Start = Start
place_in place.Acking = Acking
place_in place.AfterNak = AfterNak
place_in place.AfterReady = AfterReady
place_in place.BeforePack = BeforePack
place_in place.InPack = InPack
place_in place.Over = Over

abbrev pub kept_in : {A : Type 0} → Sections A → Kept
kept_in sections = record {
  place = place_in sections.place;
  acks = sections.acks;
  ready = sections.ready;
  band_count = sections.band_count;
  byte_count = sections.byte_count;
}

abbrev pub state_in : {A : Type 0} → Sections A → State
state_in sections = state_kept (kept_in sections)

-- If the packet is accepted, the verdict accepts it and `taken` is true. If the packet is refused, the verdict refuses
-- it or memory runs out, and `left` is true.
abbrev pub TakesOr : Verdict → Bool → Type 0 → Type 0 → Result Step Why → Type 0
TakesOr verdict brings taken left (Ok step.Open) = (verdict ≡ Open) × taken
TakesOr verdict brings taken left (Ok step.Whole) = (verdict ≡ Whole) × taken
TakesOr verdict brings taken left (Err why) = IsReason verdict brings why × left

abbrev pub verdict_of : Step → Verdict
verdict_of step.Open = Open
verdict_of step.Whole = Whole

-- ---- the sink

module _ {S : Type 0} (taken : S → Bytes → Type 0) where
  -- the sink accepts these bytes after any bytes that it had accepted before
  abbrev pub TakesMore : S → S → Bytes → Type 0
  TakesMore old new more = (before : Bytes) → taken old before → taken new (before ++ more)

  -- the sink accepts no bytes
  abbrev pub TakesNone : S → S → Type 0
  TakesNone old new = (before : Bytes) → taken old before → taken new before

  -- If the packet is accepted according to the verdict, the values `wanted` are stored and the sink accepts the bytes
  -- `more`. If the packet is refused, the sink accepts no bytes.
  abbrev pub TakesBoth : Verdict → Bool → Kept → Kept → Bytes → S → S → Result Step Why → Type 0
  TakesBoth verdict brings wanted kept more old new result =
      TakesOr verdict brings ((kept ≡ wanted) × TakesMore old new more) (TakesNone old new) result

module _ {S : Type 0} (taken : S → Bytes → Type 0) (same : S → S → Type 0) where
  -- The state after the packets so far: the stored values, and the sink, which has accepted the pack's data after any
  -- bytes that it had accepted before. The sink is still the same sink, at the same address.
  pub record Holds (had : Bytes → Type 0) (starts : S → Type 0) (seat : ℕ) (asked reading : Reading) (kept : Kept)
      (sink : S) (name : ℕ) (packets : List Packet) : Type 0 where
    pub kind : reading ≡ asked
    pub counts : kept ≡ kept_of reading.limits reading.format reading.direct packets
    pub pack : (before : Bytes) → had before → taken sink (before ++ data_of (band_payloads reading.direct packets))
    pub is_same : (start : S) → starts start → same start sink
    pub in_place : name ≡ seat

  -- the state after these packets and a refused packet: the sink has accepted the data of these packets, and is still
  -- the same sink
  pub record Leaves (had : Bytes → Type 0) (starts : S → Type 0) (seat : ℕ) (asked reading : Reading) (sink : S)
      (name : ℕ) (packets : List Packet) : Type 0 where
    pub kind : reading ≡ asked
    pub pack : (before : Bytes) → had before → taken sink (before ++ data_of (band_payloads reading.direct packets))
    pub is_same : (start : S) → starts start → same start sink
    pub in_place : name ≡ seat

module _ {S : Type 0} (taken : S → Bytes → Type 0) (same : S → S → Type 0) where
  -- the state after these packets, which one sink accepted: the stored values, and the sink, which has accepted the
  -- pack's data and nothing else
  abbrev pub HoldsReply : Reading → Kept → S → List Packet → Type 0
  HoldsReply reading kept sink packets =
      Holds taken same (λ bytes. bytes ≡ []) (λ start. ⊥) 0 reading reading kept sink 0 packets
