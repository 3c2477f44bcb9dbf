-- Reading the same packets as the reply to another request, or with other limits.
use Rattle.std.proofs.Common.{◌≡◌, ℕ, ◌+◌, ◌≤◌, Bool, true, false, List, [], ◌∷◌, ◌++◌, length, map, cond, inl, inr}
use Rattle.std.proofs.Common.{Option, Some, None, Result, Ok, Err, refl, sym, subst, ap, ◌∙◌, arith}
use Rattle.std.specs.Prelude.{◌⊎◌, ◌&&◌, is_some, nat_le, nat_lt}
use Rattle.std.proofs.lemmas.Bool.{and_parts, and_from, leb-true, le-leb, ltb-true, lt-ltb}
use Rattle.std.proofs.lemmas.List.{length-map}
use Rattle.gname.specs.declared.formats.Format.{Format}
use Rattle.gpkt.specs.Change.{Change}
use Rattle.gpkt.specs.PacketReading.{Reads}
use Rattle.gpkt.specs.Packets.{Packet, Data, Flush, text}
use Rattle.gpkt.specs.Bands.{BandPacket, band_form, Data as BandData}
use Rattle.gpkt.specs.declared.fault.BandFault.{BandFault}
use Rattle.ggrammar.specs.Grammar.{Judge, LawsOf, Open, Refused, Verdict, IsOpen, IsWhole, if_room}
use Rattle.ggrammar.specs.MessageBytes.{known_bytes, IsOfBytes, LawsOfBytes}
use Rattle.ggrammar.specs.MessageReading.{IsReasonAfter, ReadsRefused}
use Rattle.ggrammar.specs.PeerErrors.{peer_error, unless_error}
use Rattle.ggrammar.specs.declared.fault.MessageFault.{MessageFault}
use Rattle.ggrammar.specs.declared.fault.Why.{Why}
use Rattle.ggrammar.specs.declared.fault.Why.TheVariants as why
use Rattle.ggrammar.specs.declared.limits.Limits.{Limits}
use Rattle.ggrammar.specs.Ids.{id_of_text}
use Rattle.ggrammar.proofs.VerdictLemmas.{room_goes_on}
use Rattle.gfetchreply.specs.FetchManual.{IsAckSection, IsBody, IsPackSection}
use Rattle.gfetchreply.specs.FetchReplies.{Reading, State, Point, Start, Acking, AfterNak, AfterReady, BeforePack, InPack}
use Rattle.gfetchreply.specs.FetchReplies.{FetchReply, Acks, Ready, Pack, Says, brings, judge, judge_at, judge_band, judge_there, state_of, first_place}
use Rattle.gfetchreply.specs.FetchReplies.{ReplyForm, Ack, Acknowledgments, Packfile, reply_form}
use Rattle.gfetchreply.specs.FetchReplies.{judge_acking, max_acks}
use Rattle.gfetchreply.specs.FetchHeads.{acknowledged_by, pack_of}
use Rattle.gfetchreply.specs.Laws.{IsInAnyLimit, IsInAnyLimits, IsRefusedOverLimit, OneInWhateverReading}
use Rattle.gfetchreply.proofs.ReplyEndings.{HasEndings-judge}
use Rattle.gfetchreply.proofs.ReplyManual.{acks_count, manual_from_says, one_reply_begins, says_from_manual}
use Rattle.gfetchreply.proofs.ReplyManual.{whole_at_start}
use Rattle.gfetchreply.proofs.ReplySections.{data_goes, refused}
use Rattle.gfetchreply.proofs.ReplyVerdicts.{at_place, before_open, IsWholeAt, start, start_open}

-- ---- another size limit

pack_within : (limit other : ℕ) (packets : List Packet) (pack : List ℕ) → IsPackSection limit packets pack → length pack ≤ other → IsPackSection other packets pack
pack_within limit other packets pack is short = record {
  heading = is.heading;
  payloads = is.payloads;
  parts = is.parts;
  is_heading = is.is_heading;
  are_bands = is.are_bands;
  few = is.few;
  short = short;
  is_data = is.is_data;
}

body_within : (reading : Reading) (limit : ℕ) (packets : List Packet) (reply : FetchReply) → IsBody reading packets reply → length (pack_of reply) ≤ limit
    → IsBody (record reading { limit = limit }) packets reply
body_within reading limit packets (Acks ids) is short = is
body_within reading limit packets (Ready ids pack) is short = (
  is.0,
  record {
    section = is.1.section;
    readiness = is.1.readiness;
    rest = is.1.rest;
    acks = is.1.acks;
    is_readiness = is.1.is_readiness;
    packs = pack_within reading.limit limit is.1.rest pack is.1.packs short;
    parts = is.1.parts;
  },
)
body_within reading limit packets (Pack pack) is short = (is.0, pack_within reading.limit limit packets pack is.1 short)

pub any_limit : IsInAnyLimit
any_limit reading limit packets reply said short =
    let is = manual_from_says reading packets reply said in
    says_from_manual (record reading { limit = limit }) packets reply
    (record { body = is.body; is_body = body_within reading limit is.body reply is.is_body short; parts = is.parts })

-- ---- other limits on acknowledged ids

-- the number of acknowledged ids is the number of texts that acknowledge an id
section_count : (limits : Limits) (format : Format) (packets : List Packet) (ids : List (List ℕ))
    → (is : IsAckSection limits format packets ids) → length ids ≡ length is.acks
section_count limits format packets ids is =
    ap length is.are ∙ (acks_count format (map text is.acks) is.are_acks ∙ length-map is.acks text)

section_few : (limits : Limits) (format : Format) (packets : List Packet) (ids : List (List ℕ))
    → IsAckSection limits format packets ids → length ids ≤ max_acks limits
section_few limits format packets ids is =
    let count = section_count limits format packets ids is in let few = is.few in omega arith

section_within : (limits other : Limits) (format : Format) (packets : List Packet) (ids : List (List ℕ))
    → IsAckSection limits format packets ids → length ids ≤ max_acks other → IsAckSection other format packets ids
section_within limits other format packets ids is short = record {
  heading = is.heading;
  acks = is.acks;
  parts = is.parts;
  is_heading = is.is_heading;
  are_acks = is.are_acks;
  few = (let count = section_count limits format packets ids is in omega arith);
  are = is.are;
}

body_allowed : (reading : Reading) (limits : Limits) (packets : List Packet) (reply : FetchReply)
    → IsBody reading packets reply → length (acknowledged_by reply) ≤ max_acks limits
    → IsBody (record reading { limits = limits }) packets reply
body_allowed reading limits packets (Acks ids) (direct, inl (none, is)) few = (
  direct,
  inl (
    none,
    record {
      section = is.section;
      nak = is.nak;
      acks = section_within reading.limits limits reading.format is.section [] is.acks (omega arith);
      is_nak = is.is_nak;
      parts = is.parts;
    },
  ),
)
body_allowed reading limits packets (Acks ids) (direct, inr is) few = (
  direct,
  inr (record {
    section = is.section;
    acks = section_within reading.limits limits reading.format is.section ids is.acks few;
    parts = is.parts;
  }),
)
body_allowed reading limits packets (Ready ids pack) is few = (
  is.0,
  record {
    section = is.1.section;
    readiness = is.1.readiness;
    rest = is.1.rest;
    acks = section_within reading.limits limits reading.format is.1.section ids is.1.acks few;
    is_readiness = is.1.is_readiness;
    packs = is.1.packs;
    parts = is.1.parts;
  },
)
body_allowed reading limits packets (Pack pack) is few = is

pub any_limits : IsInAnyLimits
any_limits reading limits packets reply said few =
    let is = manual_from_says reading packets reply said in
    says_from_manual (record reading { limits = limits }) packets reply
    (record { body = is.body; is_body = body_allowed reading limits is.body reply is.is_body few; parts = is.parts })

-- ---- the limits that a reply is within

body_short : (reading : Reading) (packets : List Packet) (reply : FetchReply) → IsBody reading packets reply → length (pack_of reply) ≤ reading.limit
body_short reading packets (Acks ids) is = omega arith
body_short reading packets (Ready ids pack) is = is.1.packs.short
body_short reading packets (Pack pack) is = is.1.short

body_few : (reading : Reading) (packets : List Packet) (reply : FetchReply) → IsBody reading packets reply
    → length (acknowledged_by reply) ≤ max_acks reading.limits
body_few reading packets (Acks ids) (direct, inl (none, is)) = let empty = ap length none in omega arith
body_few reading packets (Acks ids) (direct, inr is) =
    section_few reading.limits reading.format is.section ids is.acks
body_few reading packets (Ready ids pack) is = section_few reading.limits reading.format is.1.section ids is.1.acks
body_few reading packets (Pack pack) is = omega arith

-- the reply is within the limits of the reading
record Keeps (reading : Reading) (reply : FetchReply) : Type 0 where
  short : length (pack_of reply) ≤ reading.limit
  few : length (acknowledged_by reply) ≤ max_acks reading.limits

said_keeps : (reading : Reading) (packets : List Packet) (reply : FetchReply) → Says reading packets reply
    → Keeps reading reply
said_keeps reading packets reply said =
    let is = manual_from_says reading packets reply said in
    record { short = body_short reading is.body reply is.is_body; few = body_few reading is.body reply is.is_body }

-- limits that allow at least as many haves as each of the two given limits
abbrev either : Limits → Limits → Limits
either limits other = record limits { haves = limits.haves + other.haves }

wider : (reading : Reading) (limit : ℕ) (limits : Limits) (packets : List Packet) (reply : FetchReply)
    → Says reading packets reply → length (pack_of reply) ≤ limit → length (acknowledged_by reply) ≤ max_acks limits
    → Says (record reading { limit = limit; limits = limits }) packets reply
wider reading limit limits packets reply said short few =
    any_limits (record reading { limit = limit }) limits packets reply
    (any_limit reading limit packets reply said short) few

-- ---- the first packet, which shows whether a reply is direct

abbrev heading_of : Bool → ReplyForm
heading_of true = Packfile
heading_of false = Acknowledgments

abbrev IsHeadedBy : ReplyForm → List Packet → Type 0
IsHeadedBy form (Data payload ∷ rest) = reply_form (text payload) ≡ form
IsHeadedBy form packets = ⊥

headed : (reading : Reading) (direct : Bool) (packets : List Packet) → reading.direct ≡ direct
    → IsWholeAt reading (start reading) packets → IsHeadedBy (heading_of direct) packets
headed reading direct [] is h = absurd h
headed reading true (Data payload ∷ rest) is h =
    before_open _ (data_goes reading (start reading) BeforePack payload rest (ap first_place is) h).0
headed reading false (Data payload ∷ rest) is h =
    start_open _ (data_goes reading (start reading) Start payload rest (ap first_place is) h).0
headed reading direct (packet ∷ rest) is h =
    refused _ _ (at_place reading (start reading) (first_place direct) packet (ap first_place is)) h

same_heading : (packets back : List Packet) (a b : ReplyForm) → IsHeadedBy a packets → IsHeadedBy b (packets ++ back)
    → a ≡ b
same_heading (Data payload ∷ rest) back a b p q = sym p ∙ q
same_heading packets back a b p q = absurd p

heading_tells : (a b : Bool) → heading_of a ≡ heading_of b → b ≡ a
heading_tells true true e = refl
heading_tells false false e = refl
heading_tells a b e = cc

-- if a complete reply is a prefix of another complete reply, both are direct or neither is
same_direct : (reading other : Reading) (packets back : List Packet) → IsWhole (judge reading) packets
    → IsWhole (judge other) (packets ++ back) → other.direct ≡ reading.direct
same_direct reading other packets back p q =
    heading_tells reading.direct other.direct
    (same_heading packets back _ _ (headed reading _ packets refl (whole_at_start reading packets p))
    (headed other _ (packets ++ back) refl (whole_at_start other (packets ++ back) q)))

same_reading : (reading other : Reading) (limit : ℕ) (limits : Limits) → other.format ≡ reading.format
    → other.direct ≡ reading.direct → other.ends ≡ reading.ends
    → record other { limit = limit; limits = limits } ≡ record reading { limit = limit; limits = limits }
same_reading reading other limit limits format direct ends =
    λ i. record { limits = limits; format = format i; direct = direct i; limit = limit; ends = ends i }

pub whatever_reading : OneInWhateverReading
whatever_reading reading other packets back one also format ends p q =
    let limit = length (pack_of one) + length (pack_of also) in
    let limits = either reading.limits other.limits in
    let direct = same_direct reading other packets back p.whole q.whole in
    let few = (said_keeps reading packets one p).few in
    let few_too = (said_keeps other (packets ++ back) also q).few in
    one_reply_begins (record reading { limit = limit; limits = limits }) packets back one also
    (wider reading limit limits packets one p (omega arith) (omega arith))
    (subst (λ (r : Reading). Says r (packets ++ back) also) (same_reading reading other limit limits format direct ends)
    (wider other limit limits (packets ++ back) also q (omega arith) (omega arith)))

-- ---- verdicts with higher limits

room_more : (few : Bool) (bytes limit more : ℕ) (test : Bool) (v : Verdict) → limit ≤ more → (few && nat_le bytes limit) ≡ test → if_room (few && nat_le bytes limit) ≡ v
    → (v ≡ Refused why.Limit) ⊎ (if_room (few && nat_le bytes more) ≡ v)
room_more few bytes limit more true v longer is e =
    let both = and_parts few (nat_le bytes limit) is in
    let short = leb-true bytes limit both.1 in
    inr (room_goes_on (few && nat_le bytes more) (and_from few (nat_le bytes more) both.0 (le-leb bytes more (omega arith))) ∙ (sym (room_goes_on (few && nat_le bytes limit) is) ∙ e))
room_more few bytes limit more false v longer is e = inl (sym e ∙ ap if_room is)

band_more : (limit more : ℕ) (state : State) (form : Result BandPacket BandFault) (v : Verdict) → limit ≤ more → judge_band limit state form ≡ v
    → (v ≡ Refused why.Limit) ⊎ (judge_band more state form ≡ v)
band_more limit more state (Ok (BandData bytes)) v longer e = room_more _ (state.byte_count + length bytes) limit more _ v longer refl e
band_more limit more state (Ok form) v longer e = inr e
band_more limit more state (Err fault) v longer e = inr e

-- the verdict on another acknowledged id is the same with a higher limit, unless it rejects the id with `Limit`
count_more : (count most more : ℕ) (test : Bool) (v : Verdict) → most ≤ more → nat_lt count most ≡ test
    → if_room (nat_lt count most) ≡ v → (v ≡ Refused why.Limit) ⊎ (if_room (nat_lt count more) ≡ v)
count_more count most more true v longer is e =
    let less = ltb-true count most is in
    inr (room_goes_on (nat_lt count more) (lt-ltb count more (omega arith))
    ∙ (sym (room_goes_on (nat_lt count most) is) ∙ e))
count_more count most more false v longer is e = inl (sym e ∙ ap if_room is)

id_more : (known : Bool) (count most more : ℕ) (v : Verdict) → most ≤ more
    → cond known (if_room (nat_lt count most)) (Refused why.BadId) ≡ v
    → (v ≡ Refused why.Limit) ⊎ (cond known (if_room (nat_lt count more)) (Refused why.BadId) ≡ v)
id_more true count most more v longer e = count_more count most more _ v longer refl e
id_more false count most more v longer e = inr e

acking_more : (limits more : Limits) (format : Format) (state : State) (form : ReplyForm) (v : Verdict)
    → max_acks limits ≤ max_acks more → judge_acking limits format state form ≡ v
    → (v ≡ Refused why.Limit) ⊎ (judge_acking more format state form ≡ v)
acking_more limits more format state (Ack id) v longer e =
    id_more (is_some (id_of_text format id)) state.ack_count (max_acks limits) (max_acks more) v longer e
acking_more limits more format state form v longer e = inr e

-- the same fact for a verdict that an error of the peer may replace
error_more : (said : Option (List ℕ)) (one other v : Verdict)
    → ((w : Verdict) → one ≡ w → (w ≡ Refused why.Limit) ⊎ (other ≡ w))
    → unless_error said one ≡ v → (v ≡ Refused why.Limit) ⊎ (unless_error said other ≡ v)
error_more (Some said) one other v more e = inr e
error_more None one other v more e = more v e

-- the given limits are at least as high as those of the reading
record Allows (reading : Reading) (limit : ℕ) (limits : Limits) : Type 0 where
  longer : reading.limit ≤ limit
  many : max_acks reading.limits ≤ max_acks limits

module _ (reading : Reading) (limit : ℕ) (limits : Limits) (allows : Allows reading limit limits) where
  abbrev wide : Reading
  wide = record reading { limit = limit; limits = limits }

  judge_more : (state : State) (place : Point) (packet : Packet) (v : Verdict)
      → judge_there reading place state packet ≡ v
      → (v ≡ Refused why.Limit) ⊎ (judge_there wide place state packet ≡ v)
  judge_more state InPack (Data payload) v e =
      error_more (peer_error payload) _ _ v
      (λ w. band_more reading.limit limit state (band_form payload) w allows.longer) e
  judge_more state Acking (Data payload) v e =
      error_more (peer_error payload) _ _ v
      (λ w. acking_more reading.limits limits reading.format state (reply_form (text payload)) w allows.many) e
  judge_more state Start Flush v e = inr e
  judge_more state Acking Flush v e = inr e
  judge_more state AfterNak Flush v e = inr e
  judge_more state AfterReady Flush v e = inr e
  judge_more state BeforePack Flush v e = inr e
  judge_more state place packet v e = inr e

  judged_more : (front : List Packet) (packet : Packet) (v : Verdict) → judge reading front packet ≡ v
      → (v ≡ Refused why.Limit) ⊎ (judge wide front packet ≡ v)
  unfolding judge_at
  judged_more front packet v e = judge_more (state_of reading front) (state_of reading front).place packet v e

  open_more : (front : List Packet) → IsOpen (judge reading) front → IsOpen (judge wide) front
  open_more front opened = record {
    each = λ before packet back parts.
        elim (judged_more before packet Open (opened.each before packet back parts)) [
          | inl h ↦ absurd cc
          | inr h ↦ h
        ];
  }

  packet_more : (front : List Packet) (bytes : Change) (reason : Why)
      → (packet : Packet) × Reads bytes (Ok (Some packet)) × (judge reading front packet ≡ Refused reason)
      → (reason ≡ why.Limit)
      ⊎ ((packet : Packet) × Reads bytes (Ok (Some packet)) × (judge wide front packet ≡ Refused reason))
  packet_more front bytes reason h =
      elim (judged_more front h.0 (Refused reason) h.2) [
        | inl e ↦ inl cc
        | inr e ↦ inr (h.0, h.1, e)
      ]

  reason_more : (front : List Packet) (bytes : Change) (reason : Why) → IsOfBytes reason
      → IsReasonAfter (judge reading) (brings reading) front bytes reason
      → (reason ≡ why.Limit) ⊎ IsReasonAfter (judge wide) (brings wide) front bytes reason
  reason_more front bytes (why.Line fault) certain h = inr h
  reason_more front bytes why.Ended certain h = inr h
  reason_more front bytes why.Memory certain h = absurd certain
  reason_more front bytes why.Limit certain h = inl refl
  reason_more front bytes reason certain h = packet_more front bytes reason h

  -- with higher limits, a refusal stays the same, unless its reason is `Limit`
  refused_more : (front : List Packet) (bytes : Change) (fault : MessageFault) → LawsOf (judge wide)
      → IsOfBytes fault.why → ReadsRefused (judge reading) (brings reading) front bytes fault
      → (fault.why ≡ why.Limit) ⊎ ReadsRefused (judge wide) (brings wide) front bytes fault
  refused_more front bytes fault laws certain refused =
      let opened = open_more front refused.goes in
      elim (reason_more front (record { old = refused.between; new = bytes.new }) fault.why certain refused.reason) [
        | inl e ↦ inl e
        | inr h ↦ inr (record {
          between = refused.between;
          goes = opened;
          unfinished = laws.beginnings (HasEndings-judge wide) front opened;
          frame = refused.frame;
          before = refused.before;
          reason = h;
        })
      ]

-- a reply that is accepted with some limits is refused with other limits only because of `Limit`: limits that are at
-- least as high as both accept the reply
pub over_limit : ((judge : Judge) → LawsOf judge) → ((judge : Judge) → LawsOfBytes judge) → IsRefusedOverLimit
over_limit laws bytes_laws reading limit limits packets front reply bytes new rest fault said at refused certain =
    let given = record reading { limit = limit; limits = limits } in
    let more = reading.limit + limit in
    let all = either reading.limits limits in
    let keeps = said_keeps given packets reply said in
    let short = keeps.short in
    let few = keeps.few in
    let there = wider given more all packets reply said (omega arith) (omega arith) in
    let allows : Allows reading more all = record { longer = omega arith; many = omega arith } in
    let law = laws (judge (wide reading more all allows)) in
    elim (refused_more reading more all allows front (known_bytes bytes new) fault law certain refused) [
      | inl e ↦ e
      | inr r ↦
          absurd ((bytes_laws (judge (wide reading more all allows))).refused (brings (wide reading more all allows))
          front packets bytes new rest fault r certain at there.whole)
    ]
