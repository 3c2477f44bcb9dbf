-- The contents of a reply that was read.
use Rattle.std.proofs.Common.{◌≡◌, ℕ, Bool, true, false, List, [], ◌++◌, length, ◌≤◌, append-nil, refl, sym, ap, subst}
use Rattle.std.proofs.Common.{◌∙◌, Result, Ok, Err}
use Rattle.std.specs.Prelude.{if◌then◌else◌, IfErr}
use Rattle.gpkt.specs.Packets.{Packet, Data, canonical_all}
use Rattle.gpkt.specs.Change.{Change}
use Rattle.ggrammar.specs.Grammar.{IsWhole, Whole}
use Rattle.ggrammar.specs.Kinds.{ReadsMessage, ReadsOrRefuses, SaysWhole, ReadsExactly, ReadsBack}
use Rattle.ggrammar.specs.MessageReading.{ReadsWhole, ReadsRefused}
use Rattle.ggrammar.specs.declared.fault.MessageFault.{MessageFault}
use Rattle.gfetchreply.specs.FetchReplies.{Reading, State, Point, InPack, judge_at, place_of, state_of, brings_into}
use Rattle.gfetchreply.specs.FetchReplies.{judge, Says, FetchReply, reply_of, ack_texts, acks_of, band_payloads}
use Rattle.gfetchreply.specs.FetchReplies.{data_of, is_ready, Acks, Ready, Pack, IsCanonical, canonical_reply}
use Rattle.gfetchreply.specs.FetchHeads.{FetchHead, head_of, pack_of}
use Rattle.gfetchreply.specs.steps.FetchHeads.{head_by, reply_with}
use Rattle.gfetchreply.specs.steps.ReplyState.{Kept, kept_of, data_there, Holds, HoldsReply, Leaves}
use Rattle.gfetchreply.specs.ReplyReading.{HasHead, HasRead, TakesReply, RefusesReply, ReadsReply}
use Rattle.gfetchreply.proofs.StateLemmas.{pack_push}
use Rattle.gfetchreply.proofs.ReplyEndings.{open_keeps_limit}
use Rattle.gfetchreply.proofs.ReplyManual.{said_pack}
use Rattle.gfetchreply.proofs.ReplyVerdicts.{data_not_whole}
use Rattle.ggrammar.specs.MessageBytes.{known_bytes, IsOfBytes}
use Rattle.gfetchreply.specs.Laws.{HasReadInto, ReadsBackInto, ReadsIntoOnlySaid, ReadsIntoWhereSaid}
use Rattle.gfetchreply.specs.WellFormed.{IsReplyIn}

heads : (direct ready : Bool) (ids : List (List ℕ)) (pack : List ℕ)
    → head_by direct ready ids ≡ head_of (if direct then Pack pack else if ready then Ready ids pack else Acks ids)
heads true ready ids pack = refl
heads false true ids pack = refl
heads false false ids pack = refl

head_is : (reading : Reading) (packets : List Packet)
    → head_by reading.direct (is_ready (ack_texts reading.direct packets)) (acks_of reading.format (ack_texts reading.direct packets)) ≡ head_of (reply_of reading packets)
head_is reading packets =
    heads reading.direct (is_ready (ack_texts reading.direct packets)) (acks_of reading.format (ack_texts reading.direct packets)) (data_of (band_payloads reading.direct packets))

-- the last packet of a reply contains no data of the pack
last_none : (reading : Reading) (state : State) (place : Point) (packet : Packet) → state.place ≡ place → judge_at reading state packet ≡ Whole → data_there place packet ≡ []
last_none reading state InPack (Data payload) here e = absurd (data_not_whole reading state InPack payload here e)
last_none reading state place (Data payload) here e = refl
last_none reading state place packet here e = refl

-- the data of the pack in a complete reply is within the size limit
whole_is_short : (reading : Reading) (packets : List Packet) → IsWhole (judge reading) packets → length (data_of (band_payloads reading.direct packets)) ≤ reading.limit
whole_is_short reading packets whole =
    let front = data_of (band_payloads reading.direct whole.front) in
    let same : data_of (band_payloads reading.direct packets) ≡ front =
    ap (λ (xs : List Packet). data_of (band_payloads reading.direct xs)) whole.parts
    ∙ (pack_push reading.direct whole.front whole.last
    ∙ (ap (λ (xs : List ℕ). front ++ xs) (last_none reading (state_of reading whole.front) (place_of reading.direct whole.front) whole.last refl whole.ends) ∙ append-nil front)) in
    subst (λ (xs : List ℕ). length xs ≤ reading.limit) (sym same) (open_keeps_limit reading whole.front whole.goes)

rejoined : (reply : FetchReply) → reply_with (head_of reply) (pack_of reply) ≡ reply
rejoined (Acks ids) = refl
rejoined (Ready ids pack) = refl
rejoined (Pack pack) = refl

module _ {S : Type 0} (taken : S → List ℕ → Type 0) (same : S → S → Type 0) (had : List ℕ → Type 0) (starts : S → Type 0) (seat : ℕ) where
  pub takes_reply : (lent asked reading : Reading) (bytes : Change) (kept : Kept) (sink : S) (name : ℕ) (packets : List Packet) (head : FetchHead)
      → asked ≡ lent → ReadsWhole (judge asked) bytes packets
      → Holds taken same had starts seat lent reading kept sink name packets
      → head ≡ head_by asked.direct kept.ready kept.acks.ids → TakesReply taken asked bytes had sink head
  takes_reply lent asked reading bytes kept sink name packets head from read before is =
      let held : Holds taken same had starts seat lent asked kept sink name packets =
      subst (λ r. Holds taken same had starts seat lent r kept sink name packets) (before.kind ∙ sym from) before in
      let says : Says asked packets (reply_of asked packets) = record { whole = read.whole; says = refl } in
      let pack = said_pack asked packets (reply_of asked packets) says in
      record {
        reply = reply_of asked packets;
        read = record { lines = packets; read = read; says = says };
        is_head =
            is ∙ (ap (λ (k : Kept). head_by asked.direct k.ready k.acks.ids) held.counts ∙ head_is asked packets);
        short = subst (λ (xs : List ℕ). length xs ≤ asked.limit) (sym pack) (whole_is_short asked packets read.whole);
        pack = λ old h. subst (λ (xs : List ℕ). taken sink (old ++ xs)) (sym pack) (held.pack old h);
      }

  pub refuses_reply : (refuses : Bool) (lent asked reading : Reading) (bytes : Change) (sink : S) (name : ℕ) (packets : List Packet) (fault : MessageFault)
      → asked ≡ lent → ReadsRefused (judge asked) (brings_into refuses asked) packets bytes fault → Leaves taken same had starts seat lent reading sink name packets
      → RefusesReply taken refuses asked bytes had sink fault
  refuses_reply refuses lent asked reading bytes sink name packets fault from refused before =
      let left : Leaves taken same had starts seat lent asked sink name packets =
      subst (λ r. Leaves taken same had starts seat lent r sink name packets) (before.kind ∙ sym from) before in
      record { packets = packets; refused = refused; short = open_keeps_limit asked packets refused.goes; pack = left.pack }

-- the head of the reply that the packets encode, from the stored values
pub has_head : (reading : Reading) (kept : Kept) (packets : List Packet) (head : FetchHead)
    → IsWhole (judge reading) packets → kept ≡ kept_of reading.limits reading.format reading.direct packets → head ≡ head_by reading.direct kept.ready kept.acks.ids
    → HasHead reading packets head
has_head reading kept packets head whole counts is =
    let says : Says reading packets (reply_of reading packets) = record { whole = whole; says = refl } in
    record {
      reply = reply_of reading packets;
      says = says;
      is_head =
          is ∙ (ap (λ (k : Kept). head_by reading.direct k.ready k.acks.ids) counts ∙ head_is reading packets);
      pack = sym (said_pack reading packets (reply_of reading packets) says);
    }

-- a sink that holds the packets of a reply has accepted the pack of the reply
pub has_read : {S : Type 0} (taken : S → List ℕ → Type 0) (same : S → S → Type 0) (reading : Reading) (kept : Kept) (sink : S) (packets : List Packet) (head : FetchHead)
    → HasHead reading packets head → HoldsReply taken same reading kept sink packets → HasRead taken reading packets head sink
has_read taken same reading kept sink packets head has held = record {
  reply = has.reply;
  says = has.says;
  is_head = has.is_head;
  pack = subst (taken sink) has.pack (held.pack [] refl);
}

-- ---- a sink whose accepted bytes are known, which holds the pack

module _ {S : Type 0} (taken : S → List ℕ → Type 0) (reading : Reading) (bytes : Change) (had : List ℕ → Type 0) (sink : S) (head : FetchHead) (items : List ℕ)
    (h : TakesReply taken reading bytes had sink head) (none : had []) (tells : (xs : List ℕ) → taken sink xs → items ≡ xs) where
  pub pack_is : items ≡ pack_of h.reply
  pack_is = tells _ (h.pack [] none)

  pub short_pack : length items ≤ reading.limit
  short_pack = subst (λ (xs : List ℕ). length xs ≤ reading.limit) (sym pack_is) h.short

  reply_is : reply_with head items ≡ h.reply
  reply_is =
      ap (reply_with head) pack_is ∙ (ap (λ (x : FetchHead). reply_with x (pack_of h.reply)) h.is_head ∙ rejoined h.reply)

  pub said : ReadsMessage (judge reading) (Says reading) bytes (reply_with head items)
  said = subst (ReadsMessage (judge reading) (Says reading) bytes) (sym reply_is) h.read

  pub short_reply : length (pack_of (reply_with head items)) ≤ reading.limit
  short_reply = subst (λ (reply : FetchReply). length (pack_of reply) ≤ reading.limit) (sym reply_is) h.short

-- ---- reading a reply into a sink, from the laws of reading a reply

pub says_whole : (reading : Reading) → SaysWhole (judge reading) (Says reading)
says_whole reading packets = (λ whole. (reply_of reading packets, record { whole = whole; says = refl }), λ said. said.1.whole)

module _ (refuses : Bool) (reading : Reading) where
  -- a read of `bytes` that no failure outside the bytes prevents returns this reply, and leaves `rest`
  abbrev IsRead : List ℕ → List ℕ → List ℕ → FetchReply → Type 0
  IsRead bytes new rest reply = (answer : Result FetchReply MessageFault)
      → ReadsOrRefuses (judge reading) (brings_into refuses reading) (Says reading) (known_bytes bytes new) answer → IfErr answer (λ fault. IsOfBytes fault.why)
      → (answer ≡ Ok reply) × (new ≡ rest)

  module _ {S : Type 0} (taken : S → List ℕ → Type 0) where
    read_into : (bytes new rest : List ℕ) (old sink : S) (result : Result FetchHead MessageFault) (reply : FetchReply)
        → ReadsReply taken refuses reading (known_bytes bytes new) (taken old) sink result → IfErr result (λ fault. IsOfBytes fault.why)
        → IsRead bytes new rest reply → HasReadInto taken rest new old sink result reply
    read_into bytes new rest old sink (Ok head) reply read certain is =
        let h = is (Ok read.reply) read.read tt in
        let same : read.reply ≡ reply = (let both : Ok read.reply ≡ Ok reply = h.0 in cc) in
        record {
          head = ap Ok (read.is_head ∙ ap head_of same);
          left = h.1;
          pack = λ before had. subst (λ (r : FetchReply). taken sink (before ++ pack_of r)) same (read.pack before had);
        }
    read_into bytes new rest old sink (Err fault) reply read certain is =
        absurd (let no : Err fault ≡ Ok reply = (is (Err fault) (read.packets, read.refused) certain).0 in cc)

    pub into_where_said : ReadsExactly (judge reading) (brings_into refuses reading) (Says reading) → ReadsIntoWhereSaid taken refuses reading
    into_where_said exactly bytes new rest old sink result reply read certain at =
        read_into bytes new rest old sink result reply read certain (λ answer reads sure. (exactly bytes new rest answer reply reads sure).1 at)

    pub into_only_said : ReadsExactly (judge reading) (brings_into refuses reading) (Says reading) → ReadsIntoOnlySaid taken reading
    into_only_said exactly bytes new old sink head read = (
      read.reply,
      (exactly bytes new new (Ok read.reply) read.reply read.read tt).0 (refl, refl),
      record { head = ap Ok read.is_head; left = refl; pack = read.pack },
    )

    pub back_into : ReadsBack (judge reading) (brings_into refuses reading) (Says reading) (IsReplyIn reading) (IsCanonical reading.ends) → ReadsBackInto taken refuses reading
    back_into back rest new old sink result reply fit read certain =
        read_into (canonical_all (canonical_reply reading.ends reply) ++ rest) new rest old sink result reply read certain
        (λ answer reads sure. back (canonical_reply reading.ends reply) rest new answer reply fit refl reads sure)
