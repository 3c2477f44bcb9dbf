-- The judge accepts exactly the replies of the manual's grammar, with the same contents.
use Rattle.std.proofs.Common.{◌≡◌, ℕ, ◌+◌, ◌||◌, Bool, true, false, List, [], ◌∷◌, ◌++◌, length, map, codes, inl, inr, Some, None, suc, refl, sym, ap, subst, ◌∙◌, append_assoc, append-nil, arith}
use Rattle.std.specs.Prelude.{All, if◌then◌else◌}
use Rattle.std.proofs.lemmas.Bool.{cond-true, cond-false}
use Rattle.std.proofs.lemmas.List.{length-map, nil_from_length}
use Rattle.std.proofs.lemmas.List.Elements.{All-head, All-tail}
use Rattle.gpkt.specs.Packets.{Packet, Data, Flush, Delim, text}
use Rattle.gname.specs.declared.formats.Format.{Format}
use Rattle.ggrammar.specs.Grammar.{Judge, IsWhole}
use Rattle.ggrammar.specs.Places.{collect}
use Rattle.ggrammar.specs.Endings.{ends_with}
use Rattle.ggrammar.specs.declared.ends.Ends.{Ends}
use Rattle.ggrammar.specs.declared.ends.Ends.TheVariants.{Plain, Response}
use Rattle.ggrammar.specs.declared.limits.Limits.{Limits}
use Rattle.gfetchreply.specs.FetchManual.{IsAck, IsAckSection, IsPackSection, IsBody, IsFetchReply}
use Rattle.gfetchreply.proofs.ReplyForms.{word_there}
use Rattle.gfetchreply.specs.FetchReplies.{Reading, State, Point, Start, Acking, BeforePack, InPack, Over}
use Rattle.gfetchreply.specs.FetchReplies.{Acknowledgments, Nak, Readiness, Packfile}
use Rattle.gfetchreply.specs.FetchReplies.{FetchReply, Acks, Ready, Pack, ReplyForm, reply_form, ack_id, is_readiness, is_ready}
use Rattle.gfetchreply.specs.FetchReplies.{judge, judge_at, next_place, after_text, first_place, texts_there, bands_there, ack_texts, band_payloads, acks_of, data_of, reply_by, reply_of, Says}
use Rattle.gfetchreply.specs.FetchHeads.{pack_of}
use Rattle.gfetchreply.proofs.ReplyVerdicts.{WholeFrom-from_whole, IsWhole-from_left, WholeFrom-ends, start, judge_is}
use Rattle.gfetchreply.proofs.ReplyVerdicts.{IsWholeAt}
use Rattle.gfetchreply.proofs.ReplySections.{pack_part, part_pack, rest_flush, AckTail, ended, naked, readied, IsAckRest}
use Rattle.gfetchreply.proofs.ReplySections.{acked, ack_part, part_ack, rest_acks, rest_nak, rest_ready, ack_is}
use Rattle.gfetchreply.proofs.StateLemmas.{moved, next_state, acks_of-append, acks_of-one}

-- ---- the texts and the payloads of packets

abbrev texts : Point → List Packet → List (List ℕ)
texts place packets = collect next_place texts_there place packets

abbrev bands : Point → List Packet → List (List ℕ)
bands place packets = collect next_place bands_there place packets

over_texts : (ends : Ends) → texts Over (ends_with ends) ≡ []
over_texts Plain = refl
over_texts Response = refl

over_bands : (ends : Ends) → bands Over (ends_with ends) ≡ []
over_bands Plain = refl
over_bands Response = refl

pack_texts : (ends : Ends) (payloads : List (List ℕ)) → texts InPack (map Data payloads ++ Flush ∷ ends_with ends) ≡ []
pack_texts ends [] = over_texts ends
pack_texts ends (payload ∷ payloads) = pack_texts ends payloads

pack_bands : (ends : Ends) (payloads : List (List ℕ)) → bands InPack (map Data payloads ++ Flush ∷ ends_with ends) ≡ payloads
pack_bands ends [] = over_bands ends
pack_bands ends (payload ∷ payloads) = ap (λ (xs : List (List ℕ)). payload ∷ xs) (pack_bands ends payloads)

-- the packets of a pack's section, followed by the end of the reply
section_parts : (ends : Ends) (limit : ℕ) (section : List Packet) (pack : List ℕ) → (is : IsPackSection limit section pack)
    → section ++ ends_with ends ≡ Data is.heading ∷ (map Data is.payloads ++ Flush ∷ ends_with ends)
section_parts ends limit section pack is =
    ap (λ (xs : List Packet). xs ++ ends_with ends) is.parts
    ∙ ap (λ (xs : List Packet). Data is.heading ∷ xs) (append_assoc (map Data is.payloads) (Flush ∷ []) (ends_with ends))

packfile_there : (heading : List ℕ) → text heading ≡ codes "packfile" → next_place BeforePack (Data heading) ≡ InPack
packfile_there heading e = ap (after_text BeforePack) (word_there (text heading) Packfile tt e)

section_texts : (ends : Ends) (limit : ℕ) (section : List Packet) (pack : List ℕ) → IsPackSection limit section pack → texts BeforePack (section ++ ends_with ends) ≡ []
section_texts ends limit section pack is =
    ap (texts BeforePack) (section_parts ends limit section pack is)
    ∙ (ap (λ (p : Point). texts p (map Data is.payloads ++ Flush ∷ ends_with ends)) (packfile_there is.heading is.is_heading)
    ∙ pack_texts ends is.payloads)

section_bands : (ends : Ends) (limit : ℕ) (section : List Packet) (pack : List ℕ) → (is : IsPackSection limit section pack)
    → bands BeforePack (section ++ ends_with ends) ≡ is.payloads
section_bands ends limit section pack is =
    ap (bands BeforePack) (section_parts ends limit section pack is)
    ∙ (ap (λ (p : Point). bands p (map Data is.payloads ++ Flush ∷ ends_with ends)) (packfile_there is.heading is.is_heading)
    ∙ pack_bands ends is.payloads)

ack_there : (format : Format) (ack : List ℕ) → IsAck format (text ack) → next_place Acking (Data ack) ≡ Acking
ack_there format ack is = ap (after_text Acking) (ack_is format (reply_form (text ack)) is).is

acks_texts : (format : Format) (acks : List (List ℕ)) (tail : List Packet) → All (IsAck format) (map text acks)
    → texts Acking (map Data acks ++ tail) ≡ map text acks ++ texts Acking tail
acks_texts format [] tail are = refl
acks_texts format (ack ∷ acks) tail are =
    ap (λ (xs : List (List ℕ)). text ack ∷ xs)
    (ap (λ (p : Point). texts p (map Data acks ++ tail)) (ack_there format ack (All-head (IsAck format) (text ack) (map text acks) are))
    ∙ acks_texts format acks tail (All-tail (IsAck format) (text ack) (map text acks) are))

acks_bands : (format : Format) (acks : List (List ℕ)) (tail : List Packet) → All (IsAck format) (map text acks)
    → bands Acking (map Data acks ++ tail) ≡ bands Acking tail
acks_bands format [] tail are = refl
acks_bands format (ack ∷ acks) tail are =
    ap (λ (p : Point). bands p (map Data acks ++ tail)) (ack_there format ack (All-head (IsAck format) (text ack) (map text acks) are))
    ∙ acks_bands format acks tail (All-tail (IsAck format) (text ack) (map text acks) are)

heading_there : (heading : List ℕ) → text heading ≡ codes "acknowledgments" → next_place Start (Data heading) ≡ Acking
heading_there heading e = ap (after_text Start) (word_there (text heading) Acknowledgments tt e)

-- the packets from the heading of the acknowledgments on
module _
    (limits : Limits) (format : Format) (section : List Packet) (ids : List (List ℕ))
    (is : IsAckSection limits format section ids) (tail : List Packet)
  where
    headed_parts : section ++ tail ≡ Data is.heading ∷ (map Data is.acks ++ tail)
    headed_parts = ap (λ (xs : List Packet). xs ++ tail) is.parts

    headed_texts : texts Start (section ++ tail) ≡ map text is.acks ++ texts Acking tail
    headed_texts =
        ap (texts Start) headed_parts
        ∙ (ap (λ (p : Point). texts p (map Data is.acks ++ tail)) (heading_there is.heading is.is_heading) ∙ acks_texts format is.acks tail is.are_acks)

    headed_bands : bands Start (section ++ tail) ≡ bands Acking tail
    headed_bands =
        ap (bands Start) headed_parts
        ∙ (ap (λ (p : Point). bands p (map Data is.acks ++ tail)) (heading_there is.heading is.is_heading) ∙ acks_bands format is.acks tail is.are_acks)

-- ---- the contents of texts

-- the number of acknowledged ids is the number of texts that acknowledge an id
pub acks_count : (format : Format) (lines : List (List ℕ)) → All (IsAck format) lines → length (acks_of format lines) ≡ length lines
acks_count format [] are = refl
acks_count format (line ∷ lines) are =
    let form = ack_is format (reply_form line) (All-head (IsAck format) line lines are) in
    let one : acks_of format (line ∷ []) ≡ form.id ∷ [] = acks_of-one format line (Some form.id) (ap (ack_id format) form.is ∙ form.spells) in
    ap length (acks_of-append format (line ∷ []) lines ∙ ap (λ (xs : List (List ℕ)). xs ++ acks_of format lines) one)
    ∙ ap suc (acks_count format lines (All-tail (IsAck format) line lines are))

-- texts that acknowledge ids are not `ready`
acks_not_ready : (format : Format) (lines more : List (List ℕ)) → All (IsAck format) lines → is_ready (lines ++ more) ≡ is_ready more
acks_not_ready format [] more are = refl
acks_not_ready format (line ∷ lines) more are =
    let form = ack_is format (reply_form line) (All-head (IsAck format) line lines are) in
    ap (λ (f : ReplyForm). is_readiness f || is_ready (lines ++ more)) form.is
    ∙ acks_not_ready format lines more (All-tail (IsAck format) line lines are)

-- ---- the contents of a reply of the manual

texts_at : (reading : Reading) (direct : Bool) (packets : List Packet) (lines : List (List ℕ)) → reading.direct ≡ direct
    → texts (first_place direct) packets ≡ lines → ack_texts reading.direct packets ≡ lines
unfolding ack_texts
texts_at reading direct packets lines is e = ap (λ (d : Bool). texts (first_place d) packets) is ∙ e

bands_at : (reading : Reading) (direct : Bool) (packets : List Packet) (payloads : List (List ℕ))
    → reading.direct ≡ direct → bands (first_place direct) packets ≡ payloads → band_payloads reading.direct packets ≡ payloads
unfolding band_payloads
bands_at reading direct packets payloads is e = ap (λ (d : Bool). bands (first_place d) packets) is ∙ e

-- the packets have texts and payloads that encode this reply
record Gives (reading : Reading) (packets : List Packet) (reply : FetchReply) : Type 0 where
  lines : List (List ℕ)
  payloads : List (List ℕ)
  are_texts : ack_texts reading.direct packets ≡ lines
  are_bands : band_payloads reading.direct packets ≡ payloads
  value : reply_by reading lines payloads ≡ reply
  pack : pack_of reply ≡ data_of payloads

-- a section of acknowledgments, and packets after it that acknowledge no ids
module _
    (reading : Reading) (body section more : List Packet) (ids lines payloads : List (List ℕ)) (ready : Bool)
    (direct : reading.direct ≡ false) (is : IsAckSection reading.limits reading.format section ids)
    (parts : body ≡ section ++ more)
    (are_texts : texts Acking (more ++ ends_with reading.ends) ≡ lines)
    (are_bands : bands Acking (more ++ ends_with reading.ends) ≡ payloads)
    (none : acks_of reading.format lines ≡ []) (is_so : is_ready lines ≡ ready)
  where
    gives_acks : pack_of (if ready then Ready ids (data_of payloads) else Acks ids) ≡ data_of payloads
        → Gives reading (body ++ ends_with reading.ends) (if ready then Ready ids (data_of payloads) else Acks ids)
    gives_acks pack =
        let tail = more ++ ends_with reading.ends in
        let acks = map text is.acks in
        let all : body ++ ends_with reading.ends ≡ section ++ tail =
        ap (λ (xs : List Packet). xs ++ ends_with reading.ends) parts ∙ append_assoc section more (ends_with reading.ends) in
        let acked : acks_of reading.format (acks ++ lines) ≡ ids =
        acks_of-append reading.format acks lines
        ∙ (ap (λ (xs : List (List ℕ)). acks_of reading.format acks ++ xs) none
        ∙ (append-nil (acks_of reading.format acks) ∙ sym is.are)) in
        let so : is_ready (acks ++ lines) ≡ ready = acks_not_ready reading.format acks lines is.are_acks ∙ is_so in
        record {
          lines = acks ++ lines;
          payloads = payloads;
          are_texts = texts_at reading false (body ++ ends_with reading.ends) (acks ++ lines) direct
              (ap (texts Start) all
              ∙ (headed_texts reading.limits reading.format section ids is tail
              ∙ ap (λ (xs : List (List ℕ)). acks ++ xs) are_texts));
          are_bands = bands_at reading false (body ++ ends_with reading.ends) payloads direct
              (ap (bands Start) all ∙ (headed_bands reading.limits reading.format section ids is tail ∙ are_bands));
          value = cond-false reading.direct _ _ direct
              ∙ (λ i. if so i then Ready (acked i) (data_of payloads) else Acks (acked i));
          pack = pack;
        }

gives_by : (reading : Reading) (body : List Packet) (reply : FetchReply) → IsBody reading body reply
    → Gives reading (body ++ ends_with reading.ends) reply
gives_by reading body (Acks ids) (direct, inl (no_ids, is)) =
    let form = word_there (text is.nak) Nak tt is.is_nak in
    let after = ap (after_text Acking) form in
    subst (λ (xs : List (List ℕ)). Gives reading (body ++ ends_with reading.ends) (Acks xs)) (sym no_ids)
    (gives_acks reading body is.section (Data is.nak ∷ Flush ∷ []) []
    (text is.nak ∷ []) [] false direct is.acks is.parts
    (ap (λ (p : Point). text is.nak ∷ texts p (Flush ∷ ends_with reading.ends)) after
    ∙ ap (λ (xs : List (List ℕ)). text is.nak ∷ xs) (over_texts reading.ends))
    (ap (λ (p : Point). bands p (Flush ∷ ends_with reading.ends)) after ∙ over_bands reading.ends)
    (acks_of-one reading.format (text is.nak) None (ap (ack_id reading.format) form))
    (ap (λ (f : ReplyForm). is_readiness f || false) form) refl)
gives_by reading body (Acks ids) (direct, inr is) =
    gives_acks reading body is.section (Flush ∷ []) ids [] [] false direct is.acks is.parts (over_texts reading.ends)
    (over_bands reading.ends) refl refl refl
gives_by reading body (Ready ids pack) (direct, is) =
    let form = word_there (text is.readiness) Readiness tt is.is_readiness in
    let after = ap (after_text Acking) form in
    let rest = Delim ∷ (is.rest ++ ends_with reading.ends) in
    subst (λ (xs : List ℕ). Gives reading (body ++ ends_with reading.ends) (Ready ids xs)) (sym is.packs.is_data)
    (gives_acks reading body is.section (Data is.readiness ∷ Delim ∷ is.rest) ids
    (text is.readiness ∷ []) is.packs.payloads true
    direct is.acks is.parts
    (ap (λ (p : Point). text is.readiness ∷ texts p rest) after
    ∙ ap (λ (xs : List (List ℕ)). text is.readiness ∷ xs) (section_texts reading.ends reading.limit is.rest pack is.packs))
    (ap (λ (p : Point). bands p rest) after ∙ section_bands reading.ends reading.limit is.rest pack is.packs)
    (acks_of-one reading.format (text is.readiness) None (ap (ack_id reading.format) form))
    (ap (λ (f : ReplyForm). is_readiness f || false) form) refl)
gives_by reading body (Pack pack) (direct, is) = record {
  lines = [];
  payloads = is.payloads;
  are_texts = texts_at reading true _ [] direct (section_texts reading.ends reading.limit body pack is);
  are_bands = bands_at reading true _ is.payloads direct (section_bands reading.ends reading.limit body pack is);
  value = cond-true reading.direct _ _ direct ∙ ap (λ (xs : List ℕ). Pack xs) (sym is.is_data);
  pack = is.is_data;
}

gives : (reading : Reading) (packets : List Packet) (reply : FetchReply) → IsFetchReply reading packets reply
    → Gives reading packets reply
gives reading packets reply is =
    subst (λ (ps : List Packet). Gives reading ps reply) (sym is.parts) (gives_by reading is.body reply is.is_body)

value_is : (reading : Reading) (packets : List Packet) (reply : FetchReply) → IsFetchReply reading packets reply
    → reply ≡ reply_of reading packets
value_is reading packets reply is =
    let given = gives reading packets reply is in
    sym given.value ∙ (λ i. reply_by reading (sym given.are_texts i) (sym given.are_bands i))

-- ---- the completeness of a reply of the manual

start_place : (reading : Reading) (direct : Bool) → reading.direct ≡ direct → (start reading).place ≡ first_place direct
start_place reading direct e = ap first_place e

whole_pack : (reading : Reading) (body : List Packet) (pack : List ℕ) → reading.direct ≡ true → IsPackSection reading.limit body pack
    → IsWholeAt reading (start reading) (body ++ ends_with reading.ends)
whole_pack reading body pack direct is =
    part_pack reading (start reading) body pack (record { place = start_place reading true direct; band_count = refl; byte_count = refl }) is

-- a section of acknowledgments is completed by packets that complete a reply after its acknowledged ids
whole_acks : (reading : Reading) (body section more : List Packet) (ids : List (List ℕ)) → reading.direct ≡ false
    → (is : IsAckSection reading.limits reading.format section ids) → body ≡ section ++ more
    → IsWholeAt reading (acked (length is.acks) (start reading)) (more ++ ends_with reading.ends)
    → IsWholeAt reading (start reading) (body ++ ends_with reading.ends)
whole_acks reading body section more ids direct is parts last =
    let few = is.few in
    let tail = more ++ ends_with reading.ends in
    subst (IsWholeAt reading (start reading))
    (sym (ap (λ (xs : List Packet). xs ++ ends_with reading.ends) parts
    ∙ (append_assoc section more (ends_with reading.ends)
    ∙ headed_parts reading.limits reading.format section ids is tail)))
    (part_ack reading (start reading) is.heading (map Data is.acks ++ tail) (start_place reading false direct) is.is_heading
    (rest_acks reading (moved (start reading) Acking) is.acks tail refl is.are_acks (omega arith) last))

whole_by : (reading : Reading) (body : List Packet) (reply : FetchReply) → IsBody reading body reply → IsWholeAt reading (start reading) (body ++ ends_with reading.ends)
whole_by reading body (Acks ids) (direct, inl (none, is)) =
    let count : length is.acks.acks ≡ 0 =
    sym (length-map is.acks.acks text) ∙ (sym (acks_count reading.format (map text is.acks.acks) is.acks.are_acks) ∙ ap length (sym is.acks.are)) in
    whole_acks reading body is.section (Data is.nak ∷ Flush ∷ []) [] direct is.acks is.parts
    (rest_nak reading _ is.nak refl (omega arith) is.is_nak)
whole_by reading body (Acks ids) (direct, inr is) =
    whole_acks reading body is.section (Flush ∷ []) ids direct is.acks is.parts
    (rest_flush reading _ Acking refl refl refl)
whole_by reading body (Ready ids pack) (direct, is) =
    whole_acks reading body is.section (Data is.readiness ∷ Delim ∷ is.rest) ids direct is.acks is.parts
    (rest_ready reading _ is.readiness _ refl is.is_readiness
    (part_pack reading (moved (acked (length is.acks.acks) (start reading)) BeforePack) is.rest pack
    (record { place = refl; band_count = refl; byte_count = refl }) is.packs))
whole_by reading body (Pack pack) (direct, is) = whole_pack reading body pack direct is

-- ---- from the manual to the judge

pub whole_at_start : (reading : Reading) (packets : List Packet) → IsWhole (judge reading) packets → IsWholeAt reading (start reading) packets
whole_at_start reading packets whole =
    WholeFrom-from_whole (judge_at reading) (next_state reading.format) (start reading) packets (subst (λ (j : Judge). IsWhole j packets) (judge_is reading) whole)

pub says_from_manual : (reading : Reading) (packets : List Packet) (reply : FetchReply) → IsFetchReply reading packets reply → Says reading packets reply
says_from_manual reading packets reply is = record {
  whole = subst (λ (j : Judge). IsWhole j packets) (sym (judge_is reading))
      (IsWhole-from_left (judge_at reading) (next_state reading.format) (start reading) packets
      (subst (IsWholeAt reading (start reading)) (sym is.parts) (whole_by reading is.body reply is.is_body)));
  says = value_is reading packets reply is;
}

-- ---- from the judge to the manual

-- the packets are some reply of the manual
record IsOfManual (reading : Reading) (packets : List Packet) : Type 0 where
  reply : FetchReply
  is : IsFetchReply reading packets reply

module _
    (reading : Reading) (packets rest : List Packet) (heading : List ℕ) (state : State) (is : IsAckRest reading state rest)
    (direct : reading.direct ≡ false) (none : state.ack_count ≡ 0) (is_heading : text heading ≡ codes "acknowledgments")
    (parts : packets ≡ Data heading ∷ rest)
  where
    section : List Packet
    section = Data heading ∷ map Data is.acks

    acks : IsAckSection reading.limits reading.format section (acks_of reading.format (map text is.acks))
    unfolding section
    acks = record {
      heading = heading;
      acks = is.acks;
      parts = refl;
      is_heading = is_heading;
      are_acks = is.are;
      few = (let few = is.few in omega arith);
      are = refl;
    }

    -- the packets of the reply are its acknowledgments, the packets `more`, and the end of the reply
    joined : (more : List Packet) → is.tail ≡ more ++ ends_with reading.ends
        → packets ≡ (section ++ more) ++ ends_with reading.ends
    unfolding section
    joined more e =
        parts
        ∙ (ap (λ (xs : List Packet). Data heading ∷ xs) (is.parts ∙ ap (λ (xs : List Packet). map Data is.acks ++ xs) e)
        ∙ sym (append_assoc section more (ends_with reading.ends)))

    manual_by : AckTail reading (state.ack_count + length is.acks) is.tail → IsOfManual reading packets
    manual_by (ended e) = record {
      reply = Acks (acks_of reading.format (map text is.acks));
      is = record {
        body = section ++ Flush ∷ [];
        is_body = (direct, inr (record { section = section; acks = acks; parts = refl }));
        parts = joined (Flush ∷ []) e;
      };
    }
    manual_by (naked nak count is_nak e) =
        let no_acks : length (map text is.acks) ≡ 0 = (let long = length-map is.acks text in omega arith) in
        let nothing : acks_of reading.format (map text is.acks) ≡ [] = ap (acks_of reading.format) (nil_from_length (map text is.acks) no_acks) in
        let same = subst (IsAckSection reading.limits reading.format section) nothing acks in
        record {
          reply = Acks [];
          is = record {
            body = section ++ Data nak ∷ Flush ∷ [];
            is_body = (
              direct,
              inl (refl, record { section = section; nak = nak; acks = same; is_nak = is_nak; parts = refl }),
            );
            parts = joined (Data nak ∷ Flush ∷ []) e;
          };
        }
    manual_by (readied readiness more is_readiness e packs) = record {
      reply = Ready (acks_of reading.format (map text is.acks)) packs.pack;
      is = record {
        body = section ++ Data readiness ∷ Delim ∷ packs.section;
        is_body = (
          direct,
          record {
            section = section;
            readiness = readiness;
            rest = packs.section;
            acks = acks;
            is_readiness = is_readiness;
            packs = packs.is;
            parts = refl;
          },
        );
        parts = joined (Data readiness ∷ Delim ∷ packs.section)
            (e ∙ ap (λ (xs : List Packet). Data readiness ∷ Delim ∷ xs) packs.parts);
      };
    }

of_manual : (reading : Reading) (packets : List Packet) (direct : Bool) → reading.direct ≡ direct → IsWholeAt reading (start reading) packets → IsOfManual reading packets
of_manual reading packets true direct h =
    let part = pack_part reading (start reading) packets (record { place = start_place reading true direct; band_count = refl; byte_count = refl }) h in
    record { reply = Pack part.pack; is = record { body = part.section; is_body = (direct, part.is); parts = part.parts } }
of_manual reading packets false direct h =
    let part = ack_part reading (start reading) packets (start_place reading false direct) (omega arith) refl refl h in
    manual_by reading packets part.rest part.heading (moved (start reading) Acking) part.are direct refl part.is_heading part.parts part.are.last

pub manual_from_says : (reading : Reading) (packets : List Packet) (reply : FetchReply) → Says reading packets reply → IsFetchReply reading packets reply
manual_from_says reading packets reply said =
    let found = of_manual reading packets reading.direct refl (whole_at_start reading packets said.whole) in
    subst (IsFetchReply reading packets) (value_is reading packets found.reply found.is ∙ sym said.says) found.is

-- ---- the uniqueness of the reply, and replies that are prefixes of replies

pub one_value : (reading : Reading) (packets : List Packet) (a b : FetchReply) → Says reading packets a → Says reading packets b → a ≡ b
one_value reading packets a b p q = p.says ∙ sym q.says

pub none_begins_another : (reading : Reading) (packets back : List Packet) → IsWhole (judge reading) packets → IsWhole (judge reading) (packets ++ back) → back ≡ []
none_begins_another reading packets back short long =
    WholeFrom-ends (judge_at reading) (next_state reading.format) (start reading) packets back
    (whole_at_start reading packets short) (whole_at_start reading (packets ++ back) long)

pub one_reply_begins : (reading : Reading) (packets back : List Packet) (reply other : FetchReply) → Says reading packets reply → Says reading (packets ++ back) other
    → (back ≡ []) × (other ≡ reply)
one_reply_begins reading packets back reply other short long =
    let ends = none_begins_another reading packets back short.whole long.whole in
    let same : packets ++ back ≡ packets = ap (λ (xs : List Packet). packets ++ xs) ends ∙ append-nil packets in
    (ends, long.says ∙ (ap (reply_of reading) same ∙ sym short.says))

-- ---- the pack of a reply

pub said_pack : (reading : Reading) (packets : List Packet) (reply : FetchReply) → Says reading packets reply
    → pack_of reply ≡ data_of (band_payloads reading.direct packets)
said_pack reading packets reply said =
    let given = gives reading packets reply (manual_from_says reading packets reply said) in
    given.pack ∙ ap data_of (sym given.are_bands)
