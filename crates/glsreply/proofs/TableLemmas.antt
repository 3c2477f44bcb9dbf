-- The parser accepts the texts of a list of packets that is complete for the judge.
use Rattle.std.proofs.Common.{◌≡◌, ℕ, ◌<◌, ◌≤◌, Bool, true, false, cond, List, [], ◌∷◌, ◌++◌, length, map, ◌==◌, Option}
use Rattle.std.proofs.Common.{Some, None, Result, Ok, Err, ◌⊎◌, inl, inr, refl, sym, ap, subst, ◌∙◌, append_assoc}
use Rattle.std.proofs.Common.{arith, suc, ◌+◌, ◌^◌, length-append}
use Rattle.std.specs.Prelude.{All, IfSome, MatchOption}
use Rattle.std.proofs.lemmas.Bool.{ne_eqb, false≢true}
use Rattle.std.proofs.lemmas.List.{length_push, length-map, map-append}
use Rattle.std.proofs.lemmas.List.Elements.{All-cons, All-nil, All-append, All-head, All-tail}
use Rattle.gpkt.specs.Packets.{Packet, Data, Flush, Delim, ResponseEnd, text}
use Rattle.gname.specs.declared.formats.Format.{Format}
use Rattle.ggrammar.specs.Grammar.{Open, Whole, IsOpen, IsWhole}
use Rattle.ggrammar.specs.Endings.{ends_with}
use Rattle.ggrammar.specs.Texts.{texts_of}
use Rattle.ggrammar.specs.declared.ends.Ends.{Ends}
use Rattle.ggrammar.specs.declared.ends.Ends.TheVariants.{Plain, Response}
use Rattle.ggrammar.specs.declared.fault.Why.{Why}
use Rattle.ggrammar.proofs.TextLemmas.{texts_of-data}
use Rattle.glsreply.specs.RefTexts.{RefLine, line_of, FirstForm, UnbornForm, RefForm, first_form}
use Rattle.glsreply.specs.LsReplies.{IsRead, LsReply, Says, max_lines, is_over, ref_lines, judge_line, judge_first, judge_text}
use Rattle.glsreply.specs.LsReplies.{judge_at, judge, unborn_in, unborn_of, unborn_packets, reply_of, brings}
use Rattle.glsreply.proofs.LawLemmas.{data_goes, flush_goes, delim_stops, response_stops, data_part, goes_within}
use Rattle.glsreply.proofs.LawLemmas.{over_after_flush}
use Rattle.glsreply.proofs.ManualLemmas.{SaysRef, SaysUnborn, IsReadReply, manual_says, texts_sent}
use Rattle.glsreply.proofs.StateLemmas.{GrammarsAreExact, open_induction, Left, says_reply, unborn_is_no_line, refs_in}
use Rattle.glsreply.proofs.StateLemmas.{ref_lines-one, ref_lines-cons}
use Rattle.ggrammar.specs.Kinds.{ReadsMessage}
use Rattle.ggrammar.specs.MessageReading.{HasTaken}
use Rattle.glsreply.specs.steps.ReplyState.{Holds, state_in}
use Rattle.glsreply.specs.declared.reader.LsReplyReader.{LsReplyReader}
use Rattle.gpkt.specs.Change.{Change}
use Rattle.gname.specs.Laws.{TextsHaveOneReading}
use Rattle.gname.specs.Names.{IsRefName}
use Rattle.glsreply.specs.WellFormed.{IsRefLine, IsLsReplyIn, last_frame}
use Rattle.glsreply.proofs.RefTextLemmas.{FormsWell, form_well, line_formed, TextLaws, ref_text_says, says_ref_text}
use Rattle.glsreply.proofs.RefTextLemmas.{unborn_says, says_unborn_text}
use Rattle.glsreply.specs.LsManual.{AreRefTexts, IsUnbornFirst, IsLsReply}

-- ---- the payloads before the flush

-- the payloads are the line of an unborn HEAD, if there is one, and then lines of refs
record IsSent (format : Format) (payloads : List (List ℕ)) : Type 0 where
  pub unborn : Option (List ℕ)
  pub first : List (List ℕ)
  pub refs : List (List ℕ)
  pub parts : payloads ≡ first ++ refs
  pub is_first : SaysUnborn unborn first
  pub are_refs : All (SaysRef format) (map text refs)
  pub few : length payloads ≤ max_lines

sent_none : (format : Format) → IsSent format []
sent_none format =
    record { unborn = None; first = []; refs = []; parts = refl; is_first = refl; are_refs = All-nil (SaysRef format); few = omega arith }

-- payloads of an unborn HEAD and refs, extended by the line of one more ref
sent_ref : (format : Format) (payloads : List (List ℕ)) (payload : List ℕ) → IsSent format payloads → SaysRef format (text payload)
    → length payloads < max_lines → IsSent format (payloads ++ payload ∷ [])
sent_ref format payloads payload sent ref room = record {
  unborn = sent.unborn;
  first = sent.first;
  refs = sent.refs ++ payload ∷ [];
  parts = ap (λ (all : List (List ℕ)). all ++ payload ∷ []) sent.parts ∙ append_assoc sent.first sent.refs (payload ∷ []);
  is_first = sent.is_first;
  are_refs = subst (All (SaysRef format)) (sym (map-append text sent.refs (payload ∷ [])))
      (All-append (SaysRef format) (map text sent.refs) (text payload ∷ []) sent.are_refs (All-cons (SaysRef format) (text payload) [] ref (All-nil (SaysRef format))));
  few = omega (arith, length_push payloads payload, room);
}

line_goes : (format : Format) (line : List ℕ) (read : Result RefLine Why) → line_of format line ≡ read → judge_line read ≡ Open → SaysRef format line
line_goes format line (Ok ref) e h = (ref, e)
line_goes format line (Err why) e h = cc

first_goes : (format : Format) (payload : List ℕ) (form : FirstForm) → first_form (text payload) ≡ form → judge_first format (text payload) form ≡ Open
    → IsSent format (payload ∷ [])
first_goes format payload (UnbornForm (Ok target)) e h = record {
  unborn = Some target;
  first = payload ∷ [];
  refs = [];
  parts = refl;
  is_first = (payload, refl, e);
  are_refs = All-nil (SaysRef format);
  few = omega arith;
}
first_goes format payload (UnbornForm (Err why)) e h = cc
first_goes format payload RefForm e h =
    sent_ref format [] payload (sent_none format) (line_goes format (text payload) (line_of format (text payload)) refl h) (omega arith)

text_goes : (format : Format) (payloads : List (List ℕ)) (payload : List ℕ) → IsSent format payloads → judge_text format (length payloads) (text payload) ≡ Open
    → IsSent format (payloads ++ payload ∷ [])
text_goes format [] payload sent h = first_goes format payload (first_form (text payload)) refl (goes_within 0 (judge_first format (text payload) (first_form (text payload))) h).1
text_goes format (one ∷ payloads) payload sent h =
    let within = goes_within (length (one ∷ payloads)) (cond (length (one ∷ payloads) == 0) (judge_first format (text payload) (first_form (text payload))) (judge_line (line_of format (text payload)))) h in
    let later : (length (one ∷ payloads) == 0) ≡ false = ne_eqb (length (one ∷ payloads)) 0 (λ e. omega (arith, e)) in
    let judged : judge_line (line_of format (text payload)) ≡ Open =
    subst (λ (b : Bool). cond b (judge_first format (text payload) (first_form (text payload))) (judge_line (line_of format (text payload))) ≡ Open) later within.1 in
    sent_ref format (one ∷ payloads) payload sent (line_goes format (text payload) (line_of format (text payload)) refl judged) within.0

-- ---- open lists

-- the packets are accepted payloads, and perhaps a flush after which a response-end must follow
record IsFront (format : Format) (ends : Ends) (front : List Packet) : Type 0 where
  pub payloads : List (List ℕ)
  pub sent : IsSent format payloads
  pub shape : (front ≡ map Data payloads) ⊎ ((front ≡ map Data payloads ++ Flush ∷ []) × (ends ≡ Response))

data_before : (payloads : List (List ℕ)) → is_over (map Data payloads) ≡ false
data_before [] = refl
data_before (payload ∷ payloads) = data_before payloads

data_count : (payloads : List (List ℕ)) → length (texts_of (map Data payloads)) ≡ length payloads
data_count payloads = ap (λ (texts : List (List ℕ)). length texts) (texts_of-data payloads) ∙ length-map payloads text

module _ (format : Format) (ends : Ends) (front : List Packet) (so : IsFront format ends front) where
  -- the form of the packets before the flush, and after it
  before : is_over front ≡ false → front ≡ map Data so.payloads
  before at = elim so.shape [
    | inl e ↦ e
    | inr e ↦ absurd (false≢true (sym at ∙ (ap is_over e.0 ∙ over_after_flush (map Data so.payloads))))
  ]

  after : is_over front ≡ true → (front ≡ map Data so.payloads ++ Flush ∷ []) × (ends ≡ Response)
  after at = elim so.shape [
    | inl e ↦ absurd (false≢true (sym (ap is_over e ∙ data_before so.payloads) ∙ at))
    | inr e ↦ e
  ]

front_push : (format : Format) (ends : Ends) (front : List Packet) (packet : Packet) → judge format ends front packet ≡ Open → IsFront format ends front
    → IsFront format ends (front ++ packet ∷ [])
front_push format ends front (Data payload) goes so =
    let h = data_goes format ends (is_over front) (length (texts_of front)) payload goes in
    let e = before format ends front so h.0 in
    let count : length (texts_of front) ≡ length so.payloads = ap (λ (packets : List Packet). length (texts_of packets)) e ∙ data_count so.payloads in
    record {
      payloads = so.payloads ++ payload ∷ [];
      sent = text_goes format so.payloads payload so.sent (subst (λ (n : ℕ). judge_text format n (text payload) ≡ Open) count h.1);
      shape = inl (ap (λ (packets : List Packet). packets ++ Data payload ∷ []) e ∙ sym (map-append Data so.payloads (payload ∷ [])));
    }
front_push format ends front Flush goes so =
    let h = flush_goes format ends (is_over front) (length (texts_of front)) goes in
    record {
      payloads = so.payloads;
      sent = so.sent;
      shape = inr (ap (λ (packets : List Packet). packets ++ Flush ∷ []) (before format ends front so h.0), h.1);
    }
front_push format ends front Delim goes so =
    absurd (let no = delim_stops format ends (is_over front) (length (texts_of front)) Open goes in cc)
front_push format ends front ResponseEnd goes so =
    absurd (response_stops format ends (is_over front) (length (texts_of front)) goes)

open_is_front : (format : Format) (ends : Ends) (front : List Packet) → IsOpen (judge format ends) front → IsFront format ends front
open_is_front format ends =
    open_induction (judge format ends) (IsFront format ends) (record { payloads = []; sent = sent_none format; shape = inl refl }) (front_push format ends)

pub is_bounded : (format : Format) (ends : Ends) (front : List Packet) → IsOpen (judge format ends) front → length front < 2 ^ 60
is_bounded format ends front opened =
    let so = open_is_front format ends front opened in
    let few = so.sent.few in
    elim so.shape [
      | inl e ↦ omega (arith, ap length e, length-map so.payloads Data)
      | inr e ↦ omega (
        arith,
        ap length e.0,
        length-append (map Data so.payloads)
            (Flush ∷ []),
        length-map so.payloads Data,
      )
    ]

-- ---- complete lists

flush_ends : (format : Format) (ends : Ends) (over : Bool) (count : ℕ) → judge_at format ends over count Flush ≡ Whole → (over ≡ false) × (ends ≡ Plain)
unfolding judge_at
flush_ends format ends true count h = cc
flush_ends format Plain false count h = (refl, refl)
flush_ends format Response false count h = cc

response_ends : (format : Format) (ends : Ends) (over : Bool) (count : ℕ) → judge_at format ends over count ResponseEnd ≡ Whole → over ≡ true
unfolding judge_at
response_ends format ends true count h = refl
response_ends format ends false count h = cc

abbrev IsSentWhole : Format → Ends → List Packet → Type 0
IsSentWhole format ends packets =
    (payloads : List (List ℕ)) × (packets ≡ map Data payloads ++ Flush ∷ ends_with ends) × IsSent format payloads

last_is : (format : Format) (ends : Ends) (front : List Packet) (last : Packet) → IsFront format ends front → judge format ends front last ≡ Whole
    → IsSentWhole format ends (front ++ last ∷ [])
last_is format ends front (Data payload) so h = absurd (data_part format ends (is_over front) (length (texts_of front)) payload h)
last_is format ends front Flush so h =
    let flushed = flush_ends format ends (is_over front) (length (texts_of front)) h in (
      so.payloads,
      ap (λ (packets : List Packet). packets ++ Flush ∷ []) (before format ends front so flushed.0)
          ∙ ap (λ (how : Ends). map Data so.payloads ++ Flush ∷ ends_with how) (sym flushed.1),
      so.sent,
    )
last_is format ends front Delim so h = absurd (let no = delim_stops format ends (is_over front) (length (texts_of front)) Whole h in cc)
last_is format ends front ResponseEnd so h =
    let e = after format ends front so (response_ends format ends (is_over front) (length (texts_of front)) h) in (
      so.payloads,
      ap (λ (packets : List Packet). packets ++ ResponseEnd ∷ []) e.0
          ∙ (append_assoc (map Data so.payloads) (Flush ∷ []) (ResponseEnd ∷ []) ∙ ap (λ (how : Ends). map Data so.payloads ++ Flush ∷ ends_with how) (sym e.1)),
      so.sent,
    )

whole_is_sent : (format : Format) (ends : Ends) (packets : List Packet) → IsWhole (judge format ends) packets → IsSentWhole format ends packets
whole_is_sent format ends packets whole =
    subst (IsSentWhole format ends) (sym whole.parts) (last_is format ends whole.front whole.last (open_is_front format ends whole.front whole.goes) whole.ends)

-- the packets that encode a reply according to the judge are this reply according to the parser
pub says_manual : GrammarsAreExact → (format : Format) (ends : Ends) (packets : List Packet) (reply : LsReply) → Says format ends packets reply → IsReadReply format ends packets reply
says_manual laws format ends packets reply says =
    let whole = whole_is_sent format ends packets says.whole in
    let sent = whole.2 in
    let said : LsReply = record { unborn = sent.unborn; lines = ref_lines format (map text sent.refs) } in
    let manual : IsReadReply format ends packets said = record {
      first = sent.first;
      refs = sent.refs;
      parts = whole.1 ∙ ap (λ (payloads : List (List ℕ)). map Data payloads ++ Flush ∷ ends_with ends) sent.parts;
      is_first = sent.is_first;
      are_refs = sent.are_refs;
      few = subst (λ (payloads : List (List ℕ)). length payloads ≤ max_lines) sent.parts sent.few;
      lines = refl;
    } in
    subst (IsReadReply format ends packets) ((manual_says laws format ends packets said manual).says ∙ sym says.says) manual

-- ---- well-formedness of a reply that was read

one_ref : (format : Format) (line : List ℕ) → length (ref_lines format (line ∷ [])) ≤ 1
one_ref format line = rw (ref_lines-one format line) (at_most_one (line_of format line)) where
  at_most_one : (read : Result RefLine Why) → length (refs_in read) ≤ 1
  at_most_one (Ok ref) = omega arith
  at_most_one (Err why) = omega arith

module _ (law : TextsHaveOneReading) (format : Format) where
  one_formed : (texts : List (List ℕ)) (line : List ℕ) (read : Result RefLine Why) → line_of format line ≡ read → All (IsRefLine format) (ref_lines format texts)
      → All (IsRefLine format) (refs_in read ++ ref_lines format texts)
  one_formed texts line (Ok ref) e more = All-cons (IsRefLine format) ref _ (line_formed format law line ref e) more
  one_formed texts line (Err why) e more = more

  lines_formed : (texts : List (List ℕ)) → All (IsRefLine format) (ref_lines format texts)
  lines_formed [] = All-nil (IsRefLine format)
  lines_formed (line ∷ texts) =
      subst (All (IsRefLine format)) (sym (ref_lines-cons format line texts)) (subst (λ (refs : List RefLine). All (IsRefLine format) (refs ++ ref_lines format texts)) (sym (ref_lines-one format line)) (one_formed texts line (line_of format line) refl (lines_formed texts)))

  target_formed : (parts : List (List ℕ)) (form : FirstForm) → FormsWell parts form → IfSome (unborn_in form) IsRefName
  target_formed parts (UnbornForm (Ok target)) h = h.1
  target_formed parts (UnbornForm (Err why)) h = tt
  target_formed parts RefForm h = tt

  unborn_formed : (texts : List (List ℕ)) → IfSome (unborn_of texts) IsRefName
  unborn_formed [] = tt
  unborn_formed (first ∷ texts) = target_formed _ (first_form first) (form_well first)

  few_refs : (texts : List (List ℕ)) → length (ref_lines format texts) ≤ length texts
  few_refs [] = omega arith
  few_refs (line ∷ texts) =
      let more = few_refs texts in
      let both = ap (λ (refs : List RefLine). length refs) (ref_lines-cons format line texts) ∙ length-append (ref_lines format (line ∷ [])) (ref_lines format texts) in
      omega (arith, more, both, one_ref format line)

  few_lines : (texts : List (List ℕ)) → length (unborn_packets (unborn_of texts)) + length (ref_lines format texts) ≤ length texts
  few_lines [] = omega arith
  few_lines (first ∷ texts) = by_form (first_form first) refl where
    by_form : (form : FirstForm) → first_form first ≡ form
        → length (unborn_packets (unborn_in form)) + length (ref_lines format (first ∷ texts)) ≤ suc (length texts)
    by_form (UnbornForm (Ok target)) e =
        let none : ref_lines format (first ∷ texts) ≡ ref_lines format texts =
        ref_lines-cons format first texts ∙ ap (λ (refs : List RefLine). refs ++ ref_lines format texts) (ref_lines-one format first ∙ ap refs_in (unborn_is_no_line format first (Ok target) e)) in
        rw none (omega (arith, few_refs texts))
    by_form (UnbornForm (Err why)) e = omega (arith, few_refs (first ∷ texts))
    by_form RefForm e = omega (arith, few_refs (first ∷ texts))

  -- a complete list of packets encodes a reply that can be written
  pub reply_formed : (ends : Ends) (packets : List Packet) → IsWhole (judge format ends) packets → IsLsReplyIn format (reply_of format packets)
  reply_formed ends packets whole =
      let sent = whole_is_sent format ends packets whole in
      let long : length (texts_of packets) ≡ length sent.0 =
      ap (λ (ps : List Packet). length (texts_of ps)) sent.1
      ∙ (ap (λ (texts : List (List ℕ)). length texts) (texts_sent ends sent.0) ∙ length-map sent.0 text) in
      record {
        unborn = unborn_formed (texts_of packets);
        lines = lines_formed (texts_of packets);
        few = omega (arith, few_lines (texts_of packets), long, sent.2.few);
      }

-- ---- the result of a reader after a complete reply

module _ {A : Type 0} (format : Format) (ends : Ends) (start reader : LsReplyReader A) (bytes : Change) (same : start.format ≡ format) (also : start.ends ≡ ends) where
  abbrev Taken : Format → Ends → Type 0
  Taken f e = HasTaken (judge f e) brings Holds Left bytes reader

  taken_so : Taken start.format start.ends → Taken format ends
  taken_so h = subst (λ (e : Ends). Taken format e) also (subst (λ (f : Format). Taken f start.ends) same h)

  pub read_is : HasTaken (judge start.format start.ends) brings Holds Left bytes reader → ReadsMessage (judge format ends) (Says format ends) bytes (state_in reader).reply
  read_is h =
      let taken = taken_so h in
      record {
        lines = taken.lines;
        read = taken.read;
        says = record { whole = taken.read.whole; says = says_reply format ends reader taken.lines taken.read.whole taken.held };
      }

  pub formed_is : TextsHaveOneReading → HasTaken (judge start.format start.ends) brings Holds Left bytes reader → IsLsReplyIn format (state_in reader).reply
  formed_is law h =
      let taken = taken_so h in
      subst (IsLsReplyIn format) (sym (says_reply format ends reader taken.lines taken.read.whole taken.held))
      (reply_formed law format ends taken.lines taken.read.whole)

-- a reader that accepted a complete list of packets returns its reply
pub is_read : {A : Type 0} → TextsHaveOneReading → (format : Format) (ends : Ends) (reader : LsReplyReader A) (packets : List Packet) (result : Option LsReply)
    → IsWhole (judge format ends) packets → Holds reader packets
    → MatchOption result (¬ (IsLsReplyIn format (state_in reader).reply)) (λ reply. (reply ≡ (state_in reader).reply) × IsLsReplyIn format reply)
    → IsRead format ends packets result
is_read law format ends reader packets (Some reply) whole held h = record { whole = whole; says = h.0 ∙ says_reply format ends reader packets whole held }
is_read law format ends reader packets None whole held h =
    absurd (h (subst (IsLsReplyIn format) (sym (says_reply format ends reader packets whole held)) (reply_formed law format ends packets whole)))

pub is_formed : {A : Type 0} (format : Format) (reader : LsReplyReader A) (result : Option LsReply)
    → MatchOption result (¬ (IsLsReplyIn format (state_in reader).reply)) (λ reply. (reply ≡ (state_in reader).reply) × IsLsReplyIn format reply)
    → IfSome result (IsLsReplyIn format)
is_formed format reader (Some reply) h = h.1
is_formed format reader None h = tt

-- ---- the replies of the manual, and the replies whose texts the parser accepts

one_more : (format : Format) (line : List ℕ) (texts : List (List ℕ)) (ref : RefLine) → line_of format line ≡ Ok ref
    → ref_lines format (line ∷ texts) ≡ ref ∷ ref_lines format texts
one_more format line texts ref e =
    ref_lines-cons format line texts ∙ ap (λ (refs : List RefLine). refs ++ ref_lines format texts) (ref_lines-one format line ∙ ap refs_in e)

module _ (laws : TextLaws) (format : Format) where
  -- ---- from the manual to the parser

  refs_read : (texts : List (List ℕ)) (refs : List RefLine) → AreRefTexts format texts refs → All (SaysRef format) texts × (refs ≡ ref_lines format texts)
  refs_read [] [] h = (All-nil (SaysRef format), refl)
  refs_read (line ∷ texts) (ref ∷ refs) h =
      let read = ref_text_says laws format line ref h.0 in
      let more = refs_read texts refs h.1 in (
        All-cons (SaysRef format) line texts (ref, read) more.0,
        ap (λ (lines : List RefLine). ref ∷ lines) more.1 ∙ sym (one_more format line texts ref read),
      )
  refs_read texts refs h = absurd h

  unborn_read : (unborn : Option (List ℕ)) (first : List (List ℕ)) → IsUnbornFirst unborn first → SaysUnborn unborn first
  unborn_read None first h = h
  unborn_read (Some target) first h = (h.0, h.1, ap first_form h.2 ∙ unborn_says laws.names target h.3)

  reply_read : (ends : Ends) (packets : List Packet) (reply : LsReply) → IsLsReply format ends packets reply → IsReadReply format ends packets reply
  reply_read ends packets reply h =
      let refs = refs_read (map text h.refs) reply.lines h.are_refs in
      record {
        first = h.first;
        refs = h.refs;
        parts = h.parts;
        is_first = unborn_read reply.unborn h.first h.is_first;
        are_refs = refs.0;
        few = h.few;
        lines = refs.1;
      }

  -- ---- from the parser to the manual

  refs_are : (texts : List (List ℕ)) → All (SaysRef format) texts → AreRefTexts format texts (ref_lines format texts)
  refs_are [] all = tt
  refs_are (line ∷ texts) all =
      let ref = All-head (SaysRef format) line texts all in
      subst (AreRefTexts format (line ∷ texts)) (sym (one_more format line texts ref.0 ref.1))
      (says_ref_text format line ref.0 ref.1, refs_are texts (All-tail (SaysRef format) line texts all))

  unborn_is : (unborn : Option (List ℕ)) (first : List (List ℕ)) → SaysUnborn unborn first → IsUnbornFirst unborn first
  unborn_is None first h = h
  unborn_is (Some target) first h =
      let said = says_unborn_text (text h.0) target h.2 in (h.0, h.1, said.0, said.1)

  reply_is : (ends : Ends) (packets : List Packet) (reply : LsReply) → IsReadReply format ends packets reply → IsLsReply format ends packets reply
  reply_is ends packets reply h = record {
    first = h.first;
    refs = h.refs;
    parts = h.parts;
    is_first = unborn_is reply.unborn h.first h.is_first;
    are_refs = subst (AreRefTexts format (map text h.refs)) (sym h.lines) (refs_are (map text h.refs) h.are_refs);
    few = h.few;
  }

  pub words_say : GrammarsAreExact → (ends : Ends) (packets : List Packet) (reply : LsReply) → IsLsReply format ends packets reply → Says format ends packets reply
  words_say grammars ends packets reply h = manual_says grammars format ends packets reply (reply_read ends packets reply h)

  pub say_words : GrammarsAreExact → (ends : Ends) (packets : List Packet) (reply : LsReply) → Says format ends packets reply → IsLsReply format ends packets reply
  say_words grammars ends packets reply h = reply_is ends packets reply (says_manual grammars format ends packets reply h)

-- ---- the number of packets of a reply

count_refs : (format : Format) (texts : List (List ℕ)) (refs : List RefLine) → AreRefTexts format texts refs → length texts ≡ length refs
count_refs format [] [] h = refl
count_refs format (line ∷ texts) (ref ∷ refs) h = ap suc (count_refs format texts refs h.1)
count_refs format texts refs h = absurd h

count_first : (unborn : Option (List ℕ)) (first : List (List ℕ)) → IsUnbornFirst unborn first → length first ≡ length (unborn_packets unborn)
count_first None first h = ap length h
count_first (Some target) first h = ap length h.1

pub count_packets : (format : Format) (ends : Ends) (packets : List Packet) (reply : LsReply) → IsLsReply format ends packets reply → length packets ≡ last_frame ends reply + 1
count_packets format ends packets reply h =
    let refs = sym (length-map h.refs text) ∙ count_refs format (map text h.refs) reply.lines h.are_refs in
    omega (
      arith,
      ap length h.parts,
      length-append (map Data (h.first ++ h.refs)) (Flush ∷ ends_with ends),
      length-map (h.first ++ h.refs) Data,
      length-append h.first h.refs,
      count_first reply.unborn h.first h.is_first,
      refs,
    )
