-- Each open list of packets can be completed and has a bounded length.
use Rattle.std.proofs.Common.{◌≡◌, ℕ, ◌<◌, Bool, true, false, List, [], ◌∷◌, ◌++◌, length, ◌==◌, Result, Ok, Err, refl, sym, ap, ◌∙◌, append_assoc, cond}
use Rattle.std.specs.Prelude.{nat_lt}
use Rattle.std.proofs.lemmas.Bool.{ltb-true, or_right, cond_both}
use Rattle.ggrammar.specs.MessageBytes.{IsForPacket, RefusesPackets}
use Rattle.gpkt.specs.Packets.{Packet, Data, Flush, Delim, ResponseEnd, text}
use Rattle.gname.specs.declared.formats.Format.{Format}
use Rattle.ggrammar.specs.Grammar.{Verdict, Open, Whole, Refused, IsOpen, IsWhole, HasEndings}
use Rattle.ggrammar.specs.Endings.{at_flush, ends_with}
use Rattle.ggrammar.specs.PeerErrors.{peer_error}
use Rattle.ggrammar.specs.Texts.{texts_of}
use Rattle.ggrammar.specs.declared.ends.Ends.{Ends}
use Rattle.ggrammar.specs.declared.ends.Ends.TheVariants.{Plain, Response}
use Rattle.ggrammar.specs.declared.fault.Why.{Why}
use Rattle.ggrammar.specs.declared.fault.Why.TheVariants.{UnexpectedFrame}
use Rattle.ggrammar.proofs.VerdictLemmas.{open_unless, room_left, room_not_whole, whole_unless, of_end, of_room, past_error}
use Rattle.glsreply.specs.RefTexts.{RefLine, line_of, FirstForm, UnbornForm, RefForm, first_form}
use Rattle.glsreply.specs.LsReplies.{max_lines, is_over, judge_line, judge_first, within_limit, judge_text, judge_at, judge, judge_body}
use Rattle.glsreply.proofs.RefTextLemmas.{FormsWell, Well, form_well, line_well, text_fault}
use Rattle.glsreply.specs.LsManual.{IsRefText}
use Rattle.glsreply.proofs.StateLemmas.{GrammarsAreExact, over_push}

-- ---- packets after which a reply continues

pub goes_within : (count : ℕ) (verdict : Verdict) → within_limit count verdict ≡ Open → (count < max_lines) × (verdict ≡ Open)
goes_within count Open h = (ltb-true _ _ (room_left (nat_lt count max_lines) h), refl)
goes_within count verdict h = cc

-- a reply continues after a data packet only if no flush came before and the text is accepted
pub data_goes : (format : Format) (ends : Ends) (over : Bool) (count : ℕ) (payload : List ℕ) → judge_at format ends over count (Data payload) ≡ Open
    → (over ≡ false) × (judge_text format count (text payload) ≡ Open)
unfolding judge_at
data_goes format ends true count payload h = absurd (let no = open_unless (peer_error payload) (Refused UnexpectedFrame) h in cc)
data_goes format ends false count payload h = (refl, open_unless (peer_error payload) (judge_text format count (text payload)) h)

-- a reply continues after a flush only if no flush came before and a response-end must follow
pub flush_goes : (format : Format) (ends : Ends) (over : Bool) (count : ℕ) → judge_at format ends over count Flush ≡ Open
    → (over ≡ false) × (ends ≡ Response)
unfolding judge_at
flush_goes format ends true count h = cc
flush_goes format Plain false count h = cc
flush_goes format Response false count h = (refl, refl)

pub delim_stops : (format : Format) (ends : Ends) (over : Bool) (count : ℕ) (verdict : Verdict) → judge_at format ends over count Delim ≡ verdict
    → verdict ≡ Refused UnexpectedFrame
unfolding judge_at
delim_stops format ends true count verdict h = sym h
delim_stops format ends false count verdict h = sym h

pub response_stops : (format : Format) (ends : Ends) (over : Bool) (count : ℕ) → judge_at format ends over count ResponseEnd ≡ Open → ⊥
unfolding judge_at
response_stops format ends true count h = cc
response_stops format ends false count h = cc

-- ---- completing an open list

pub over_ends : (format : Format) (ends : Ends) (count : ℕ) → judge_at format ends true count ResponseEnd ≡ Whole
unfolding judge_at
over_ends format ends count = refl

pub flush_is : (format : Format) (ends : Ends) (count : ℕ) → judge_at format ends false count Flush ≡ at_flush ends
unfolding judge_at
flush_is format ends count = refl

pub over_after_flush : (front : List Packet) → is_over (front ++ Flush ∷ []) ≡ true
over_after_flush front = over_push front Flush ∙ or_right (is_over front) true refl

pub ends_so : GrammarsAreExact → (format : Format) (ends : Ends) (front : List Packet) → IsOpen (judge format ends) front → is_over front ≡ false
    → IsWhole (judge format ends) (front ++ Flush ∷ ends_with ends)
ends_so laws format Plain front opened at = record {
  front = front;
  last = Flush;
  parts = refl;
  goes = opened;
  ends = ap (λ (over : Bool). judge_at format Plain over (length (texts_of front)) Flush) at ∙ flush_is format Plain (length (texts_of front));
}
ends_so laws format Response front opened at = record {
  front = front ++ Flush ∷ [];
  last = ResponseEnd;
  parts = sym (append_assoc front (Flush ∷ []) (ResponseEnd ∷ []));
  goes = (laws (judge format Response)).goes_on front Flush opened (ap (λ (over : Bool). judge_at format Response over (length (texts_of front)) Flush) at ∙ flush_is format Response (length (texts_of front)));
  ends = ap (λ (over : Bool). judge_at format Response over (length (texts_of (front ++ Flush ∷ []))) ResponseEnd) (over_after_flush front) ∙ over_ends format Response (length (texts_of (front ++ Flush ∷ [])));
}

pub has_endings : GrammarsAreExact → (format : Format) (ends : Ends) → HasEndings (judge format ends)
has_endings laws format ends front opened = by_over (is_over front) refl where
  by_over : (over : Bool) → is_over front ≡ over → (more : List Packet) × IsWhole (judge format ends) (front ++ more)
  by_over true at = (
    ResponseEnd ∷ [],
    record {
      front = front;
      last = ResponseEnd;
      parts = refl;
      goes = opened;
      ends = ap (λ (over : Bool). judge_at format ends over (length (texts_of front)) ResponseEnd) at ∙ over_ends format ends (length (texts_of front));
    },
  )
  by_over false at = (Flush ∷ ends_with ends, ends_so laws format ends front opened at)

-- ---- the last packet of a reply

not_whole_within : (count : ℕ) (verdict : Verdict) → within_limit count verdict ≡ Whole → verdict ≡ Whole
not_whole_within count Open h = absurd (room_not_whole (nat_lt count max_lines) h)
not_whole_within count Whole h = refl
not_whole_within count (Refused why) h = cc

abbrev IsPart : Verdict → Type 0
IsPart verdict = verdict ≡ Whole → ⊥

line_part : (read : Result RefLine Why) → IsPart (judge_line read)
line_part (Ok line) = λ e. cc
line_part (Err why) = λ e. cc

first_part : (format : Format) (line : List ℕ) (form : FirstForm) → IsPart (judge_first format line form)
first_part format line (UnbornForm (Ok target)) = λ e. cc
first_part format line (UnbornForm (Err why)) = λ e. cc
first_part format line RefForm = line_part (line_of format line)

pub data_part : (format : Format) (ends : Ends) (over : Bool) (count : ℕ) (payload : List ℕ) → judge_at format ends over count (Data payload) ≡ Whole → ⊥
unfolding judge_at
data_part format ends true count payload h = let no = whole_unless (peer_error payload) (Refused UnexpectedFrame) h in cc
data_part format ends false count payload h =
    let within = whole_unless (peer_error payload) (judge_text format count (text payload)) h in
    cond_both (count == 0) (judge_first format (text payload) (first_form (text payload))) (judge_line (line_of format (text payload))) IsPart
    (λ _. first_part format (text payload) (first_form (text payload))) (λ _. line_part (line_of format (text payload))) (not_whole_within count _ within)

-- ---- rejection because of the content of a packet

of_few : (count : ℕ) (verdict : Verdict) → IsForPacket verdict → IsForPacket (within_limit count verdict)
of_few count Open h = of_room (nat_lt count max_lines)
of_few count Whole h = h
of_few count (Refused why) h = h

module _ (format : Format) where
  of_read : (text : List ℕ) (read : Result RefLine Why) → Well (IsRefText format text) read
      → IsForPacket (judge_line read)
  of_read text (Ok line) h = tt
  of_read text (Err why) h = (text_fault why true h).1

  of_line : (line : List ℕ) → IsForPacket (judge_line (line_of format line))
  of_line line = of_read line (line_of format line) (line_well format line)

  of_form : (line : List ℕ) (parts : List (List ℕ)) (form : FirstForm) → FormsWell parts form
      → IsForPacket (judge_first format line form)
  of_form line parts (UnbornForm (Ok target)) h = tt
  of_form line parts (UnbornForm (Err why)) h = (text_fault why true h).1
  of_form line parts RefForm h = of_line line

  of_text : (count : ℕ) (line : List ℕ) → IsForPacket (judge_text format count line)
  of_text count line =
      let first = judge_first format line (first_form line) in
      let later = judge_line (line_of format line) in
      of_few count (cond (count == 0) first later)
      (cond_both (count == 0) first later IsForPacket (λ _. of_form line _ (first_form line) (form_well line)) (λ _. of_line line))

  of_flush : (ends : Ends) (count : ℕ) → IsForPacket (judge_body format ends count Flush)
  of_flush Plain count = tt
  of_flush Response count = tt

  of_body : (ends : Ends) (count : ℕ) (packet : Packet) → IsForPacket (judge_body format ends count packet)
  of_body ends count (Data payload) = past_error (peer_error payload) (judge_text format count (text payload)) (of_text count (text payload))
  of_body ends count Flush = of_flush ends count
  of_body ends count packet = tt

  of_packet : (ends : Ends) (over : Bool) (count : ℕ) (packet : Packet) → IsForPacket (judge_at format ends over count packet)
  unfolding judge_at
  of_packet ends true count packet = of_end packet
  of_packet ends false count packet = of_body ends count packet

  pub refuses_packets : (ends : Ends) → RefusesPackets (judge format ends)
  refuses_packets ends front packet = of_packet ends (is_over front) (length (texts_of front)) packet
