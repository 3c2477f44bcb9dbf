-- The change of a reader's state by an accepted packet.
use Rattle.std.proofs.Common.{◌≡◌, ℕ, Bool, true, false, cond, ◌||◌, List, [], ◌∷◌, ◌++◌, length, ◌==◌, codes, Option, Some, None, Result, Ok, Err, inl, inr, refl, sym, ap, ap₂, subst, ◌∙◌, append-nil, arith, append_assoc}
use Rattle.std.specs.Prelude.{All}
use Rattle.std.specs.List.{filter_map}
use Rattle.std.specs.Str.{bytes_eq}
use Rattle.std.proofs.lemmas.Bool.{ne_eqb, or_right, cond_both}
use Rattle.std.proofs.lemmas.List.{length_push}
use Rattle.std.proofs.lemmas.List.Elements.{filter_map-append, All-append, All-cons, All-nil, All-head, All-tail}
use Rattle.std.proofs.lemmas.List.Folds.{list_any-append}
use Rattle.std.proofs.lemmas.Slice.Eq.{bytes_eq-Decides}
use Rattle.std.proofs.Math.Bool.{or-false}
use Rattle.gpkt.specs.Packets.{Packet, Data, Flush, text}
use Rattle.gname.specs.Formats.{id_text_length}
use Rattle.gname.specs.declared.formats.Format.{Format}
use Rattle.gname.specs.declared.formats.Format.TheVariants.{Sha1, Sha256}
use Rattle.ggrammar.specs.Grammar.{Verdict, Open, Refused, IsWhole, Judge, IsOpen, LawsOf}
use Rattle.ggrammar.specs.Ids.{id_of_text}
use Rattle.ggrammar.specs.MessageReading.{IsAccepted, IsReason, TakesAs, TakesPacket}
use Rattle.ggrammar.specs.PeerErrors.{peer_error}
use Rattle.ggrammar.specs.Texts.{text_in, texts_of}
use Rattle.ggrammar.specs.declared.ends.Ends.{Ends}
use Rattle.ggrammar.specs.declared.fault.Why.{Why}
use Rattle.ggrammar.specs.declared.fault.Why.TheVariants.{BadId, UnexpectedFrame}
use Rattle.ggrammar.specs.declared.message.Step.{Step}
use Rattle.ggrammar.specs.declared.message.Step.TheVariants as step
use Rattle.ggrammar.proofs.IdLemmas.{spelt_by}
use Rattle.ggrammar.proofs.VerdictLemmas.{accepted_unless}
use Rattle.glsreply.specs.RefTexts.{RefLine, parts_of, line_of, line_of_parts, line_with_id, FirstForm, UnbornForm, RefForm, first_form, first_of_parts, unborn_of_parts}
use Rattle.glsreply.specs.LsReplies.{is_flush, is_over, unborn_in, unborn_of, line_in, ref_lines, reply_of, judge_line, judge_first, within_limit, judge_text, judge_at, judge, brings}
use Rattle.glsreply.specs.steps.ReplyState.{State, Holds, IsLineText, AreLineTexts, KeepsKind, state_of, state_in}
use Rattle.glsreply.specs.steps.ReplyState.{with_line, with_first, with_text, with_packet}
use Rattle.glsreply.specs.declared.reader.LsReplyReader.{LsReplyReader}

-- ---- open lists

-- the law of every grammar
abbrev pub GrammarsAreExact : Type 0
GrammarsAreExact = (judge : Judge) → LawsOf judge

-- induction: `P` is true for each open list if it is true for the empty list and stays true after one more packet
module _ (judge : Judge) (P : List Packet → Type 0) where
  steps : ((front : List Packet) (packet : Packet) → judge front packet ≡ Open → P front → P (front ++ packet ∷ []))
      → (front back : List Packet) → IsOpen judge (front ++ back) → P front → P (front ++ back)
  steps step front [] opened holds = subst P (sym (append-nil front)) holds
  steps step front (packet ∷ back) opened holds =
      let same : (front ++ packet ∷ []) ++ back ≡ front ++ packet ∷ back = append_assoc front (packet ∷ []) back in
      subst P same (steps step (front ++ packet ∷ []) back (subst (IsOpen judge) (sym same) opened) (step front packet (opened.each front packet back refl) holds))

  pub open_induction : P [] → ((front : List Packet) (packet : Packet) → judge front packet ≡ Open → P front → P (front ++ packet ∷ []))
      → (front : List Packet) → IsOpen judge front → P front
  open_induction none step front opened = steps step [] front opened none

-- ---- verdicts

accepted_within : (count : ℕ) (verdict : Verdict) → IsAccepted (within_limit count verdict) → IsAccepted verdict
accepted_within count Open h = tt
accepted_within count verdict h = h

accepted_text : (format : Format) (ends : Ends) (over : Bool) (count : ℕ) (payload : List ℕ)
    → IsAccepted (judge_at format ends over count (Data payload)) → IsAccepted (judge_text format count (text payload))
unfolding judge_at
accepted_text format ends true count payload h = absurd (accepted_unless (peer_error payload) (Refused UnexpectedFrame) h)
accepted_text format ends false count payload h = accepted_unless (peer_error payload) (judge_text format count (text payload)) h

-- ---- the line of an unborn HEAD, which is not the line of a ref

unborn_is_no_id : (format : Format) (parts : List (List ℕ)) → line_with_id format (id_of_text format (codes "unborn")) parts ≡ Err BadId
unfolding id_of_text
unborn_is_no_id Sha1 parts = refl
unborn_is_no_id Sha256 parts = refl

no_line : (format : Format) (parts : List (List ℕ)) (target : Result (List ℕ) Why) → first_of_parts parts ≡ UnbornForm target
    → line_of_parts format parts ≡ Err BadId
no_line format [] target e = absurd cc
no_line format (first ∷ parts) target e = named (bytes_eq first (codes "unborn")) refl e where
  named : (b : Bool) → bytes_eq first (codes "unborn") ≡ b → cond b (UnbornForm (unborn_of_parts parts)) RefForm ≡ UnbornForm target
      → line_with_id format (id_of_text format first) parts ≡ Err BadId
  named true same h =
      ap (λ (id : List ℕ). line_with_id format (id_of_text format id) parts) ((bytes_eq-Decides first (codes "unborn")).0 same) ∙ unborn_is_no_id format parts
  named false same h = absurd (let no : RefForm ≡ UnbornForm target = h in cc)

pub unborn_is_no_line : (format : Format) (line : List ℕ) (target : Result (List ℕ) Why) → first_form line ≡ UnbornForm target
    → line_of format line ≡ Err BadId
unfolding first_form line_of
unborn_is_no_line format line target e = no_line format (parts_of line) target e

-- ---- one more text

same_state : {over : Bool} {count count' : ℕ} {unborn unborn' : Option (List ℕ)} {lines lines' : List RefLine}
    → count ≡ count' → unborn ≡ unborn' → lines ≡ lines'
    → ◌≡◌ {A = State} (record { over = over; count = count; reply = record { unborn = unborn; lines = lines } }) (record { over = over; count = count'; reply = record { unborn = unborn'; lines = lines' } })
same_state e f g = cc

abbrev state_at : Format → Bool → List (List ℕ) → State
state_at format over texts =
    record { over = over; count = length texts; reply = record { unborn = unborn_of texts; lines = ref_lines format texts } }

module _ (format : Format) (over : Bool) where
  line_adds : (texts : List (List ℕ)) (line : List ℕ) (read : Result RefLine Why) → line_of format line ≡ read → IsAccepted (judge_line read)
      → unborn_of (texts ++ line ∷ []) ≡ unborn_of texts → state_at format over (texts ++ line ∷ []) ≡ with_line (state_at format over texts) read
  line_adds texts line (Ok ref) e h same =
      same_state (length_push texts line) same
      (filter_map-append (λ text. line_in (line_of format text)) texts (line ∷ []) ∙ ap (λ (more : List RefLine). ref_lines format texts ++ more) (ap (λ (read : Result RefLine Why). filter_map (λ (r : Result RefLine Why). line_in r) (read ∷ [])) e))
  line_adds texts line (Err why) e h same = absurd h

  first_adds : (line : List ℕ) (form : FirstForm) → first_form line ≡ form → IsAccepted (judge_first format line form)
      → state_at format over (line ∷ []) ≡ with_first format (state_at format over []) line form
  first_adds line (UnbornForm (Ok target)) e h =
      same_state refl (ap unborn_in e)
      (ap (λ (read : Result RefLine Why). filter_map (λ (r : Result RefLine Why). line_in r) (read ∷ [])) (unborn_is_no_line format line (Ok target) e))
  first_adds line (UnbornForm (Err why)) e h = absurd h
  first_adds line RefForm e h = line_adds [] line (line_of format line) refl h (ap unborn_in e)

  text_adds : (texts : List (List ℕ)) (line : List ℕ) → IsAccepted (judge_text format (length texts) line)
      → state_at format over (texts ++ line ∷ []) ≡ with_text format (state_at format over texts) line
  text_adds [] line h = first_adds line (first_form line) refl (accepted_within 0 (judge_first format line (first_form line)) h)
  text_adds (first ∷ texts) line h =
      let later : (length (first ∷ texts) == 0) ≡ false = ne_eqb (length (first ∷ texts)) 0 (λ e. omega (arith, e)) in
      let judged : IsAccepted (within_limit (length (first ∷ texts)) (judge_line (line_of format line))) =
      subst (λ (b : Bool). IsAccepted (within_limit (length (first ∷ texts)) (cond b (judge_first format line (first_form line)) (judge_line (line_of format line))))) later h in
      line_adds (first ∷ texts) line (line_of format line) refl (accepted_within (length (first ∷ texts)) (judge_line (line_of format line)) judged) refl
      ∙ sym (ap (λ (b : Bool). cond b (with_first format (state_at format over (first ∷ texts)) line (first_form line)) (with_line (state_at format over (first ∷ texts)) (line_of format line))) later)

-- ---- one more packet

pub texts_push : (front : List Packet) (packet : Packet) → texts_of (front ++ packet ∷ []) ≡ texts_of front ++ texts_of (packet ∷ [])
texts_push front packet = filter_map-append text_in front (packet ∷ [])

pub over_push : (front : List Packet) (packet : Packet) → is_over (front ++ packet ∷ []) ≡ (is_over front || is_over (packet ∷ []))
over_push front packet = list_any-append is_flush front (packet ∷ [])

push_is : (format : Format) (front : List Packet) (packet : Packet)
    → state_of format (front ++ packet ∷ []) ≡ state_at format (is_over front || is_over (packet ∷ [])) (texts_of front ++ texts_of (packet ∷ []))
push_is format front packet =
    ap (λ (texts : List (List ℕ)). state_at format (is_over (front ++ packet ∷ [])) texts) (texts_push front packet)
    ∙ ap (λ (over : Bool). state_at format over (texts_of front ++ texts_of (packet ∷ []))) (over_push front packet)

adds_nothing : (format : Format) (front : List Packet) (over same : Bool) → over ≡ same
    → state_at format over (texts_of front ++ []) ≡ state_at format same (texts_of front)
adds_nothing format front over same e =
    ap (λ (texts : List (List ℕ)). state_at format over texts) (append-nil (texts_of front)) ∙ ap (λ (b : Bool). state_at format b (texts_of front)) e

pub state_push : (format : Format) (ends : Ends) (front : List Packet) (packet : Packet) → IsAccepted (judge format ends front packet)
    → state_of format (front ++ packet ∷ []) ≡ with_packet format (state_of format front) packet
state_push format ends front (Data payload) h =
    push_is format front (Data payload)
    ∙ (ap (λ (b : Bool). state_at format b (texts_of front ++ text payload ∷ [])) (or-false (is_over front))
    ∙ text_adds format (is_over front) (texts_of front) (text payload) (accepted_text format ends (is_over front) (length (texts_of front)) payload h))
state_push format ends front Flush h = push_is format front Flush ∙ adds_nothing format front _ true (or_right (is_over front) true refl)
state_push format ends front packet h = push_is format front packet ∙ adds_nothing format front _ (is_over front) (or-false (is_over front))

-- ---- texts that are accepted

line_accepted : (format : Format) (line : List ℕ) (read : Result RefLine Why) → line_of format line ≡ read → IsAccepted (judge_line read) → IsLineText format line
line_accepted format line (Ok ref) e h = inr (ref, e)
line_accepted format line (Err why) e h = absurd h

form_accepted : (format : Format) (line : List ℕ) (form : FirstForm) → first_form line ≡ form → IsAccepted (judge_first format line form) → IsLineText format line
form_accepted format line (UnbornForm target) e h = inl (target, e)
form_accepted format line RefForm e h = line_accepted format line (line_of format line) refl h

text_accepted : (format : Format) (count : ℕ) (line : List ℕ) → IsAccepted (judge_text format count line) → IsLineText format line
text_accepted format count line h =
    cond_both (count == 0) (judge_first format line (first_form line)) (judge_line (line_of format line))
    (λ (verdict : Verdict). IsAccepted verdict → IsLineText format line)
    (λ _. form_accepted format line (first_form line) refl) (λ _. line_accepted format line (line_of format line) refl) (accepted_within count _ h)

nothing_more : (format : Format) (front : List Packet) (packet : Packet) → texts_of (packet ∷ []) ≡ [] → AreLineTexts format front → AreLineTexts format (front ++ packet ∷ [])
nothing_more format front packet none h =
    subst (All (IsLineText format)) (sym (texts_push front packet ∙ (ap (λ more. texts_of front ++ more) none ∙ append-nil (texts_of front)))) h

pub line_texts_push : (format : Format) (ends : Ends) (front : List Packet) (packet : Packet) → IsAccepted (judge format ends front packet)
    → AreLineTexts format front → AreLineTexts format (front ++ packet ∷ [])
line_texts_push format ends front (Data payload) accepted h =
    subst (All (IsLineText format)) (sym (texts_push front (Data payload)))
    (All-append (IsLineText format) (texts_of front) (text payload ∷ []) h
    (All-cons (IsLineText format) (text payload) [] (text_accepted format (length (texts_of front)) (text payload) (accepted_text format ends (is_over front) (length (texts_of front)) payload accepted)) (All-nil (IsLineText format))))
line_texts_push format ends front packet accepted h = nothing_more format front packet refl h

pub whole_line_texts : (format : Format) (ends : Ends) (packets : List Packet) → IsWhole (judge format ends) packets → AreLineTexts format packets
whole_line_texts format ends packets whole =
    subst (AreLineTexts format) (sym whole.parts)
    (line_texts_push format ends whole.front whole.last (subst IsAccepted (sym whole.ends) tt)
    (open_induction (judge format ends) (AreLineTexts format) (All-nil (IsLineText format))
    (λ front packet goes h. line_texts_push format ends front packet (subst IsAccepted (sym goes) tt) h) whole.front whole.goes))

-- ---- the format of the ids of a line

first_length : (format : Format) (parts : List (List ℕ)) (ref : RefLine) → line_of_parts format parts ≡ Ok ref
    → (first : List ℕ) × (rest : List (List ℕ)) × (parts ≡ first ∷ rest) × (length first ≡ id_text_length format)
first_length format [] ref e = absurd (let no : Err BadId ≡ Ok ref = e in cc)
first_length format (first ∷ parts) ref e = (first, parts, refl, by_id (id_of_text format first) refl e) where
  by_id : (id : Option (List ℕ)) → id_of_text format first ≡ id → line_with_id format id parts ≡ Ok ref
      → length first ≡ id_text_length format
  by_id None is h = absurd (let no : Err BadId ≡ Ok ref = h in cc)
  by_id (Some id) is h = (spelt_by format first id is).long

same_format : (f g : Format) → id_text_length f ≡ id_text_length g → f ≡ g
same_format Sha1 Sha1 e = refl
same_format Sha256 Sha256 e = refl
same_format f g e = absurd (omega (arith, e))

one_format : (f g : Format) (line : List ℕ) (a b : RefLine) → line_of f line ≡ Ok a → line_of g line ≡ Ok b → f ≡ g
unfolding line_of
one_format f g line a b e h =
    let x = first_length f (parts_of line) a e in
    let y = first_length g (parts_of line) b h in
    let parts : x.0 ∷ x.1 ≡ y.0 ∷ y.1 = sym x.2 ∙ y.2 in
    let same : x.0 ≡ y.0 = cc in
    same_format f g (sym x.3 ∙ (ap (λ (first : List ℕ). length first) same ∙ y.3))

abbrev pub refs_in : Result RefLine Why → List RefLine
refs_in (Ok line) = line ∷ []
refs_in (Err why) = []

one_in : (read : Result RefLine Why) → filter_map (λ (r : Result RefLine Why). line_in r) (read ∷ []) ≡ refs_in read
one_in (Ok ref) = refl
one_in (Err why) = refl

pub ref_lines-one : (format : Format) (line : List ℕ) → ref_lines format (line ∷ []) ≡ refs_in (line_of format line)
ref_lines-one format line = one_in (line_of format line)

pub ref_lines-cons : (format : Format) (line : List ℕ) (texts : List (List ℕ)) → ref_lines format (line ∷ texts) ≡ ref_lines format (line ∷ []) ++ ref_lines format texts
ref_lines-cons format line texts = filter_map-append (λ text. line_in (line_of format text)) (line ∷ []) texts

pub unborn_gives_none : (format : Format) (line : List ℕ) (target : Result (List ℕ) Why) → first_form line ≡ UnbornForm target → ref_lines format (line ∷ []) ≡ []
unborn_gives_none format line target e = ref_lines-one format line ∙ ap refs_in (unborn_is_no_line format line target e)

same_ref : (f g : Format) (line : List ℕ) → IsLineText f line → IsLineText g line → ref_lines f (line ∷ []) ≡ ref_lines g (line ∷ [])
same_ref f g line (inl h) other = unborn_gives_none f line h.0 h.1 ∙ sym (unborn_gives_none g line h.0 h.1)
same_ref f g line (inr h) (inl other) = unborn_gives_none f line other.0 other.1 ∙ sym (unborn_gives_none g line other.0 other.1)
same_ref f g line (inr h) (inr other) = ap (λ (format : Format). ref_lines format (line ∷ [])) (one_format f g line h.0 other.0 h.1 other.1)

-- texts that are accepted in two formats encode the same refs in both formats
pub same_refs : (f g : Format) (texts : List (List ℕ)) → All (IsLineText f) texts → All (IsLineText g) texts → ref_lines f texts ≡ ref_lines g texts
same_refs f g [] a b = refl
same_refs f g (line ∷ texts) a b =
    ref_lines-cons f line texts
    ∙ (ap₂ ◌++◌ (same_ref f g line (All-head (IsLineText f) line texts a) (All-head (IsLineText g) line texts b))
    (same_refs f g texts (All-tail (IsLineText f) line texts a) (All-tail (IsLineText g) line texts b))
    ∙ sym (ref_lines-cons g line texts))

-- ---- the effect of a packet on a reader

brings_same : (front : List Packet) (packet : Packet) → brings [] packet ≡ brings front packet
brings_same front (Data payload) = refl
brings_same front packet = refl

module _ {A : Type 0} where
  abbrev pub Left : LsReplyReader A → List Packet → Type 0
  Left reader packets = Unit {0}

  module _ (old new : LsReplyReader A) (front : List Packet) (packet : Packet) (kept : KeepsKind old new) (held : Holds old front) where
    same_verdict : judge old.format old.ends front packet ≡ judge_at old.format old.ends old.is_over old.count packet
    same_verdict = ap (λ (state : State). judge_at old.format old.ends state.over state.count packet) (sym held.0)

    holds_more : IsAccepted (judge old.format old.ends front packet) → state_in new ≡ with_packet old.format (state_in old) packet
        → Holds new (front ++ packet ∷ [])
    holds_more accepted adds =
        subst (λ (format : Format). (state_in new ≡ state_of format (front ++ packet ∷ [])) × AreLineTexts format (front ++ packet ∷ [])) (sym kept.0) (
          adds ∙ (ap (λ (state : State). with_packet old.format state packet) held.0 ∙ sym (state_push old.format old.ends front packet accepted)),
          line_texts_push old.format old.ends front packet accepted held.1,
        )

    pub takes_packet : (result : Result Step Why)
        → TakesAs (judge_at old.format old.ends old.is_over old.count packet) (brings [] packet) (state_in new ≡ with_packet old.format (state_in old) packet) result
        → TakesPacket (judge old.format old.ends) brings Holds Left front packet new result
    takes_packet (Ok step.Open) h =
        let goes = same_verdict ∙ h.0 in (goes, holds_more (subst IsAccepted (sym goes) tt) h.1)
    takes_packet (Ok step.Whole) h =
        let ends = same_verdict ∙ h.0 in (ends, holds_more (subst IsAccepted (sym ends) tt) h.1)
    takes_packet (Err why) h = (
      subst (λ (b : Bool). IsReason (judge old.format old.ends front packet) b why) (brings_same front packet)
          (subst (λ (verdict : Verdict). IsReason verdict (brings [] packet) why) (sym same_verdict) h),
      tt,
    )

-- after a complete list of packets, the reader holds the reply that the list encodes
pub says_reply : {A : Type 0} (format : Format) (ends : Ends) (reader : LsReplyReader A) (packets : List Packet)
    → IsWhole (judge format ends) packets → Holds reader packets → (state_in reader).reply ≡ reply_of format packets
says_reply format ends reader packets whole held =
    ap (λ (state : State). state.reply) held.0
    ∙ ap (λ (lines : List RefLine). record { unborn = unborn_of (texts_of packets); lines = lines })
    (same_refs reader.format format (texts_of packets) held.1 (whole_line_texts format ends packets whole))
