-- The change of the state of reading by one more packet.
use Rattle.std.proofs.Common.{◌≡◌, ℕ, ◌+◌, Bool, List, [], ◌∷◌, ◌++◌, length, Option, Some, None, refl, ap, ◌∙◌}
use Rattle.std.proofs.Common.{append-nil, length-append, add-zero, true, false, ◌||◌, Result, Ok, Err, sym, subst}
use Rattle.std.proofs.Common.{append_assoc}
use Rattle.std.proofs.lemmas.List.Elements.{filter_map-append}
use Rattle.std.proofs.lemmas.Grind.{flat_map-append}
use Rattle.gpkt.specs.Packets.{Packet, Data, text, Flush, Delim, ResponseEnd}
use Rattle.gpkt.specs.Bands.{band_form}
use Rattle.gname.specs.declared.formats.Format.{Format}
use Rattle.ggrammar.specs.Ids.{id_of_text}
use Rattle.ggrammar.proofs.PlaceLemmas.{place_after-push, collect-push}
use Rattle.gfetchreply.specs.FetchReplies.{Reading, State, Point, Acking, InPack, ReplyForm, Ack, after_text}
use Rattle.gfetchreply.specs.FetchReplies.{first_place, next_place, place_of, texts_there, bands_there, ack_texts}
use Rattle.gfetchreply.specs.FetchReplies.{band_payloads, acks_of, ack_id, data_of, data_in, reply_form, state_of}
use Rattle.gfetchreply.specs.FetchReplies.{Start, AfterNak, AfterReady, BeforePack, Over, Acknowledgments, Nak}
use Rattle.gfetchreply.specs.FetchReplies.{Readiness, Packfile, is_readiness, is_ready, brings_into, judge, judge_at}
use Rattle.gfetchreply.specs.steps.ReplyState.{id_list, Kept, kept_of, first_kept, state_kept, with_text, with_band}
use Rattle.gfetchreply.specs.steps.ReplyState.{with_packet, data_there, brings_there, TakesOr, TakesMore, TakesBoth}
use Rattle.gfetchreply.specs.steps.ReplyState.{Holds, HoldsReply, Leaves}
use Rattle.std.proofs.Math.Bool.{or-false, or-true}
use Rattle.std.proofs.lemmas.List.Folds.{list_any-append}
use Rattle.ggrammar.specs.Grammar.{Judge, Verdict}
use Rattle.ggrammar.specs.MessageReading.{IsReason, TakesAs, TakesPacket}
use Rattle.ggrammar.specs.declared.fault.Why.{Why}
use Rattle.ggrammar.specs.declared.limits.Limits.{Limits}
use Rattle.ggrammar.specs.declared.message.Step.{Step}
use Rattle.ggrammar.specs.declared.message.Step.TheVariants as step
use Rattle.gfetchreply.specs.Values.{Acks}

-- ---- places in the grammar, and the contents of packets there

pub place_of-push : (direct : Bool) (front : List Packet) (packet : Packet)
    → place_of direct (front ++ packet ∷ []) ≡ next_place (place_of direct front) packet
place_of-push direct front packet = place_after-push next_place (first_place direct) front packet

pub ack_texts-push : (direct : Bool) (front : List Packet) (packet : Packet)
    → ack_texts direct (front ++ packet ∷ []) ≡ ack_texts direct front ++ texts_there (place_of direct front) packet
unfolding ack_texts
ack_texts-push direct front packet = collect-push next_place texts_there (first_place direct) front packet

pub band_payloads-push : (direct : Bool) (front : List Packet) (packet : Packet)
    → band_payloads direct (front ++ packet ∷ []) ≡ band_payloads direct front ++ bands_there (place_of direct front) packet
unfolding band_payloads
band_payloads-push direct front packet = collect-push next_place bands_there (first_place direct) front packet

pub ack_texts-nil : (direct : Bool) → ack_texts direct [] ≡ []
unfolding ack_texts
ack_texts-nil direct = refl

pub band_payloads-nil : (direct : Bool) → band_payloads direct [] ≡ []
unfolding band_payloads
band_payloads-nil direct = refl

-- ---- the ids and the data of concatenated lists

pub acks_of-append : (format : Format) (xs ys : List (List ℕ)) → acks_of format (xs ++ ys) ≡ acks_of format xs ++ acks_of format ys
acks_of-append format xs ys = filter_map-append (λ line. ack_id format (reply_form line)) xs ys

pub data_of-append : (xs ys : List (List ℕ)) → data_of (xs ++ ys) ≡ data_of xs ++ data_of ys
data_of-append xs ys = flat_map-append (λ payload. data_in (band_form payload)) xs ys

-- the ids that a packet acknowledges at a place in the grammar
abbrev pub acks_there : Format → Point → Packet → List (List ℕ)
acks_there format place packet = acks_of format (texts_there place packet)

pub acks-push : (reading : Reading) (front : List Packet) (packet : Packet)
    → acks_of reading.format (ack_texts reading.direct (front ++ packet ∷ []))
    ≡ acks_of reading.format (ack_texts reading.direct front) ++ acks_there reading.format (place_of reading.direct front) packet
acks-push reading front packet =
    ap (acks_of reading.format) (ack_texts-push reading.direct front packet)
    ∙ acks_of-append reading.format (ack_texts reading.direct front) (texts_there (place_of reading.direct front) packet)

pub data-push : (direct : Bool) (front : List Packet) (packet : Packet)
    → data_of (band_payloads direct (front ++ packet ∷ []))
    ≡ data_of (band_payloads direct front) ++ data_of (bands_there (place_of direct front) packet)
data-push direct front packet =
    ap data_of (band_payloads-push direct front packet)
    ∙ data_of-append (band_payloads direct front) (bands_there (place_of direct front) packet)

-- ---- the state

pub same_state : {a b : State} → a.place ≡ b.place → a.ack_count ≡ b.ack_count → a.band_count ≡ b.band_count → a.byte_count ≡ b.byte_count → a ≡ b
same_state place ack_count band_count byte_count = λ i. record { place = place i; ack_count = ack_count i; band_count = band_count i; byte_count = byte_count i }

-- the state after one more packet
abbrev pub next_state : Format → State → Packet → State
next_state format state packet = record {
  place = next_place state.place packet;
  ack_count = state.ack_count + length (acks_there format state.place packet);
  band_count = state.band_count + length (bands_there state.place packet);
  byte_count = state.byte_count + length (data_of (bands_there state.place packet));
}

pub state_of-nil : (reading : Reading)
    → state_of reading [] ≡ record { place = first_place reading.direct; ack_count = 0; band_count = 0; byte_count = 0 }
state_of-nil reading =
    same_state refl
    (ap (λ xs. length (acks_of reading.format xs)) (ack_texts-nil reading.direct))
    (ap length (band_payloads-nil reading.direct))
    (ap (λ xs. length (data_of xs)) (band_payloads-nil reading.direct))

pub state_of-push : (reading : Reading) (front : List Packet) (packet : Packet)
    → state_of reading (front ++ packet ∷ []) ≡ next_state reading.format (state_of reading front) packet
state_of-push reading front packet =
    same_state (place_of-push reading.direct front packet)
    (ap length (acks-push reading front packet)
    ∙ length-append (acks_of reading.format (ack_texts reading.direct front)) (acks_there reading.format (place_of reading.direct front) packet))
    (ap length (band_payloads-push reading.direct front packet)
    ∙ length-append (band_payloads reading.direct front) (bands_there (place_of reading.direct front) packet))
    (ap length (data-push reading.direct front packet)
    ∙ length-append (data_of (band_payloads reading.direct front)) (data_of (bands_there (place_of reading.direct front) packet)))

-- ---- the next state, for each place

-- the ids in one text, and the data in one payload
pub acks_of-one : (format : Format) (line : List ℕ) (given : Option (List ℕ)) → ack_id format (reply_form line) ≡ given
    → acks_of format (line ∷ []) ≡ id_list given
acks_of-one format line None is = cc
acks_of-one format line (Some id) is = cc

pub data_of-one : (payload : List ℕ) → data_of (payload ∷ []) ≡ data_in (band_form payload)
data_of-one payload = append-nil (data_in (band_form payload))

-- the same state at another place
abbrev pub moved : State → Point → State
moved state place = record { place = place; ack_count = state.ack_count; band_count = state.band_count; byte_count = state.byte_count }

-- the next state, given the place of the packet, its ids and its payloads of the pack
gives : (format : Format) (state : State) (place to : Point) (packet : Packet) (acks bands : List (List ℕ))
    → state.place ≡ place
    → next_place place packet ≡ to → acks_there format place packet ≡ acks → bands_there place packet ≡ bands
    → next_state format state packet
    ≡ record {
      place = to;
      ack_count = state.ack_count + length acks;
      band_count = state.band_count + length bands;
      byte_count = state.byte_count + length (data_of bands);
    }
gives format state place to packet acks bands here over is are =
    same_state (ap (λ (p : Point). next_place p packet) here ∙ over)
    (ap (λ (p : Point). state.ack_count + length (acks_there format p packet)) here ∙ ap (λ (xs : List (List ℕ)). state.ack_count + length xs) is)
    (ap (λ (p : Point). state.band_count + length (bands_there p packet)) here ∙ ap (λ (xs : List (List ℕ)). state.band_count + length xs) are)
    (ap (λ (p : Point). state.byte_count + length (data_of (bands_there p packet))) here
    ∙ ap (λ (xs : List (List ℕ)). state.byte_count + length (data_of xs)) are)

-- a packet without ids and without data changes at most the place
pub moves : (format : Format) (state : State) (place to : Point) (packet : Packet) → state.place ≡ place
    → next_place place packet ≡ to → acks_there format place packet ≡ [] → bands_there place packet ≡ []
    → next_state format state packet ≡ moved state to
moves format state place to packet here over is are =
    gives format state place to packet [] [] here over is are
    ∙ same_state refl (add-zero state.ack_count) (add-zero state.band_count) (add-zero state.byte_count)

-- the next state after an acknowledged id
pub state-ack : (format : Format) (state : State) (payload digits id : List ℕ) → state.place ≡ Acking → reply_form (text payload) ≡ Ack digits
    → id_of_text format digits ≡ Some id
    → next_state format state (Data payload) ≡ record { place = Acking; ack_count = state.ack_count + 1; band_count = state.band_count; byte_count = state.byte_count }
state-ack format state payload digits id here form spells =
    gives format state Acking Acking (Data payload) (id ∷ []) [] here (ap (after_text Acking) form)
    (acks_of-one format (text payload) (Some id) (ap (ack_id format) form ∙ spells)) refl
    ∙ same_state refl refl (add-zero state.band_count) (add-zero state.byte_count)

-- the next state after another text of the acknowledgments
pub state-acking : (format : Format) (state : State) (payload : List ℕ) (form : ReplyForm) → state.place ≡ Acking → reply_form (text payload) ≡ form
    → ack_id format form ≡ None → next_state format state (Data payload) ≡ moved state (after_text Acking form)
state-acking format state payload form here is none =
    moves format state Acking (after_text Acking form) (Data payload) here (ap (after_text Acking) is)
    (acks_of-one format (text payload) None (ap (ack_id format) is ∙ none)) refl

-- the next state after a packet of the pack's section
pub state-band : (format : Format) (state : State) (payload : List ℕ) → state.place ≡ InPack
    → next_state format state (Data payload)
    ≡ record { place = InPack; ack_count = state.ack_count; band_count = state.band_count + 1; byte_count = state.byte_count + length (data_in (band_form payload)) }
state-band format state payload here =
    gives format state InPack InPack (Data payload) [] (payload ∷ []) here refl refl refl
    ∙ same_state refl (add-zero state.ack_count) refl
    (ap (λ (xs : List ℕ). state.byte_count + length xs) (data_of-one payload))

-- ---- the stored values of a reply, and accepting a packet

-- ---- the stored values

same_acks : {a b : Acks} → a.limits ≡ b.limits → a.format ≡ b.format → a.ids ≡ b.ids → a ≡ b
same_acks limits format ids = λ i. record { limits = limits i; format = format i; ids = ids i }

same_kept : {a b : Kept} → a.place ≡ b.place → a.acks ≡ b.acks → a.ready ≡ b.ready → a.band_count ≡ b.band_count → a.byte_count ≡ b.byte_count → a ≡ b
same_kept place acks ready band_count byte_count =
    λ i. record { place = place i; acks = acks i; ready = ready i; band_count = band_count i; byte_count = byte_count i }

pub kept_of-nil : (limits : Limits) (format : Format) (direct : Bool)
    → first_kept limits format direct ≡ kept_of limits format direct []
kept_of-nil limits format direct =
    same_kept refl
    (same_acks refl refl (ap (acks_of format) (sym (ack_texts-nil direct))))
    (ap is_ready (sym (ack_texts-nil direct)))
    (ap length (sym (band_payloads-nil direct)))
    (ap (λ xs. length (data_of xs)) (sym (band_payloads-nil direct)))

-- the stored values at this place, after these further texts of the acknowledgments and payloads of the pack
grown : Kept → Point → List (List ℕ) → List (List ℕ) → Kept
grown kept place texts payloads = record {
  place = place;
  acks = record kept.acks { ids = kept.acks.ids ++ acks_of kept.acks.format texts };
  ready = kept.ready || is_ready texts;
  band_count = kept.band_count + length payloads;
  byte_count = kept.byte_count + length (data_of payloads);
}

kept_of-push : (limits : Limits) (format : Format) (direct : Bool) (front : List Packet) (packet : Packet)
    → kept_of limits format direct (front ++ packet ∷ [])
    ≡ grown (kept_of limits format direct front) (next_place (place_of direct front) packet)
    (texts_there (place_of direct front) packet) (bands_there (place_of direct front) packet)
unfolding grown
kept_of-push limits format direct front packet =
    same_kept (place_of-push direct front packet)
    (same_acks refl refl (ap (acks_of format) (ack_texts-push direct front packet)
    ∙ acks_of-append format (ack_texts direct front) (texts_there (place_of direct front) packet)))
    (ap is_ready (ack_texts-push direct front packet) ∙ list_any-append (λ line. is_readiness (reply_form line)) (ack_texts direct front) (texts_there (place_of direct front) packet))
    (ap length (band_payloads-push direct front packet) ∙ length-append (band_payloads direct front) (bands_there (place_of direct front) packet))
    (ap length (data-push direct front packet) ∙ length-append (data_of (band_payloads direct front)) (data_of (bands_there (place_of direct front) packet)))

-- without further texts and payloads, at most the place changes
grown-none : (kept : Kept) (place : Point) → grown kept place [] [] ≡ record kept { place = place }
unfolding grown
grown-none kept place =
    same_kept refl (same_acks refl refl (append-nil kept.acks.ids)) (or-false kept.ready) (add-zero kept.band_count)
    (add-zero kept.byte_count)

-- without further texts and payloads, and at the same place, nothing changes
grown-same : (kept : Kept) (place : Point) → kept.place ≡ place → grown kept place [] [] ≡ kept
grown-same kept place here = grown-none kept place ∙ same_kept (sym here) refl refl refl refl

-- the stored values after one more text of the acknowledgments
grown-text : (kept : Kept) (place : Point) (line : List ℕ) (ids : List (List ℕ)) (ready : Bool) → acks_of kept.acks.format (line ∷ []) ≡ ids
    → is_readiness (reply_form line) ≡ ready
    → grown kept place (line ∷ []) []
    ≡ record kept {
      place = place;
      acks = record kept.acks { ids = kept.acks.ids ++ ids };
      ready = kept.ready || ready;
    }
unfolding grown
grown-text kept place line ids ready acks is =
    same_kept refl (same_acks refl refl (ap (λ xs. kept.acks.ids ++ xs) acks))
    (ap (λ (b : Bool). kept.ready || b) (or-false (is_readiness (reply_form line)) ∙ is)) (add-zero kept.band_count) (add-zero kept.byte_count)

-- the stored values after a text that acknowledges no id and is not `ready`
grown-word : (kept : Kept) (place : Point) (line : List ℕ) (form : ReplyForm) → reply_form line ≡ form → ack_id kept.acks.format form ≡ None
    → is_readiness form ≡ false → grown kept place (line ∷ []) [] ≡ record kept { place = place }
grown-word kept place line form is none word =
    grown-text kept place line [] false (acks_of-one kept.acks.format line None (ap (ack_id kept.acks.format) is ∙ none)) (ap is_readiness is ∙ word)
    ∙ same_kept refl (same_acks refl refl (append-nil kept.acks.ids)) (or-false kept.ready) refl refl

stays : (kept : Kept) (place : Point) → kept.place ≡ place → record kept { place = place } ≡ kept
stays kept place here = same_kept (sym here) refl refl refl refl

-- the stored values after a text where the heading of the acknowledgments is expected
start_adds : (kept : Kept) (form : ReplyForm) → kept.place ≡ Start → grown kept (after_text Start form) [] [] ≡ with_text Start kept form
start_adds kept Acknowledgments here = grown-none kept Acking
start_adds kept form here = grown-same kept Start here

-- the stored values after a text where a text of the acknowledgments is expected
acking_adds : (kept : Kept) (line : List ℕ) (form : ReplyForm) → kept.place ≡ Acking → reply_form line ≡ form
    → grown kept (after_text Acking form) (line ∷ []) [] ≡ with_text Acking kept form
acking_adds kept line Nak here is = grown-word kept AfterNak line Nak is refl refl
acking_adds kept line Readiness here is =
    grown-text kept AfterReady line [] true (acks_of-one kept.acks.format line None (ap (ack_id kept.acks.format) is)) (ap is_readiness is)
    ∙ same_kept refl (same_acks refl refl (append-nil kept.acks.ids)) (or-true kept.ready) refl refl
acking_adds kept line (Ack id) here is =
    grown-text kept Acking line (id_list (id_of_text kept.acks.format id)) false (acks_of-one kept.acks.format line _ (ap (ack_id kept.acks.format) is)) (ap is_readiness is)
    ∙ same_kept (sym here) refl (or-false kept.ready) refl refl
acking_adds kept line form here is = grown-word kept Acking line form is refl refl ∙ stays kept Acking here

-- the stored values after a text where the heading of the pack is expected
before_adds : (kept : Kept) (form : ReplyForm) → kept.place ≡ BeforePack → grown kept (after_text BeforePack form) [] [] ≡ with_text BeforePack kept form
before_adds kept Packfile here = grown-none kept InPack
before_adds kept form here = grown-same kept BeforePack here

-- the stored values after a packet of the pack's section
band_adds : (kept : Kept) (payload : List ℕ) → kept.place ≡ InPack → grown kept InPack [] (payload ∷ []) ≡ with_band kept (length (data_in (band_form payload)))
unfolding grown
band_adds kept payload here =
    same_kept (sym here) (same_acks refl refl (append-nil kept.acks.ids)) (or-false kept.ready) refl
    (ap (λ (xs : List ℕ). kept.byte_count + length xs) (data_of-one payload))

-- the stored values after any packet, for each place
packet_adds : (kept : Kept) (place : Point) (packet : Packet)
    → grown (record kept { place = place }) (next_place place packet) (texts_there place packet) (bands_there place packet) ≡ with_packet (record kept { place = place }) packet
packet_adds kept Start (Data payload) = start_adds (record kept { place = Start }) (reply_form (text payload)) refl
packet_adds kept Acking (Data payload) = acking_adds (record kept { place = Acking }) (text payload) (reply_form (text payload)) refl refl
packet_adds kept AfterNak (Data payload) = grown-none (record kept { place = AfterNak }) AfterNak
packet_adds kept AfterReady (Data payload) = grown-none (record kept { place = AfterReady }) AfterReady
packet_adds kept BeforePack (Data payload) = before_adds (record kept { place = BeforePack }) (reply_form (text payload)) refl
packet_adds kept InPack (Data payload) = band_adds (record kept { place = InPack }) payload refl
packet_adds kept Over (Data payload) = grown-none (record kept { place = Over }) Over
packet_adds kept place packet = grown-none (record kept { place = place }) (next_place place packet)

pub kept_push : (limits : Limits) (format : Format) (direct : Bool) (front : List Packet) (packet : Packet)
    → kept_of limits format direct (front ++ packet ∷ []) ≡ with_packet (kept_of limits format direct front) packet
kept_push limits format direct front packet =
    kept_of-push limits format direct front packet
    ∙ packet_adds (kept_of limits format direct front) (place_of direct front) packet

-- the data of the pack in one more packet
bands_data : (packet : Packet) (place : Point) → data_of (bands_there place packet) ≡ data_there place packet
bands_data (Data payload) InPack = data_of-one payload
bands_data Flush InPack = refl
bands_data Delim InPack = refl
bands_data ResponseEnd InPack = refl
bands_data packet place = refl

pub pack_push : (direct : Bool) (front : List Packet) (packet : Packet)
    → data_of (band_payloads direct (front ++ packet ∷ [])) ≡ data_of (band_payloads direct front) ++ data_there (place_of direct front) packet
pack_push direct front packet =
    data-push direct front packet ∙ ap (λ xs. data_of (band_payloads direct front) ++ xs) (bands_data packet (place_of direct front))

brings_at : (refuses : Bool) (reading : Reading) (front : List Packet) (packet : Packet) → brings_into refuses reading front packet ≡ brings_there refuses (place_of reading.direct front) packet
brings_at refuses reading front (Data payload) = refl
brings_at refuses reading front packet = refl

-- ---- accepting a packet

-- `TakesOr` stays true for an equal verdict and for predicates that follow from the given ones
takes_also : {verdict other : Verdict} {some same : Bool} {P P' Q Q' : Type 0} → other ≡ verdict → same ≡ some → (P → P') → (Q → Q') → (result : Result Step Why)
    → TakesOr verdict some P Q result → TakesOr other same P' Q' result
takes_also is brings more less (Ok step.Open) h = (is ∙ h.0, more h.1)
takes_also is brings more less (Ok step.Whole) h = (is ∙ h.0, more h.1)
takes_also {verdict} {other} {some} {same} is brings more less (Err why) h =
    (subst (λ (v : Verdict). IsReason v same why) (sym is) (subst (λ (b : Bool). IsReason verdict b why) (sym brings) h.0), less h.1)

-- the bytes that the sink has accepted after one more packet
longer : (reading : Reading) (kept : Kept) (front : List Packet) (packet : Packet) (before : List ℕ)
    → kept ≡ kept_of reading.limits reading.format reading.direct front
    → (before ++ data_of (band_payloads reading.direct front)) ++ data_there kept.place packet ≡ before ++ data_of (band_payloads reading.direct (front ++ packet ∷ []))
longer reading kept front packet before counts =
    append_assoc before _ _
    ∙ ap (λ xs. before ++ xs)
    (ap (λ (k : Kept). data_of (band_payloads reading.direct front) ++ data_there k.place packet) counts ∙ sym (pack_push reading.direct front packet))

-- `TakesAs` implies `TakesOr` with a predicate that follows from the given one, and a predicate for refusals
takes_or : {verdict other : Verdict} {P P' Q : Type 0} (some : Bool) → other ≡ verdict → (P → P') → Q → (result : Result Step Why) → TakesAs verdict some P result
    → TakesOr other some P' Q result
takes_or some is more left (Ok step.Open) h = (is ∙ h.0, more h.1)
takes_or some is more left (Ok step.Whole) h = (is ∙ h.0, more h.1)
takes_or {verdict} {other} some is more left (Err why) h = (subst (λ (v : Verdict). IsReason v some why) (sym is) h, left)

module _ {S : Type 0} (taken : S → List ℕ → Type 0) where
  no_more : (s : S) → TakesMore taken s s []
  no_more s before h = subst (taken s) (sym (append-nil before)) h

  -- a packet without data for the sink
  pub past_sink : {verdict other : Verdict} (wanted kept : Kept) (some : Bool) (s : S) → other ≡ verdict → (result : Result Step Why)
      → TakesAs verdict some (kept ≡ wanted) result → TakesBoth taken other some wanted kept [] s s result
  past_sink wanted kept some s is result h = takes_or some is (λ e. (e, no_more s)) (λ before t. t) result h

  -- `TakesBoth` stays true for an equal verdict
  pub judged_as : {verdict other : Verdict} (wanted kept : Kept) (some : Bool) (more : List ℕ) (old new : S) → other ≡ verdict → (result : Result Step Why)
      → TakesBoth taken verdict some wanted kept more old new result → TakesBoth taken other some wanted kept more old new result
  judged_as wanted kept some more old new is result h = takes_also is refl (λ p. p) (λ q. q) result h

module _ {S : Type 0} (taken : S → List ℕ → Type 0) (same : S → S → Type 0) (had : List ℕ → Type 0) (starts : S → Type 0) (seat : ℕ) (asked : Reading) where
  -- the state before the first packet
  pub begins : (reading : Reading) (kept : Kept) (sink : S) (name : ℕ) → reading ≡ asked
      → kept ≡ first_kept reading.limits reading.format reading.direct
      → ((before : List ℕ) → had before → taken sink before) → ((start : S) → starts start → same start sink) → name ≡ seat
      → Holds taken same had starts seat asked reading kept sink name []
  begins reading kept sink name kind first has is_same in_place = record {
    kind = kind;
    counts = first ∙ kept_of-nil reading.limits reading.format reading.direct;
    pack = λ before h. subst (taken sink) (sym (ap (λ xs. before ++ data_of xs) (band_payloads-nil reading.direct) ∙ append-nil before)) (has before h);
    is_same = is_same;
    in_place = in_place;
  }

  -- a packet that is accepted or refused for the stored values is accepted or refused for the packets so far
  pub takes_after : (refuses : Bool) (reading : Reading) (kept now : Kept) (old new : S) (name next : ℕ) (front : List Packet) (packet : Packet)
      (result : Result Step Why) → Holds taken same had starts seat asked reading kept old name front → next ≡ name
      → ((start : S) → same start old → same start new)
      → TakesBoth taken
      (judge_at (record reading { limits = kept.acks.limits; format = kept.acks.format }) (state_kept kept) packet)
      (brings_there refuses kept.place packet)
      (with_packet kept packet) now (data_there kept.place packet) old new result
      → TakesOr (judge reading front packet) (brings_into refuses reading front packet) (Holds taken same had starts seat asked reading now new next (front ++ packet ∷ []))
      (Leaves taken same had starts seat asked reading new next front) result
  takes_after refuses reading kept now old new name next front packet result held stays onward h =
      takes_also
      (sym (ap
      (λ (k : Kept). judge_at (record reading { limits = k.acks.limits; format = k.acks.format }) (state_kept k) packet)
      held.counts))
      (brings_at refuses reading front packet ∙ sym (ap (λ (k : Kept). brings_there refuses k.place packet) held.counts))
      (λ p. record {
        kind = held.kind;
        counts = p.0 ∙ (ap (λ (k : Kept). with_packet k packet) held.counts
            ∙ sym (kept_push reading.limits reading.format reading.direct front packet));
        pack = λ before t. subst (taken new) (longer reading kept front packet before held.counts) (p.1 _ (held.pack before t));
        is_same = λ start from. onward start (held.is_same start from);
        in_place = stays ∙ held.in_place;
      })
      (λ q. record {
        kind = held.kind;
        pack = λ before t. q _ (held.pack before t);
        is_same = λ start from. onward start (held.is_same start from);
        in_place = stays ∙ held.in_place;
      })
      result h

-- `TakesOr` for the verdict of a judge is `TakesPacket`
pub as_packet : {M : Type 0} (judged : Judge) (brought : List Packet → Packet → Bool) (holds left : M → List Packet → Type 0) (front : List Packet) (packet : Packet)
    (new : M) (result : Result Step Why) → TakesOr (judged front packet) (brought front packet) (holds new (front ++ packet ∷ [])) (left new front) result
    → TakesPacket judged brought holds left front packet new result
as_packet judged brought holds left front packet new (Ok step.Open) h = h
as_packet judged brought holds left front packet new result h = h

-- ---- a reader and the sink of its calls

-- a packet that is accepted or refused for the stored values is accepted or refused for the packets so far
pub accepts : {S : Type 0} (taken : S → List ℕ → Type 0) (same : S → S → Type 0) (refuses : Bool) (asked reading : Reading) (kept now : Kept) (old new : S) (front : List Packet)
    (packet : Packet) (result : Result Step Why) → reading ≡ asked → HoldsReply taken same asked kept old front
    → ((start : S) → same start old → same start new)
    → TakesBoth taken
    (judge_at (record asked { limits = kept.acks.limits; format = kept.acks.format }) (state_kept kept) packet)
    (brings_there refuses kept.place packet)
    (with_packet kept packet) now (data_there kept.place packet) old new result
    → TakesOr (judge asked front packet) (brings_into refuses asked front packet) (HoldsReply taken same reading now new (front ++ packet ∷ [])) (Unit {0}) result
accepts taken same refuses asked reading kept now old new front packet result is held onward h =
    subst (λ (r : Reading). TakesOr (judge asked front packet) (brings_into refuses asked front packet) (HoldsReply taken same r now new (front ++ packet ∷ [])) (Unit {0}) result)
    (sym is)
    (takes_also refl refl (λ p. p) (λ q. tt) result
    (takes_after taken same (λ bytes. bytes ≡ []) (λ start. ⊥) 0 asked refuses asked kept now old new 0 0 front packet result held refl onward h))

-- another sink holds the same packets if it has accepted the same bytes
pub held_by : {S T : Type 0} (taken : S → List ℕ → Type 0) (same : S → S → Type 0) (accepted : T → List ℕ → Type 0) (alike : T → T → Type 0) (reading : Reading) (kept : Kept) (sink : S) (other : T) (packets : List Packet)
    → ((bytes : List ℕ) → taken sink bytes → accepted other bytes) → HoldsReply taken same reading kept sink packets → HoldsReply accepted alike reading kept other packets
held_by taken same accepted alike reading kept sink other packets gives held = record {
  kind = held.kind;
  counts = held.counts;
  pack = λ before had. gives _ (held.pack before had);
  is_same = λ start no. absurd no;
  in_place = held.in_place;
}

-- the state before the first packet
pub begins_reply : {S : Type 0} (taken : S → List ℕ → Type 0) (same : S → S → Type 0) (reading : Reading) (kept : Kept) (sink : S)
    → kept ≡ first_kept reading.limits reading.format reading.direct → taken sink [] → HoldsReply taken same reading kept sink []
begins_reply taken same reading kept sink first none =
    begins taken same (λ bytes. bytes ≡ []) (λ start. ⊥) 0 reading reading kept sink 0 refl first
    (λ before is. subst (taken sink) (sym is) none) (λ start no. absurd no) refl
