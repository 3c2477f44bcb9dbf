-- The packets that are written for a reply: the pieces of its pack, the reply that the packets encode, and the lengths
-- of the payloads.
use Rattle.std.proofs.Common.{◌≡◌, ℕ, zero, suc, ◌≤◌, ◌<◌, false, List, [], ◌∷◌, ◌++◌, length, take, drop, map, min, codes, inl, inr, Some, refl, sym, ap, subst, ◌∙◌, length-append, length-drop, length-take, arith}
use Rattle.std.specs.Prelude.{All}
use Rattle.std.specs.Option.{is_some}
use Rattle.std.proofs.lemmas.List.{length-map, take-append-drop, take_min, drop_min}
use Rattle.std.proofs.Math.Seq.{take-append_seam, drop-append_seam}
use Rattle.std.proofs.lemmas.List.Elements.{All-nil, All-cons, All-head, All-tail, All-append}
use Rattle.std.proofs.lemmas.Simd.{map-map}
use Rattle.gpkt.specs.Packets.{Packet, Data, Flush, Delim, ResponseEnd, text, line_feed}
use Rattle.gpkt.specs.Bands.{band_form, band_payload, max_band, Data as BandData}
use Rattle.gpkt.specs.Laws.{Fits, TextOfLine}
use Rattle.gname.specs.Ids.{IsIdOf, id_text}
use Rattle.gname.specs.Laws.{IdsHaveTexts, IdsHaveOneFormat}
use Rattle.gname.specs.declared.formats.Format.{Format}
use Rattle.ggrammar.specs.Endings.{ends_with}
use Rattle.ggrammar.specs.Kinds.{CanonicalSays}
use Rattle.ggrammar.proofs.IdLemmas.{id_spells, id_text_short, is_spelt}
use Rattle.ggrammar.specs.Texts.{text_packet}
use Rattle.ggrammar.specs.declared.ends.Ends.{Ends}
use Rattle.ggrammar.specs.declared.ends.Ends.TheVariants.{Plain, Response}
use Rattle.ggrammar.specs.declared.limits.Limits.{Limits}
use Rattle.gfetchreply.specs.FetchManual.{IsAck, IsAckSection, IsPackSection, IsBody, IsDataOrProgress}
use Rattle.gfetchreply.specs.FetchReplies.{Reading, FetchReply, Acks, Ready, Pack, reply_form, ack_id, acks_of, data_of, Says}
use Rattle.gfetchreply.specs.FetchReplies.{ack_packet, data_packet, nak_if_none, heading_packet, ready_packet, pieces, pieces_within, pack_section, body_packets, canonical_reply, IsCanonical}
use Rattle.gfetchreply.specs.Values.{max_stream}
use Rattle.gfetchreply.specs.WellFormed.{AreAcks, IsReplyIn}
use Rattle.gfetchreply.proofs.ReplyForms.{ack_form-written}
use Rattle.gfetchreply.proofs.ReplyManual.{says_from_manual}
use Rattle.gfetchreply.proofs.StateLemmas.{acks_of-append, acks_of-one}

-- ---- pieces of a pack

within_nil : (most : ℕ) → pieces_within most [] ≡ []
within_nil zero = refl
within_nil (suc most) = refl

-- the pieces do not depend on the maximum number of pieces, if this is at least the length of the pack
same_within : (most more : ℕ) (pack : List ℕ) → length pack ≤ most → length pack ≤ more
    → pieces_within most pack ≡ pieces_within more pack
same_within most more [] few less = within_nil most ∙ sym (within_nil more)
same_within zero more (byte ∷ rest) few less = absurd (omega arith)
same_within (suc most) zero (byte ∷ rest) few less = absurd (omega arith)
same_within (suc most) (suc more) (byte ∷ rest) few less =
    ap (λ (xs : List (List ℕ)). take max_band (byte ∷ rest) ∷ xs)
    (same_within most more (drop max_band (byte ∷ rest)) (simp length-drop (omega arith))
    (simp length-drop (omega arith)))

pieces_few : (most : ℕ) (pack : List ℕ) → length (pieces_within most pack) ≤ most
pieces_few zero pack = omega arith
pieces_few (suc most) [] = omega arith
pieces_few (suc most) (byte ∷ rest) = let few = pieces_few most (drop max_band (byte ∷ rest)) in omega arith

-- the payload of a piece on band 1
abbrev pub on_band : List ℕ → List ℕ
on_band piece = band_payload (BandData piece)

-- the data in the payloads of the pieces is the pack
pieces_join : (most : ℕ) (pack : List ℕ) → length pack ≤ most → pack ≡ data_of (map on_band (pieces_within most pack))
unfolding band_form
pieces_join most [] few = ap (λ (xs : List (List ℕ)). data_of (map on_band xs)) (sym (within_nil most))
pieces_join zero (byte ∷ rest) few = absurd (omega arith)
pieces_join (suc most) (byte ∷ rest) few =
    sym (take-append-drop max_band (byte ∷ rest))
    ∙ ap (λ (xs : List ℕ). take max_band (byte ∷ rest) ++ xs)
    (pieces_join most (drop max_band (byte ∷ rest)) (simp length-drop (omega arith)))

bands_are : (pieces : List (List ℕ)) → All (λ payload. IsDataOrProgress (band_form payload)) (map on_band pieces)
unfolding band_form
bands_are [] = All-nil (λ payload. IsDataOrProgress (band_form payload))
bands_are (piece ∷ pieces) = All-cons (λ payload. IsDataOrProgress (band_form payload)) (on_band piece) (map on_band pieces) tt (bands_are pieces)

pieces_fit : (most : ℕ) (pack : List ℕ) → All Fits (map data_packet (pieces_within most pack))
pieces_fit zero pack = All-nil Fits
pieces_fit (suc most) [] = All-nil Fits
pieces_fit (suc most) (byte ∷ rest) =
    let short = length-take max_band (byte ∷ rest) in
    All-cons Fits (data_packet (take max_band (byte ∷ rest))) _ (omega arith)
    (pieces_fit most (drop max_band (byte ∷ rest)))

-- ---- the pieces of a pack in sequence

pub pieces_none : (pack : List ℕ) → length pack ≡ 0 → pieces pack ≡ []
unfolding pieces
pieces_none [] empty = refl
pieces_none (byte ∷ rest) empty = absurd (omega arith)

-- the pieces of a nonempty pack are its first piece and the pieces of the rest
pub pieces_next : (pack piece after : List ℕ) → pack ≡ piece ++ after → length piece ≡ min max_band (length pack) → 0 < length pack
    → pieces pack ≡ piece ∷ pieces after
unfolding pieces
pieces_next [] piece after e size some = absurd (omega arith)
pieces_next (byte ∷ rest) piece after e size some =
    let front : take max_band (byte ∷ rest) ≡ piece =
    sym (take_min max_band (byte ∷ rest)) ∙ ((λ i. take (sym size i) (e i)) ∙ take-append_seam piece after) in
    let back : drop max_band (byte ∷ rest) ≡ after =
    sym (drop_min max_band (byte ∷ rest)) ∙ ((λ i. drop (sym size i) (e i)) ∙ drop-append_seam piece after) in
    let long = ap length back in
    (λ i. front i ∷ pieces_within (length rest) (back i))
    ∙ ap (λ (xs : List (List ℕ)). piece ∷ xs)
    (same_within (length rest) (length after) after (omega (arith, length-drop max_band (byte ∷ rest))) (omega arith))

-- ---- the reply that the packets encode

module _ (line_is : TextOfLine) (ids_have : IdsHaveTexts) (one_format : IdsHaveOneFormat) where
  -- the payload of an acknowledged id
  abbrev ack_payload : List ℕ → List ℕ
  ack_payload id = (codes "ACK " ++ id_text id) ++ line_feed ∷ []

  ack_given : (format : Format) (id : List ℕ) → IsIdOf format id → ack_id format (reply_form (text (ack_payload id))) ≡ Some id
  ack_given format id is =
      ap (λ (line : List ℕ). ack_id format (reply_form line)) (line_is (codes "ACK " ++ id_text id))
      ∙ (ap (ack_id format) (ack_form-written (id_text id)) ∙ is_spelt format (id_text id) id (id_spells one_format ids_have format id is))

  acks_are : (format : Format) (ids : List (List ℕ)) → All (IsIdOf format) ids → All (IsAck format) (map text (map ack_payload ids))
  acks_are format [] are = All-nil (IsAck format)
  acks_are format (id ∷ ids) are =
      All-cons (IsAck format) (text (ack_payload id)) (map text (map ack_payload ids))
      (ap is_some (ack_given format id (All-head (IsIdOf format) id ids are)))
      (acks_are format ids (All-tail (IsIdOf format) id ids are))

  acks_say : (format : Format) (ids : List (List ℕ)) → All (IsIdOf format) ids → ids ≡ acks_of format (map text (map ack_payload ids))
  acks_say format [] are = refl
  acks_say format (id ∷ ids) are =
      let one : acks_of format (text (ack_payload id) ∷ []) ≡ id ∷ [] =
      acks_of-one format (text (ack_payload id)) (Some id) (ack_given format id (All-head (IsIdOf format) id ids are)) in
      sym (acks_of-append format (text (ack_payload id) ∷ []) (map text (map ack_payload ids))
      ∙ (ap (λ (xs : List (List ℕ)). xs ++ acks_of format (map text (map ack_payload ids))) one
      ∙ ap (λ (xs : List (List ℕ)). id ∷ xs) (sym (acks_say format ids (All-tail (IsIdOf format) id ids are)))))

  ack_section : (limits : Limits) (format : Format) (ids : List (List ℕ)) → AreAcks limits format ids
      → IsAckSection limits format (heading_packet ∷ map ack_packet ids) ids
  ack_section limits format ids are = record {
    heading = codes "acknowledgments" ++ line_feed ∷ [];
    acks = map ack_payload ids;
    parts = ap (λ (xs : List Packet). heading_packet ∷ xs) (sym (map-map Data ack_payload ids));
    is_heading = line_is (codes "acknowledgments");
    are_acks = acks_are format ids are.ids;
    few = (let few = are.few in omega (arith, length-map ids ack_payload));
    are = acks_say format ids are.ids;
  }

  section_is : (limit : ℕ) (pack : List ℕ) → limit ≤ max_stream → length pack ≤ limit → IsPackSection limit (pack_section pack) pack
  unfolding pieces
  section_is limit pack within short = record {
    heading = codes "packfile" ++ line_feed ∷ [];
    payloads = map on_band (pieces pack);
    parts = ap (λ (xs : List Packet). text_packet (codes "packfile") ∷ (xs ++ Flush ∷ []))
        (sym (map-map Data on_band (pieces pack)));
    is_heading = line_is (codes "packfile");
    are_bands = bands_are (pieces pack);
    few = omega (arith, length-map (pieces pack) on_band, pieces_few (length pack) pack);
    short = short;
    is_data = pieces_join (length pack) pack (omega arith);
  }

  acks_body : (reading : Reading) (ids : List (List ℕ)) → reading.direct ≡ false
      → AreAcks reading.limits reading.format ids → IsBody reading (body_packets (Acks ids)) (Acks ids)
  acks_body reading [] direct are = (
    direct,
    inl (
      refl,
      record {
        section = heading_packet ∷ [];
        nak = codes "NAK" ++ line_feed ∷ [];
        acks = ack_section reading.limits reading.format [] are;
        is_nak = line_is (codes "NAK");
        parts = refl;
      },
    ),
  )
  acks_body reading (id ∷ ids) direct are = (
    direct,
    inr (record {
      section = heading_packet ∷ map ack_packet (id ∷ ids);
      acks = ack_section reading.limits reading.format (id ∷ ids) are;
      parts = refl;
    }),
  )

  body_is : (reading : Reading) (reply : FetchReply) → reading.limit ≤ max_stream → IsReplyIn reading reply → IsBody reading (body_packets reply) reply
  body_is reading (Acks ids) within fit = acks_body reading ids fit.0 fit.1
  body_is reading (Ready ids pack) within fit = (
    fit.0,
    record {
      section = heading_packet ∷ map ack_packet ids;
      readiness = codes "ready" ++ line_feed ∷ [];
      rest = pack_section pack;
      acks = ack_section reading.limits reading.format ids fit.1;
      is_readiness = line_is (codes "ready");
      packs = section_is reading.limit pack within fit.2;
      parts = refl;
    },
  )
  body_is reading (Pack pack) within fit = (fit.0, section_is reading.limit pack within fit.1)

  canonical_is_read : (reading : Reading) (reply : FetchReply) → reading.limit ≤ max_stream → IsReplyIn reading reply → Says reading (canonical_reply reading.ends reply) reply
  unfolding canonical_reply
  canonical_is_read reading reply within fit =
      says_from_manual reading (canonical_reply reading.ends reply) reply
      (record { body = body_packets reply; is_body = body_is reading reply within fit; parts = refl })

  -- ---- the lengths of the payloads

  ack_fits : (format : Format) (id : List ℕ) → IsIdOf format id → Fits (ack_packet id)
  ack_fits format id is =
      let short = id_text_short one_format ids_have format id is in
      omega (arith, short, length-append (codes "ACK " ++ id_text id) (line_feed ∷ []), length-append (codes "ACK ") (id_text id))

  acks_fit : (format : Format) (ids : List (List ℕ)) → All (IsIdOf format) ids → All Fits (map ack_packet ids)
  acks_fit format [] are = All-nil Fits
  acks_fit format (id ∷ ids) are =
      All-cons Fits (ack_packet id) (map ack_packet ids) (ack_fits format id (All-head (IsIdOf format) id ids are))
      (acks_fit format ids (All-tail (IsIdOf format) id ids are))

  ends_fit : (ends : Ends) → All Fits (ends_with ends)
  ends_fit Plain = All-nil Fits
  ends_fit Response = All-cons Fits ResponseEnd [] (omega arith) (All-nil Fits)

  flush_fits : All Fits (Flush ∷ [])
  flush_fits = All-cons Fits Flush [] (omega arith) (All-nil Fits)

  pack_fits : (pack : List ℕ) → All Fits (pack_section pack)
  unfolding pieces
  pack_fits pack =
      All-cons Fits (text_packet (codes "packfile")) _ (omega arith)
      (All-append Fits (map data_packet (pieces pack)) (Flush ∷ []) (pieces_fit (length pack) pack) flush_fits)

  naks_fit : (format : Format) (ids : List (List ℕ)) → All (IsIdOf format) ids → All Fits (nak_if_none (map ack_packet ids))
  naks_fit format [] are = All-cons Fits (text_packet (codes "NAK")) [] (omega arith) (All-nil Fits)
  naks_fit format (id ∷ ids) are = acks_fit format (id ∷ ids) are

  body_fits : (reading : Reading) (reply : FetchReply) → IsReplyIn reading reply → All Fits (body_packets reply)
  body_fits reading (Acks ids) fit =
      All-cons Fits heading_packet (nak_if_none (map ack_packet ids) ++ Flush ∷ []) (omega arith)
      (All-append Fits (nak_if_none (map ack_packet ids)) (Flush ∷ []) (naks_fit reading.format ids fit.1.ids) flush_fits)
  body_fits reading (Ready ids pack) fit =
      let section = ready_packet ∷ Delim ∷ pack_section pack in
      All-cons Fits heading_packet (map ack_packet ids ++ section) (omega arith)
      (All-append Fits (map ack_packet ids) section (acks_fit reading.format ids fit.1.ids)
      (All-cons Fits ready_packet (Delim ∷ pack_section pack) (omega arith)
      (All-cons Fits Delim (pack_section pack) (omega arith) (pack_fits pack))))
  body_fits reading (Pack pack) fit = pack_fits pack

  canonical_fits : (reading : Reading) (reply : FetchReply) → IsReplyIn reading reply → All Fits (canonical_reply reading.ends reply)
  unfolding canonical_reply
  canonical_fits reading reply fit =
      All-append Fits (body_packets reply) (ends_with reading.ends) (body_fits reading reply fit) (ends_fit reading.ends)

  pub canonical_says : (reading : Reading) → reading.limit ≤ max_stream → CanonicalSays (Says reading) (IsReplyIn reading) (IsCanonical reading.ends)
  canonical_says reading within lines reply fit is =
      subst (λ (ls : List Packet). Says reading ls reply × All Fits ls) (sym is) (canonical_is_read reading reply within fit, canonical_fits reading reply fit)
