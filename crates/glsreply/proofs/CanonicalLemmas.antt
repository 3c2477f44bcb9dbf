-- The packets that are written for a reply encode it, and each payload fits into a packet.
use Rattle.std.proofs.Common.{◌≡◌, ℕ, ◌+◌, ◌≤◌, List, [], ◌∷◌, ◌++◌, length, map, codes, Option, Some, None, inl, refl, sym, ap, subst, ◌∙◌, append_assoc, arith, length-append}
use Rattle.std.specs.Prelude.{All, IfSome}
use Rattle.std.proofs.lemmas.List.{length-map, map-append}
use Rattle.std.proofs.lemmas.List.Elements.{All-cons, All-nil, All-head, All-tail, All-append}
use Rattle.std.proofs.lemmas.Simd.{map-map}
use Rattle.gpkt.specs.Packets.{Packet, Data, Flush, ResponseEnd, text, line_feed}
use Rattle.gpkt.specs.Laws.{Fits}
use Rattle.gname.specs.Ids.{IsIdOf, id_text}
use Rattle.gname.specs.Laws.{IdsHaveTexts}
use Rattle.gname.specs.Names.{IsRefName}
use Rattle.gname.specs.declared.formats.Format.{Format}
use Rattle.ggrammar.specs.Endings.{ends_with}
use Rattle.ggrammar.specs.Kinds.{CanonicalSays}
use Rattle.ggrammar.specs.Texts.{TextIsRead, text_packet}
use Rattle.ggrammar.specs.declared.ends.Ends.{Ends}
use Rattle.ggrammar.specs.declared.ends.Ends.TheVariants.{Plain, Response}
use Rattle.gname.proofs.NameLemmas.{name_within}
use Rattle.ggrammar.proofs.IdLemmas.{id_spells, id_text_short}
use Rattle.glsreply.specs.RefTexts.{RefLine, symref_text, peeled_text, ref_text, unborn_text}
use Rattle.glsreply.specs.LsReplies.{LsReply, Says, IsCanonicalReply, unborn_packets, ref_packet, canonical_reply}
use Rattle.glsreply.specs.LsManual.{IsSymref, IsPeeled, IsAttribute, IsRefText, AreRefTexts, IsUnbornFirst, IsLsReply}
use Rattle.glsreply.specs.WellFormed.{IsRefLine, IsLsReplyIn}
use Rattle.glsreply.proofs.StateLemmas.{GrammarsAreExact}
use Rattle.glsreply.proofs.RefTextLemmas.{TextLaws}
use Rattle.glsreply.proofs.TableLemmas.{words_say}

pub record LawsBelow : Type 0 where
  pub grammars : GrammarsAreExact
  pub reads : TextIsRead
  pub texts : IdsHaveTexts
  pub words : TextLaws

module _ (laws : LawsBelow) where
  line_text : (line : List ℕ) → text (line ++ line_feed ∷ []) ≡ line
  line_text line = let same : Some (text (line ++ line_feed ∷ [])) ≡ Some line = laws.reads line in cc

  -- ---- texts

  target_is : (symref : Option (List ℕ)) → IfSome symref IsRefName → IsAttribute IsSymref (symref_text symref) symref
  target_is None h = refl
  target_is (Some target) h = (refl, h)

  leads_is : (format : Format) (peeled : Option (List ℕ)) → IfSome peeled (IsIdOf format) → IsAttribute (IsPeeled format) (peeled_text peeled) peeled
  leads_is format None h = refl
  leads_is format (Some id) h = (id_text id, refl, id_spells laws.words.formats laws.texts format id h)

  ref_text_is : (format : Format) (line : RefLine) → IsRefLine format line → IsRefText format (ref_text line) line
  unfolding ref_text
  ref_text_is format line h = record {
    digits = id_text line.id;
    attributes = symref_text line.symref ++ peeled_text line.peeled;
    parts = append_assoc (id_text line.id ++ codes " " ++ line.name) (symref_text line.symref) (peeled_text line.peeled);
    is_id = id_spells laws.words.formats laws.texts format line.id h.id;
    is_name = h.name;
    are_attributes = record {
      target = symref_text line.symref;
      leads = peeled_text line.peeled;
      parts = inl refl;
      is_target = target_is line.symref h.symref;
      is_leads = leads_is format line.peeled h.peeled;
    };
  }

  -- ---- the reply

  abbrev line_payload : List ℕ → List ℕ
  line_payload line = line ++ line_feed ∷ []

  abbrev ref_payload : RefLine → List ℕ
  ref_payload line = line_payload (ref_text line)

  abbrev unborn_payloads : Option (List ℕ) → List (List ℕ)
  unborn_payloads None = []
  unborn_payloads (Some target) = line_payload (unborn_text target) ∷ []

  unborn_is_first : (unborn : Option (List ℕ)) → IfSome unborn IsRefName → IsUnbornFirst unborn (unborn_payloads unborn)
  unborn_is_first None h = refl
  unborn_is_first (Some target) h =
      (line_payload (unborn_text target), refl, line_text (unborn_text target), h)

  lines_are_refs : (format : Format) (lines : List RefLine) → All (IsRefLine format) lines → AreRefTexts format (map text (map ref_payload lines)) lines
  lines_are_refs format [] h = tt
  lines_are_refs format (line ∷ lines) h = (
    subst (λ (bytes : List ℕ). IsRefText format bytes line) (sym (line_text (ref_text line))) (ref_text_is format line (All-head (IsRefLine format) line lines h)),
    lines_are_refs format lines (All-tail (IsRefLine format) line lines h),
  )

  unborn_sent : (unborn : Option (List ℕ)) → map Data (unborn_payloads unborn) ≡ unborn_packets unborn
  unborn_sent None = refl
  unborn_sent (Some target) = refl

  unborn_count : (unborn : Option (List ℕ)) → length (unborn_payloads unborn) ≡ length (unborn_packets unborn)
  unborn_count None = refl
  unborn_count (Some target) = refl

  canonical_is_reply : (format : Format) (ends : Ends) (reply : LsReply) → IsLsReplyIn format reply → IsLsReply format ends (canonical_reply ends reply) reply
  unfolding canonical_reply
  canonical_is_reply format ends reply h =
      let first = unborn_payloads reply.unborn in
      let refs = map ref_payload reply.lines in
      let sent : map Data (first ++ refs) ≡ unborn_packets reply.unborn ++ map ref_packet reply.lines =
      map-append Data first refs ∙ (λ i. unborn_sent reply.unborn i ++ map-map Data ref_payload reply.lines i) in
      record {
        first = first;
        refs = refs;
        parts = ap (λ (packets : List Packet). packets ++ Flush ∷ ends_with ends) (sym sent);
        is_first = unborn_is_first reply.unborn h.unborn;
        are_refs = lines_are_refs format reply.lines h.lines;
        few = omega (arith, h.few, unborn_count reply.unborn, length-append first refs, length-map reply.lines ref_payload);
      }

  -- ---- the lengths of the payloads

  symref_short : (symref : Option (List ℕ)) → IfSome symref IsRefName → length (symref_text symref) ≤ 1015
  symref_short None h = omega arith
  symref_short (Some target) h = omega (arith, length-append (codes " symref-target:") target, name_within target h)

  peeled_short : (format : Format) (peeled : Option (List ℕ)) → IfSome peeled (IsIdOf format) → length (peeled_text peeled) ≤ 72
  peeled_short format None h = omega arith
  peeled_short format (Some id) h = omega (arith, length-append (codes " peeled:") (id_text id), id_text_short laws.words.formats laws.texts format id h)

  line_length : (id name symref peeled : List ℕ)
      → length (id ++ codes " " ++ name ++ symref ++ peeled) ≡ length id + 1 + length name + length symref + length peeled
  line_length id name symref peeled =
      omega (arith, length-append (id ++ codes " " ++ name ++ symref) peeled, length-append (id ++ codes " " ++ name) symref, length-append (id ++ codes " ") name, length-append id (codes " "))

  ref_fits : (format : Format) (line : RefLine) → IsRefLine format line → Fits (ref_packet line)
  unfolding ref_text
  ref_fits format line h =
      omega (
        arith,
        length-append (ref_text line) (line_feed ∷ []),
        line_length (id_text line.id) line.name (symref_text line.symref) (peeled_text line.peeled),
        id_text_short laws.words.formats laws.texts format line.id h.id,
        name_within line.name h.name,
        symref_short line.symref h.symref,
        peeled_short format line.peeled h.peeled,
      )

  refs_fit : (format : Format) (lines : List RefLine) → All (IsRefLine format) lines → All Fits (map ref_packet lines)
  refs_fit format [] h = All-nil Fits
  refs_fit format (line ∷ lines) h =
      All-cons Fits (ref_packet line) (map ref_packet lines) (ref_fits format line (All-head (IsRefLine format) line lines h))
      (refs_fit format lines (All-tail (IsRefLine format) line lines h))

  head_fits : (target : List ℕ) → IsRefName target → Fits (text_packet (unborn_text target))
  unfolding unborn_text
  head_fits target named =
      omega (arith, length-append (unborn_text target) (line_feed ∷ []), length-append (codes "unborn HEAD symref-target:") target, name_within target named)

  unborn_fit : (unborn : Option (List ℕ)) → IfSome unborn IsRefName → All Fits (unborn_packets unborn)
  unborn_fit None h = All-nil Fits
  unborn_fit (Some target) h = All-cons Fits (text_packet (unborn_text target)) [] (head_fits target h) (All-nil Fits)

  end_fits : (ends : Ends) → All Fits (Flush ∷ ends_with ends)
  end_fits Plain = All-cons Fits Flush [] (omega arith) (All-nil Fits)
  end_fits Response = All-cons Fits Flush (ResponseEnd ∷ []) (omega arith) (All-cons Fits ResponseEnd [] (omega arith) (All-nil Fits))

  canonical_fits : (format : Format) (ends : Ends) (reply : LsReply) → IsLsReplyIn format reply → All Fits (canonical_reply ends reply)
  unfolding canonical_reply
  canonical_fits format ends reply h =
      All-append Fits (unborn_packets reply.unborn ++ map ref_packet reply.lines) (Flush ∷ ends_with ends)
      (All-append Fits (unborn_packets reply.unborn) (map ref_packet reply.lines) (unborn_fit reply.unborn h.unborn) (refs_fit format reply.lines h.lines))
      (end_fits ends)

  pub canonical_says_reply : (format : Format) (ends : Ends) → CanonicalSays (Says format ends) (IsLsReplyIn format) (IsCanonicalReply ends)
  canonical_says_reply format ends packets reply h canonical =
      subst (λ (all : List Packet). Says format ends all reply × All Fits all) (sym canonical) (
        words_say laws.words format laws.grammars ends (canonical_reply ends reply) reply (canonical_is_reply format ends reply h),
        canonical_fits format ends reply h,
      )
