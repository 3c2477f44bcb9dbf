-- Each reply can be completed.
use Rattle.std.proofs.Common.{◌≡◌, ℕ, Bool, true, false, List, [], ◌∷◌, ◌++◌, codes, map, drop, take, Option, Some, None, refl, sym, ap, ◌∙◌, subst, append-nil, append_assoc}
use Rattle.std.proofs.lemmas.List.{take-append-drop}
use Rattle.gparts.specs.Parts.{Gives}
use Rattle.gpkt.specs.Packets.{Bytes, Packet, Delim, Flush, ResponseEnd}
use Rattle.ggrammar.specs.Capabilities.{Capability}
use Rattle.ggrammar.specs.Endings.{ends_with}
use Rattle.ggrammar.specs.Texts.{text_packet}
use Rattle.ggrammar.specs.declared.ends.Ends.{Ends}
use Rattle.ghello.specs.Adverts.{canonical_advert, capability_packet}
use Rattle.grefs.specs.RefLists.{RefList}
use Rattle.grequest.specs.Asked.{LsRefsAsked}
use Rattle.glsreply.specs.LsReplies.{canonical_reply, ref_packet}
use Rattle.glsreply.specs.RefTexts.{RefLine}
use Rattle.gfetchreply.specs.FetchReplies.{ack_packet, data_packet, heading_packet, pieces, ready_packet}
use Rattle.ganswer.specs.LsAnswers.{ShowsLines, all_refs, head_id, head_ref}
use Rattle.ganswer.specs.Servers.{Server}
use Rattle.ganswer.proofs.AnswerLemmas.{has_answer}
use Rattle.ganswer.proofs.LsLemmas.{split}
use Rattle.gserver.specs.ErrTexts.{error_packets}
use Rattle.gserver.specs.Greetings.{SaysGreeting}
use Rattle.gserver.specs.Listings.{SaysListing, SaysRefs}
use Rattle.gserver.specs.PackSaying.{May}
use Rattle.gserver.specs.Replying.{may_of}
use Rattle.gserver.specs.Saying.{SaysAfterAcks, SaysEnd, SaysFirst, SaysRest, SaysRestOfPack, SaysSection, acks_or_nak}
use Rattle.gserver.specs.declared.greeting.NextPart.{NextPart}
use Rattle.gserver.specs.declared.greeting.NextPart.TheVariants as part
use Rattle.gserver.specs.declared.lent.Lent.{Lent}
use Rattle.gserver.specs.declared.listing.NextLine.{NextLine}
use Rattle.gserver.specs.declared.listing.NextLine.TheVariants as next
use Rattle.gserver.specs.declared.reply.ServerReply.{ServerReply}
use Rattle.gserver.specs.declared.reply.ServerReply.TheVariants as reply
use Rattle.gserver.specs.declared.said.Rest.{Rest}
use Rattle.gserver.specs.declared.said.Rest.TheVariants as rest
use Rattle.gserver.specs.steps.Lending.{gives_lent, server_of}

-- some packets complete the reply
abbrev pub Completes : May → Type 0
Completes may = (packets : List Packet) × (goes : Bool) × may packets goes

greeting_completes : (at : NextPart) (capabilities : List Capability) → Completes (SaysGreeting at capabilities)
greeting_completes part.Version capabilities = (canonical_advert capabilities, true, (refl, refl))
greeting_completes (part.Capability at) capabilities = (map capability_packet (drop at capabilities) ++ Flush ∷ [], true, (refl, refl))

-- ---- an ls-refs reply

module _ {A : Type 0} (server : Server A) (asked : LsRefsAsked) (ends : Ends) (goes_on : Bool) where
  all_shown : (lines : List RefLine) × ShowsLines server asked (all_refs server) lines
  all_shown = let a = has_answer server asked in (a.0.lines, a.1.lines)

  rest_shown : (at : ℕ) → (lines : List RefLine) × ShowsLines server asked (drop at server.refs) lines
  rest_shown at =
      let all = all_shown in
      let head = head_ref (head_id server.head server.refs) in
      let front = head ++ take at server.refs in
      let parts : head ++ server.refs ≡ front ++ drop at server.refs =
      ap (λ (refs : RefList). head ++ refs) (sym (take-append-drop at server.refs)) ∙ sym (append_assoc head (take at server.refs) (drop at server.refs)) in
      let s = split server asked front (drop at server.refs) all.0 (subst (λ (refs : RefList). ShowsLines server asked refs all.0) parts all.1) in
      (s.second, s.right)

  refs_complete : (refs : RefList) (lines : List RefLine) → ShowsLines server asked refs lines → Completes (SaysRefs server asked ends goes_on refs)
  refs_complete refs lines shows =
      (map ref_packet lines ++ Flush ∷ ends_with ends, goes_on, record { lines = lines; shows = shows; all = refl; goes_so = refl })

  listing_completes : (at : NextLine) → Completes (SaysListing server asked ends goes_on at)
  listing_completes next.Unborn =
      let a = has_answer server asked in
      (canonical_reply ends a.0, goes_on, record { reply = a.0; answers = a.1; all = refl; goes_so = refl })
  listing_completes next.Head = let s = all_shown in refs_complete (all_refs server) s.0 s.1
  listing_completes (next.Ref at) = let s = rest_shown at in refs_complete (drop at server.refs) s.0 s.1
  listing_completes next.ResponseEnd = (ResponseEnd ∷ [], goes_on, (refl, refl))

-- ---- a fetch reply

first_completes : (front : List Packet) (may : May) → Completes may → Completes (SaysFirst front may)
first_completes front may (packets, goes, says) = (front ++ packets, goes, record { rest = packets; parts = refl; then = says })

end_completes : (ends : Ends) (goes_on : Bool) → Completes (SaysEnd ends goes_on)
end_completes ends goes_on = (Flush ∷ ends_with ends, goes_on, (refl, refl))

module _ {R P : Type 0} (gives : R → P → Gives) (some : (packer : R) (parts : P) → (bytes : Bytes) × gives packer parts bytes None)
    (ends : Ends) (goes_on : Bool) where
  pack_completes : (packer : R) (parts : P) → Completes (SaysRestOfPack ends goes_on (gives packer parts))
  pack_completes packer parts =
      let (bytes, given) = some packer parts in (
        map data_packet (pieces bytes) ++ Flush ∷ ends_with ends,
        goes_on,
        record {
          packets = map data_packet (pieces bytes);
          end = None;
          pack = record {
            sent = bytes;
            lost = [];
            given = subst (λ (b : Bytes). gives packer parts b None) (sym (append-nil bytes)) given;
            pieces = refl;
            all = λ none. refl;
          };
          ended = (refl, refl);
        },
      )

  section_completes : (packer : R) (parts : P) → Completes (SaysSection ends goes_on (gives packer parts))
  section_completes packer parts =
      first_completes (text_packet (codes "packfile") ∷ []) (SaysRestOfPack ends goes_on (gives packer parts)) (pack_completes packer parts)

  after_acks : (pack : Option (R × P)) → Completes (SaysAfterAcks gives ends goes_on pack)
  after_acks None = end_completes ends goes_on
  after_acks (Some pack) =
      first_completes (ready_packet ∷ Delim ∷ []) (SaysSection ends goes_on (gives pack.0 pack.1)) (section_completes pack.0 pack.1)

  rest_completes : {A : Type 0} (left : Rest A R P) → Completes (SaysRest gives ends goes_on left)
  rest_completes rest.Nothing = ([], false, (refl, refl))
  rest_completes (rest.Refusal text) = (error_packets text, false, (refl, refl))
  rest_completes (rest.AckHeading acks pack) =
      first_completes (heading_packet ∷ acks_or_nak acks.ids pack) (SaysAfterAcks gives ends goes_on pack) (after_acks pack)
  rest_completes (rest.Ack acks at pack) =
      first_completes (map ack_packet (drop at acks.ids)) (SaysAfterAcks gives ends goes_on pack) (after_acks pack)
  rest_completes rest.Nak = first_completes (text_packet (codes "NAK") ∷ []) (SaysEnd ends goes_on) (end_completes ends goes_on)
  rest_completes (rest.Delim packer parts) =
      first_completes (Delim ∷ []) (SaysSection ends goes_on (gives packer parts)) (section_completes packer parts)
  rest_completes (rest.PackHeading packer parts) = section_completes packer parts
  rest_completes (rest.Pack packer parts) = pack_completes packer parts
  rest_completes rest.Flush = end_completes ends goes_on
  rest_completes rest.ResponseEnd = (ResponseEnd ∷ [], goes_on, (refl, refl))

-- ---- any reply

pub reply_completes : {A : Type 0} (left : ServerReply A (Lent A) ℕ) → Completes (may_of server_of gives_lent left)
reply_completes (reply.Greeting greeting) = greeting_completes greeting.next greeting.advert
reply_completes (reply.Listing listing) =
    listing_completes (server_of listing.repo) listing.asked.asked listing.ends listing.goes_on listing.next
reply_completes (reply.Speech speech) =
    rest_completes gives_lent (λ lent given. (drop given lent.pack, (refl, refl))) speech.ends speech.goes_on speech.rest
