-- The reply to an ls-refs request, sent line by line.
use Rattle.std.proofs.Common.{◌≡◌, ◌<◌, ◌≤◌, ◌+◌, ℕ, Bool, true, false, List, [], ◌∷◌, ◌++◌, length, map, drop, Option, refl, sym, ap, ◌∙◌, subst, arith, append_assoc, length-drop}
use Rattle.std.proofs.lemmas.List.{map-append, nil_from_length}
use Rattle.gpkt.specs.Packets.{Bytes, Packet, Flush, ResponseEnd, canonical, canonical_all}
use Rattle.ggrammar.specs.Endings.{ends_with}
use Rattle.ggrammar.specs.declared.ends.Ends.{Ends}
use Rattle.ggrammar.specs.declared.ends.Ends.TheVariants.{Plain, Response}
use Rattle.grefs.specs.RefLists.{RefList}
use Rattle.grequest.specs.Asked.{LsRefsAsked}
use Rattle.glsreply.specs.LsReplies.{LsReply, canonical_reply, ref_packet, unborn_packets}
use Rattle.glsreply.specs.RefTexts.{RefLine}
use Rattle.ganswer.specs.LsAnswers.{ShowsLines, head_id, head_ref, unborn_of}
use Rattle.ganswer.specs.Servers.{Server}
use Rattle.ganswer.proofs.LsLemmas.{shows_join, shows_none}
use Rattle.gserver.specs.PackSaying.{May}
use Rattle.gserver.specs.Listings.{SaysListing, SaysRefs, said_at_end, steps_of_listing}
use Rattle.gserver.specs.declared.listing.NextLine.TheVariants as next
use Rattle.gserver.specs.steps.RefLines.{SaysLines, SaysRefAt}
use Rattle.gserver.specs.steps.Stepping.{Advances, PutsSome}
use Rattle.gserver.proofs.StepLemmas.{last_one, puts_one}

-- ---- the packets of a reply

abbrev pub lines_and_ending : Ends → List RefLine → List Packet
lines_and_ending ends lines = map ref_packet lines ++ Flush ∷ ends_with ends

-- a reply consists of the packets of an unborn HEAD, if any, the lines, and the ending
pub answer_parts : (ends : Ends) (reply : LsReply) (unborn : Option (List ℕ)) → reply.unborn ≡ unborn → canonical_reply ends reply ≡ unborn_packets unborn ++ lines_and_ending ends reply.lines
unfolding canonical_reply
answer_parts ends reply unborn is =
    append_assoc (unborn_packets reply.unborn) (map ref_packet reply.lines) (Flush ∷ ends_with ends) ∙ ap (λ (o : Option (List ℕ)). unborn_packets o ++ lines_and_ending ends reply.lines) is

-- the packets of lines that are split into two parts
two_parts : (ends : Ends) (lines first second : List RefLine) → lines ≡ first ++ second → lines_and_ending ends lines ≡ map ref_packet first ++ lines_and_ending ends second
two_parts ends lines first second is =
    ap (lines_and_ending ends) is ∙ ap (λ (l : List Packet). l ++ Flush ∷ ends_with ends) (map-append ref_packet first second)
    ∙ append_assoc (map ref_packet first) (map ref_packet second) (Flush ∷ ends_with ends)

-- ---- the steps of a reply

-- queuing the last packet of a reply
ended : (goes_on : Bool) (packet : Packet) (old new : May) (steps_old steps_new : ℕ) (before out : Bytes)
    → out ≡ before ++ canonical packet → old (packet ∷ []) goes_on
    → Advances old new steps_old steps_new before out (said_at_end goes_on)
ended true packet old new steps_old steps_new before out is all = last_one packet old true before out is all
ended false packet old new steps_old steps_new before out is all = last_one packet old false before out is all

module _ {A : Type 0} (server : Server A) (asked : LsRefsAsked) (ends : Ends) (goes_on : Bool) where
  -- after the lines of `refs` are queued, the lines of `more` and the end of the reply remain
  lines_said : (refs more : RefList) (steps_old steps_new : ℕ) (before out : Bytes) → SaysLines server asked refs before out
      → steps_new < steps_old
      → PutsSome (SaysRefs server asked ends goes_on (refs ++ more)) (SaysRefs server asked ends goes_on more) steps_old steps_new before out
  lines_said refs more steps_old steps_new before out says less = record {
    said = map ref_packet says.lines;
    spelt = says.spelt;
    goes_on = λ rest goes h. record {
      lines = says.lines ++ h.lines;
      shows = shows_join server asked refs more says.lines h.lines says.shows h.shows;
      all = ap (λ l. map ref_packet says.lines ++ l) h.all ∙ sym (two_parts ends (says.lines ++ h.lines) says.lines h.lines refl);
      goes_so = h.goes_so;
    };
    nearer = less;
  }

  pub unborn_line_said : (before out : Bytes) → out ≡ before ++ canonical_all (unborn_packets (unborn_of server asked))
      → PutsSome (SaysListing server asked ends goes_on next.Unborn) (SaysListing server asked ends goes_on next.Head)
      (steps_of_listing server next.Unborn) (steps_of_listing server next.Head) before out
  unborn_line_said before out is = record {
    said = unborn_packets (unborn_of server asked);
    spelt = is;
    goes_on = λ rest goes h.
        let reply : LsReply = record { unborn = unborn_of server asked; lines = h.lines } in
        record {
          reply = reply;
          answers = record { lines = h.shows; unborn = refl };
          all = ap (λ l. unborn_packets (unborn_of server asked) ++ l) h.all ∙ sym (answer_parts ends reply (unborn_of server asked) refl);
          goes_so = h.goes_so;
        };
    nearer = omega arith;
  }

  pub head_line_said : (before out : Bytes) → SaysLines server asked (head_ref (head_id server.head server.refs)) before out
      → PutsSome (SaysListing server asked ends goes_on next.Head) (SaysListing server asked ends goes_on (next.Ref 0))
      (steps_of_listing server next.Head) (steps_of_listing server (next.Ref 0)) before out
  head_line_said before out says =
      lines_said (head_ref (head_id server.head server.refs)) server.refs (steps_of_listing server next.Head) (steps_of_listing server (next.Ref 0))
      before out says (omega arith)

  pub ref_said : (at : ℕ) (before out : Bytes) → SaysRefAt server asked at before out true
      → PutsSome (SaysListing server asked ends goes_on (next.Ref at)) (SaysListing server asked ends goes_on (next.Ref (at + 1)))
      (steps_of_listing server (next.Ref at)) (steps_of_listing server (next.Ref (at + 1))) before out
  ref_said at before out says =
      let less : at < length server.refs = says.0 in
      let some = lines_said (says.1.0 ∷ []) (drop (at + 1) server.refs) (steps_of_listing server (next.Ref at)) (steps_of_listing server (next.Ref (at + 1)))
      before out says.1.2 (omega (arith, less)) in
      subst (λ (refs : RefList). PutsSome (SaysRefs server asked ends goes_on refs) (SaysRefs server asked ends goes_on (drop (at + 1) server.refs))
      (steps_of_listing server (next.Ref at)) (steps_of_listing server (next.Ref (at + 1))) before out) (sym says.1.1) some

  -- ---- the end of the reply

  -- if no ref remains, the flush packet followed by `rest` completes the reply
  over : (at : ℕ) (rest : List Packet) (goes : Bool) → length server.refs ≤ at → rest ≡ ends_with ends → goes ≡ goes_on
      → SaysRefs server asked ends goes_on (drop at server.refs) (Flush ∷ rest) goes
  over at rest goes past is so =
      let none : drop at server.refs ≡ [] = nil_from_length (drop at server.refs) (omega (arith, length-drop at server.refs, past)) in
      record {
        lines = [];
        shows = subst (λ (refs : RefList). ShowsLines server asked refs []) (sym none) (shows_none server asked);
        all = ap (λ l. Flush ∷ l) is;
        goes_so = so;
      }

  pub flush_before_end : (at : ℕ) (before out put : Bytes) → SaysRefAt server asked at before out false → ends ≡ Response
      → put ≡ out ++ canonical Flush
      → PutsSome (SaysListing server asked ends goes_on (next.Ref at)) (SaysListing server asked ends goes_on next.ResponseEnd)
      (steps_of_listing server (next.Ref at)) 0 before put
  flush_before_end at before out put says response is =
      puts_one Flush _ _ _ _ before put (is ∙ ap (λ o. o ++ canonical Flush) says.1)
      (λ rest goes h. over at rest goes says.0 (h.0 ∙ ap ends_with (sym response)) h.1)
      (omega arith)

  pub flush_at_end : (at : ℕ) (before out put : Bytes) → SaysRefAt server asked at before out false → ends ≡ Plain
      → put ≡ out ++ canonical Flush
      → Advances (SaysListing server asked ends goes_on (next.Ref at)) (SaysListing server asked ends goes_on (next.Ref at))
      (steps_of_listing server (next.Ref at)) (steps_of_listing server (next.Ref at)) before put (said_at_end goes_on)
  flush_at_end at before out put says plain is =
      ended goes_on Flush (SaysListing server asked ends goes_on (next.Ref at)) (SaysListing server asked ends goes_on (next.Ref at))
      (steps_of_listing server (next.Ref at)) (steps_of_listing server (next.Ref at)) before put
      (is ∙ ap (λ o. o ++ canonical Flush) says.1) (over at [] goes_on says.0 (ap ends_with (sym plain)) refl)

  pub response_over : (before out : Bytes) → out ≡ before ++ canonical ResponseEnd
      → Advances (SaysListing server asked ends goes_on next.ResponseEnd) (SaysListing server asked ends goes_on next.ResponseEnd)
      0 0 before out (said_at_end goes_on)
  response_over before out is =
      ended goes_on ResponseEnd (SaysListing server asked ends goes_on next.ResponseEnd) (SaysListing server asked ends goes_on next.ResponseEnd)
      0 0 before out is (refl, refl)
