-- The answers of a server with a borrowed packer.
use Rattle.std.proofs.Common.{◌≡◌, ◌≢◌, ◌+◌, ◌-◌, ◌<◌, ◌≤◌, ℕ, Bool, true, false, List, [], ◌∷◌, ◌++◌, codes, length, map, drop, take, Option, Some, None, Result, Ok, Err, inl, inr, refl, sym, ap, ◌∙◌, subst, arith, append-nil, length-drop}
use Rattle.std.specs.Prelude.{nat_lt}
use Rattle.std.proofs.lemmas.Bool.{ltb-true}
use Rattle.std.proofs.lemmas.List.{nil_from_length, take_all}
use Rattle.gobject.specs.Packs.{PackFails, Packs}
use Rattle.gobject.specs.declared.fault.PackFault.{PackFault}
use Rattle.gobject.specs.declared.node.Entry.{Entry}
use Rattle.gname.specs.Ids.{Id}
use Rattle.gname.specs.Limits.{max_pack}
use Rattle.gname.specs.declared.formats.Format.{Format}
use Rattle.gparts.specs.Parts.{Begins, GivesPart}
use Rattle.gparts.specs.steps.Whole.{TakesSome}
use Rattle.gpkt.specs.Packets.{Bytes, Packet, Delim, Flush}
use Rattle.ggrammar.specs.Endings.{ends_with}
use Rattle.ggrammar.specs.Grammar.{IsWhole, Judge, Open, Whole}
use Rattle.ggrammar.specs.Limits.{profile}
use Rattle.ggrammar.specs.MessageReading.{IsReason, TakesPacket}
use Rattle.ggrammar.specs.declared.fault.Why.{Why}
use Rattle.ggrammar.specs.declared.message.Step.{Step}
use Rattle.ggrammar.specs.declared.message.Step.TheVariants as step
use Rattle.ggrammar.specs.Texts.{text_packet}
use Rattle.ggrammar.specs.declared.ends.Ends.{Ends}
use Rattle.grequest.specs.Asked.{Asked, Empty}
use Rattle.grequest.specs.RequestLines.{asked_by_lines}
use Rattle.grequest.specs.Requests.{Says, brings, judge}
use Rattle.grequest.specs.steps.RequestState.{HoldsPackets, LeavesNothing, RequestSoFar}
use Rattle.gfetchreply.specs.FetchReplies.{FetchReply, Acks, Pack, Ready, ack_packet, canonical_reply as fetch_packets, data_packet, heading_packet, nak_if_none, pieces, ready_packet}
use Rattle.ganswer.specs.Answers.{Answers, Reply}
use Rattle.ganswer.specs.OnePack.{OnePack, has_failed, packing_of_fault, packing_of_fetch}
use Rattle.ganswer.specs.Servers.{Server}
use Rattle.ganswer.specs.declared.fault.ServeFault.{ServeFault}
use Rattle.ganswer.specs.declared.one_pack.Packing.TheVariants.{Unasked}
use Rattle.gdialogue.specs.Sides.{HearsPacket, MayAnswer}
use Rattle.gdialogue.specs.declared.side.Answer.{Answer}
use Rattle.gdialogue.specs.declared.side.Answer.TheVariants as answer
use Rattle.gserver.specs.ErrTexts.{max_text}
use Rattle.gserver.specs.Exchanges.{Declines, reply_packets}
use Rattle.gserver.specs.PackSaying.{SaysPack}
use Rattle.gserver.specs.Refusals.{err_packets, max_err_text}
use Rattle.gserver.specs.Replying.{may_of}
use Rattle.gserver.specs.Saying.{EndsPack, SaysEnd, SaysFirst, SaysSection}
use Rattle.gserver.specs.declared.lent.Lent.{Lent}
use Rattle.gserver.specs.declared.lent_side.Closing.TheVariants as closes
use Rattle.gserver.specs.declared.lent_side.LentSide.{LentSide}
use Rattle.gserver.specs.declared.reply.ServerReply.{ServerReply}
use Rattle.gserver.specs.steps.Answering.{AnswersOf}
use Rattle.gserver.specs.steps.Lending.{AnswersLent, AsksPacker, ClosesAs, CountsReply, HearsRequest, IsReady, KeepsParts, gives_lent, gives_of, judge_lent, parts_of, server_of}
use Rattle.gserver.proofs.FetchLemmas.{acks_list, pack_list, ready_list, section}
use Rattle.gserver.proofs.SideLemmas.{judged_format, went_on}

-- ---- the pack of a reply

pub begins_held : {A : Type 0} (pack : Bytes) (list : List (Entry A)) → length pack ≤ max_pack
    → Begins (λ entries bytes. bytes ≡ pack) (λ entries fault. ⊥) list (gives_of pack 0) (length pack - 0)
begins_held pack list few = record {
  whole = λ bytes given. record { packed = given.0; few = omega (arith, few, ap length given.0) };
  failed = λ bytes fault given. absurd (cc given.1);
  few = omega (arith, few);
}

pub gives_none : (pack out : Bytes) (given : ℕ) → length pack ≤ given
    → GivesPart (gives_of pack given) (length pack - given) (gives_of pack given) (length pack - given) 0 out
gives_none pack out given past = record {
  fits = omega arith;
  part = λ rest end more h. absurd (omega (arith, more));
  few = λ more. absurd (omega (arith, more));
  whole = λ zero. (sym (nil_from_length (drop given pack) (omega (arith, length-drop given pack, past))), refl);
}

pub gives_some : (pack out : Bytes) (given count : ℕ) → TakesSome (drop given pack) (drop (given + count) pack) count out → given + count ≤ length pack
    → GivesPart (gives_of pack given) (length pack - given) (gives_of pack (given + count)) (length pack - (given + count)) count out
gives_some pack out given count takes few = record {
  fits = takes.fits;
  part = λ rest end more h. (ap (λ (r : Bytes). take count out ++ r) h.0 ∙ sym takes.parts, h.1);
  few = λ more. omega (arith, few);
  whole = λ zero. (sym (takes.all zero), refl);
}

-- ---- the text of a refusal

pub whole_words : (text new : Bytes) → length text ≤ max_err_text → new ≡ take max_text ([] ++ text) → new ≡ text
whole_words text new few is = is ∙ take_all max_text text (omega (arith, few))

-- ---- the packets of a fetch reply

module _ (ends : Ends) (goes_on : Bool) (whole : Bytes) where
  held_end : (packets : List Packet) (end : Option PackFault) (rest : List Packet) (goes : Bool) → SaysPack (gives_of whole 0) packets end
      → EndsPack ends goes_on packets end rest goes → (rest ≡ map data_packet (pieces whole) ++ Flush ∷ ends_with ends) × (goes ≡ goes_on)
  held_end packets None rest goes pack ended =
      let sent : pack.sent ≡ whole = sym (append-nil pack.sent) ∙ ap (λ (l : Bytes). pack.sent ++ l) (sym (pack.all refl)) ∙ pack.given.0 in
      (ended.0 ∙ ap (λ (l : List Packet). l ++ Flush ∷ ends_with ends) (pack.pieces ∙ ap (λ (b : Bytes). map data_packet (pieces b)) sent), ended.1)
  held_end packets (Some fault) rest goes pack ended = absurd (cc pack.given.1)

  held_section : (said : List Packet) (goes : Bool) → SaysSection ends goes_on (gives_of whole 0) said goes
      → (said ≡ section (map data_packet (pieces whole)) ends) × (goes ≡ goes_on)
  held_section said goes says =
      let h = held_end says.then.packets says.then.end says.rest goes says.then.pack says.then.ended in
      (says.parts ∙ ap (λ (l : List Packet). text_packet (codes "packfile") ∷ l) h.0, h.1)

  pub held_pack : (said : List Packet) (goes : Bool) → SaysSection ends goes_on (gives_of whole 0) said goes
      → (said ≡ fetch_packets ends (Pack whole)) × (goes ≡ goes_on)
  held_pack said goes says = let h = held_section said goes says in (h.0 ∙ pack_list ends whole, h.1)

  pub held_ready : (ids : List Id) (said : List Packet) (goes : Bool)
      → SaysFirst (heading_packet ∷ map ack_packet ids) (SaysFirst (ready_packet ∷ Delim ∷ []) (SaysSection ends goes_on (gives_of whole 0))) said goes
      → (said ≡ fetch_packets ends (Ready ids whole)) × (goes ≡ goes_on)
  held_ready ids said goes says =
      let h = held_section says.then.rest goes says.then.then in (
        says.parts ∙ ap (λ (l : List Packet). heading_packet ∷ (map ack_packet ids ++ l)) (says.then.parts ∙ ap (λ (l : List Packet). ready_packet ∷ Delim ∷ l) h.0)
            ∙ ready_list ends ids whole,
        h.1,
      )

pub held_acks : (ends : Ends) (goes_on : Bool) (ids : List Id) (said : List Packet) (goes : Bool)
    → SaysFirst (heading_packet ∷ nak_if_none (map ack_packet ids)) (SaysEnd ends goes_on) said goes
    → (said ≡ fetch_packets ends (Acks ids)) × (goes ≡ goes_on)
held_acks ends goes_on ids said goes says = (acks_list ends ids said says.rest says.parts says.then.0, says.then.1)

-- ---- the answer with a reply

module _ {A : Type 0} where
  abbrev MayLent : ServerReply A (Lent A) ℕ → List Packet → Bool → Type 0
  MayLent = may_of server_of gives_lent

  -- the packets and the end of a reply are also those of an answer with this reply
  pub says_so : (Says : List Packet → Type 0) (reply : ServerReply A (Lent A) ℕ) (goes_on : Bool) (result : Answer (ServerReply A (Lent A) ℕ))
      → ((said : List Packet) (goes : Bool) → MayLent reply said goes → Says said × (goes ≡ goes_on))
      → AnswersOf server_of gives_lent (Ok reply) goes_on result
      → (said : List Packet) (goes : Bool) → MayAnswer MayLent result said goes → Says said × (goes ≡ goes_on)
  says_so Says reply true result ok is said goes may =
      ok said goes (subst (λ (a : Answer (ServerReply A (Lent A) ℕ)). MayAnswer MayLent a said goes) is may)
  says_so Says reply false result ok is said goes may =
      let m = subst (λ (a : Answer (ServerReply A (Lent A) ℕ)). MayAnswer MayLent a said goes) is may in
      ((ok said m.1.0 m.1.1).0, m.0)

  -- if the dialogue continues after a reply, fewer requests are left
  pub fewer_so : {K : Type 0} (old new : LentSide A K) (made reply : ServerReply A (Lent A) ℕ) (goes_on : Bool) (result : Answer (ServerReply A (Lent A) ℕ))
      → goes_on ≡ nat_lt new.requests new.most → (new.requests < new.most → new.requests ≡ old.requests + 1) → new.most ≡ old.most
      → AnswersOf server_of gives_lent (Ok made) goes_on result → result ≡ answer.GoesOn reply
      → new.most - new.requests < old.most - old.requests
  fewer_so old new made reply goes_on result goes counts same is went =
      let w = went_on server_of gives_lent (Unit {0}) (Ok made) goes_on result reply tt is went in
      let less = ltb-true new.requests new.most (sym goes ∙ w.0) in
      omega (arith, less, counts less, same)

-- ---- the steps of a side

pub same_parts : {A K : Type 0} (once : K → OnePack K) (old new : LentSide A K) → KeepsParts once old new → parts_of once new ≡ parts_of once old
same_parts {A = A} {K = K} once old new keeps =
    ap (λ (s : Server A). record { server = s; packer = (once new.packer.now).packer; ends = new.ends; most = new.most }) keeps.server
    ∙ ap (λ (p : K). record { server = old.server.now; packer = p; ends = new.ends; most = new.most }) keeps.packer
    ∙ ap (λ (e : Ends). record { server = old.server.now; packer = (once old.packer.now).packer; ends = e; most = new.most }) keeps.ends
    ∙ ap (λ (n : ℕ). record { server = old.server.now; packer = (once old.packer.now).packer; ends = old.ends; most = n }) keeps.most

pub keeps_join : {A K : Type 0} (once : K → OnePack K) (a b c : LentSide A K) → KeepsParts once a b → KeepsParts once b c → KeepsParts once a c
keeps_join once a b c first next = record {
  server = next.server ∙ first.server;
  packer = next.packer ∙ first.packer;
  in_place = next.in_place ∙ first.in_place;
  ends = next.ends ∙ first.ends;
  most = next.most ∙ first.most;
}

pub keeps_all : {A K : Type 0} (once : K → OnePack K) (side : LentSide A K) → AsksPacker once side side
keeps_all once side = record {
  earlier = refl;
  requests = refl;
  closing = refl;
  keeps = record { server = refl; packer = refl; in_place = refl; ends = refl; most = refl };
}

-- a fetch reply shows that the packer has not failed
pub never_failed : (reply : FetchReply) → has_failed (packing_of_fetch reply) ≡ false
never_failed (Acks ids) = refl
never_failed (Ready ids pack) = refl
never_failed (Pack pack) = refl

-- the packets of a complete message are a request
pub says_request : (format : Format) (message : RequestSoFar) (lines : List Packet) (asked : Asked)
    → judge message.limits message.format ≡ judge profile format → IsWhole (judge profile format) lines
    → asked ≡ asked_by_lines message.format lines → Says profile format lines asked
says_request format message lines asked judged whole is = record {
  whole = whole;
  asks = is ∙ ap (λ (f : Format). asked_by_lines f lines) (judged_format message.limits profile message.format format judged);
}

-- a message of the side, with one more packet
module _ {A K : Type 0} (side : LentSide A K) (old new : RequestSoFar) (front : List Packet) (packet : Packet) where
  pub hears_request : (result : Result Step Why) → HearsRequest side old front → judge new.limits new.format ≡ judge old.limits old.format
      → TakesPacket (judge old.limits old.format) brings HoldsPackets LeavesNothing front packet new result
      → HearsPacket (judge_lent side) brings (HearsRequest side) front packet new result
  hears_request (Ok step.Open) hears judged takes =
      (subst (λ (j : Judge). j front packet ≡ Open) hears.judged takes.0, record { judged = judged ∙ hears.judged; held = takes.1 })
  hears_request (Ok step.Whole) hears judged takes =
      (subst (λ (j : Judge). j front packet ≡ Whole) hears.judged takes.0, record { judged = judged ∙ hears.judged; held = takes.1 })
  hears_request (Err why) hears judged takes =
      (subst (λ (j : Judge). IsReason (j front packet) (brings front packet) why) hears.judged takes.0, tt)

module _ {A K : Type 0} (once : K → OnePack K) (packs : K → Packs A) (fails : K → PackFails A) (old : LentSide A K) (asked : Asked) (lines said : List Packet) (goes : Bool)
    (says : Says profile old.server.now.graph.format lines asked) where
  pub replied : (mid new : LentSide A K) (answer : Reply) → AsksPacker once old mid → CountsReply once mid new → asked ≢ Empty
      → (IsReady once old → (once mid.packer.now).answered ≡ Unasked) → (IsReady once old → Answers old.server.now (packs (once old.packer.now).packer) asked answer)
      → said ≡ reply_packets old.ends answer → goes ≡ nat_lt new.requests new.most
      → AnswersLent once packs fails old lines said goes new
  replied mid new answer asks counts some unasked answers all goes_so = record {
    keeps = keeps_join once old mid new asks.keeps counts.keeps;
    earlier = counts.earlier ∙ asks.requests;
    answers = λ ready. record {
      asked = asked;
      says = says;
      answers = inl (record {
        answer = answer;
        asks = some;
        answers = answers ready;
        all = all;
        goes_so = goes_so;
        count = counts.counts (omega (arith, asks.requests, asks.keeps.most, ready.room)) ∙ ap (λ (n : ℕ). n + 1) asks.requests;
        unclosed = counts.closing ∙ asks.closing ∙ ready.unclosed;
        unasked = ap (λ (p : K). (once p).answered) counts.packer ∙ unasked ready;
      });
    };
  }

  pub closed : (new : LentSide A K) → asked ≡ Empty → ClosesAs once closes.Closed old new → said ≡ [] → goes ≡ false
      → AnswersLent once packs fails old lines said goes new
  closed new empty h all ended = record {
    keeps = h.keeps;
    earlier = h.earlier;
    answers = λ ready. record {
      asked = asked;
      says = says;
      answers = inr (inl (record {
        empty = empty;
        all = all;
        ended = ended;
        count = h.requests;
        closing = h.closing;
        unasked = ap (λ (p : K). (once p).answered) h.packer ∙ ready.unasked;
      }));
    };
  }

  pub declined : (mid new : LentSide A K) (fault : ServeFault) → AsksPacker once old mid → ClosesAs once (closes.Refused fault) mid new
      → (IsReady once old → Declines old.server.now (fails (once old.packer.now).packer) asked fault)
      → (IsReady once old → (once mid.packer.now).answered ≡ packing_of_fault fault)
      → said ≡ err_packets fault → goes ≡ false → AnswersLent once packs fails old lines said goes new
  declined mid new fault asks h declines packing all ended = record {
    keeps = keeps_join once old mid new asks.keeps h.keeps;
    earlier = h.earlier ∙ asks.requests;
    answers = λ ready. record {
      asked = asked;
      says = says;
      answers = inr (inr (record {
        fault = fault;
        declines = declines ready;
        all = all;
        ended = ended;
        count = h.requests ∙ asks.requests;
        closing = h.closing;
        packing = ap (λ (p : K). (once p).answered) h.packer ∙ packing ready;
      }));
    };
  }
