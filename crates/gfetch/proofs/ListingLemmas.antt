-- A listing's dialogue, and its end as the result of a listing.
use Rattle.std.proofs.Common.{◌≡◌, ◌≢◌, ◌⊎◌, ◌∙◌, ◌<◌, ◌^◌, Bool, true, false, List, [], ◌∷◌, ◌++◌, length, Option, None, Result, Ok, Err, IfErr, IfOk, inl, inr, refl, sym, ap, subst, arith, append-nil}
use Rattle.std.specs.Io.KnownBytes.{Appends, Consumes}
use Rattle.gname.specs.declared.formats.Format.{Format}
use Rattle.gpkt.specs.Devices.{KeepsPassed}
use Rattle.gpkt.specs.Packets.{Bytes, Packet, canonical_all}
use Rattle.gpkt.specs.Sending.{Input, Output, IsUnwritten, Passes, rest_of}
use Rattle.ggrammar.specs.Grammar.{HasEndings, IsOpen, Judge, LawsOf}
use Rattle.ggrammar.specs.MessageReading.{TakesPacket}
use Rattle.ggrammar.specs.declared.ends.Ends.{Ends}
use Rattle.ggrammar.specs.declared.ends.Ends.TheVariants.{Plain}
use Rattle.ggrammar.specs.declared.fault.MessageFault.{MessageFault}
use Rattle.ggrammar.specs.declared.fault.Why.{Why}
use Rattle.ggrammar.specs.declared.message.Step.{Step}
use Rattle.ghello.specs.Adverts as advert
use Rattle.ghello.specs.declared.advert.AdvertReader.{AdvertReader}
use Rattle.ghello.specs.steps.AdvertReading.{IsKept}
use Rattle.ghello.proofs.Manual as advert_proofs
use Rattle.glsreply.specs.LsReplies as ls
use Rattle.glsreply.specs.declared.reader.LsReplyReader.{LsReplyReader}
use Rattle.glsreply.specs.steps.ReplyState.{Holds}
use Rattle.glsreply.proofs.TableLemmas as ls_proofs
use Rattle.grequest.specs.Asked.{Empty, Ls}
use Rattle.grequest.specs.Building.{LimitedLsRefs}
use Rattle.gtalk.specs.Connections.{HasSent, IsDownBy, PassesBytes, Spelt}
use Rattle.gtalk.specs.Partial.{LeavesSource}
use Rattle.gtalk.specs.declared.conversation.Stop.{Stop}
use Rattle.gtalk.specs.declared.fault.TalkFault.{TalkFault}
use Rattle.gtalk.specs.declared.fault.TalkFault.TheVariants.{Io, Memory}
use Rattle.gdialogue.specs.Dialogues.{Answered, HasReplied, IsRefused}
use Rattle.gdialogue.specs.Dialogues as dialogue
use Rattle.gdialogue.specs.Running.{BreaksBy, HasRun, Leaves, Receives}
use Rattle.gdialogue.specs.Sides.{HearsPacket}
use Rattle.gdialogue.proofs.Receiving.{reads_heard, reads_parts, refuses_at}
use Rattle.gfetch.specs.Conversations.{IsLeft, RefusesToRead, request_bytes}
use Rattle.gfetch.specs.Listings.{FailsToList, FitsNone, HasHeard, Lists, ReadsReply, RefusesReply, asked_of, asking_bytes, ending_bytes}
use Rattle.gfetch.specs.Listings as listing
use Rattle.gfetch.specs.declared.fault.FetchFault.{FetchFault}
use Rattle.gfetch.specs.declared.fault.FetchFault.TheVariants as fetch
use Rattle.gfetch.specs.declared.listing.ListHeard.{ListHeard}
use Rattle.gfetch.specs.declared.listing.ListHeard.TheVariants as heard
use Rattle.gfetch.specs.declared.listing.ListSide.{ListSide}
use Rattle.gfetch.specs.declared.listing.ListStage.{ListStage}
use Rattle.gfetch.specs.declared.listing.ListStage.TheVariants.{Asks, Reads}
use Rattle.gfetch.specs.steps.Listing.{AnswersAt, AnswersList, AsksRefs, EndsList, EndsListing, FitsNoClient, HearsAt, OpensList, RefusesList, brings_at, judge_at, listed_result}
use Rattle.gfetch.proofs.EndLemmas.{longer, passes_by, some_request, unwritten_by}
use Rattle.gfetch.proofs.HeardLemmas.{takes_into}
use Rattle.gfetch.proofs.TalkLemmas.{not_both}

-- ---- a message

-- each open list of packets is short
pub list_is_short : {A : Type 0} (stage : ListStage A) (front : List Packet) → IsOpen (judge_at stage) front → length front < 2 ^ 60
list_is_short (Asks asked) front goes = advert_proofs.open_is_short front goes
list_is_short (Reads format) front goes = ls_proofs.is_bounded format Plain front goes

module _ {A : Type 0} (front : List Packet) (packet : Packet) (result : Result Step Why) where
  abbrev HearsIt : ListStage A → ListHeard A → Type 0
  HearsIt stage now = HearsPacket (judge_at stage) (brings_at stage) (HearsAt stage) front packet now result

  abbrev TakesAdvert : AdvertReader A → AdvertReader A → Type 0
  TakesAdvert old new = IsOpen advert.judge front → IsKept front old.has_version old.advert
      → TakesPacket advert.judge advert.brings (λ (r : AdvertReader A) packets. IsKept packets r.has_version r.advert) (λ r packets. Unit {0}) front packet new result

  -- the advertisement with one more packet
  pub list_hears_advert : (stage : ListStage A) (old new : AdvertReader A) → IsOpen (judge_at stage) front
      → HearsAt stage (heard.Advert old) front → TakesAdvert old new → HearsIt stage (heard.Advert new)
  list_hears_advert (Asks asked) old new goes held takes =
      takes_into advert.judge advert.brings (λ (r : AdvertReader A) packets. IsKept packets r.has_version r.advert) (λ r packets. Unit {0})
      (HearsAt {A = A} (Asks asked)) front packet new (heard.Advert new) result (takes goes held) (λ k. k)
  list_hears_advert (Reads format) old new goes held takes = absurd held

  abbrev TakesRefs : Format → Ends → LsReplyReader A → LsReplyReader A → Type 0
  TakesRefs format ends old new = IsOpen (ls.judge format ends) front → Holds old front
      → TakesPacket (ls.judge format ends) ls.brings Holds (λ reply packets. Unit {0}) front packet new result

  -- the reply with one more packet
  pub list_hears_refs : (stage : ListStage A) (old new : LsReplyReader A) → IsOpen (judge_at stage) front
      → HearsAt stage (heard.Refs old) front → new.format ≡ old.format → new.ends ≡ old.ends
      → TakesRefs old.format old.ends old new → HearsIt stage (heard.Refs new)
  list_hears_refs (Asks asked) old new goes held format ends takes = absurd held
  list_hears_refs (Reads own) old new goes held format ends takes =
      let there = subst (λ (e : Ends). TakesRefs own e old new) held.1 (subst (λ (f : Format). TakesRefs f old.ends old new) held.0 takes) in
      takes_into (ls.judge own Plain) ls.brings Holds (λ reply packets. Unit {0})
      (HearsAt {A = A} (Reads own)) front packet new (heard.Refs new) result (there goes held.2)
      (λ k. (format ∙ held.0, ends ∙ held.1, k))

-- the reply that a stage reads has one object format
pub reads_same : {A : Type 0} (stage : ListStage A) (one other : Format) → stage ≡ Reads one → stage ≡ Reads other → one ≡ other
reads_same stage one other is also = cc (is, also)

-- ---- the dialogue so far

module _ {A : Type 0} (first : ListSide A) (asked : LimitedLsRefs) (fresh : first.stage ≡ Asks asked) where
  -- the client has received no message, or it waits for the reply
  data ListTalk : List Packet → List Packet → ListSide A → Type 0 where
    begun : ListTalk [] [] first
    waits : (lines said : List Packet) (now : ListSide A) → AsksRefs lines said true now asked.asked → ListTalk lines said now

  abbrev ListAnswered : List Packet → List Packet → ListSide A → Type 0
  ListAnswered = Answered (λ (s : ListSide A). judge_at s.stage) (λ (s : ListSide A). brings_at s.stage) OpensList AnswersList RefusesList first

  abbrev ListReplied : List Packet → Option Stop → List Packet → List Packet → Bool → ListSide A → Type 0
  ListReplied = HasReplied (λ (s : ListSide A). judge_at s.stage) (λ (s : ListSide A). brings_at s.stage) OpensList AnswersList RefusesList first

  first_answer : (lines said : List Packet) (goes : Bool) (now : ListSide A) → AnswersList first lines said goes now
      → AsksRefs lines said goes now asked.asked ⊎ FitsNoClient lines said goes now
  first_answer lines said goes now is = subst (AnswersAt lines said goes now) fresh is

  next_answer : (lines said reply_lines reply : List Packet) (goes : Bool) (mid now : ListSide A) (a : AsksRefs lines said true mid asked.asked)
      → AnswersList mid reply_lines reply goes now → EndsList reply_lines reply goes now a.format
  next_answer lines said reply_lines reply goes mid now a is = subst (AnswersAt reply_lines reply goes now) a.now is

  more_talk : (heard said lines reply : List Packet) (mid now : ListSide A) → ListTalk heard said mid → AnswersList mid lines reply true now
      → ListTalk (heard ++ lines) (said ++ reply) now
  more_talk heard said lines reply mid now begun answers =
      elim (first_answer lines reply true now answers) as (λ _. ListTalk lines reply now) [
        | inl a ↦ waits lines reply now a
        | inr misfit ↦ not_both misfit.ended
      ]
  more_talk heard said lines reply mid now (waits so_far so_said there a) answers =
      not_both (next_answer so_far so_said lines reply true there now a answers).ended

  list_talks : (heard said : List Packet) (now : ListSide A) → ListAnswered heard said now → ListTalk heard said now
  list_talks heard said now (dialogue.Answered.opened packets h) = subst (λ (l : List Packet). ListTalk [] l first) (sym h.1.0) begun
  list_talks heard said now (dialogue.Answered.more so_far so_said lines reply mid last before whole answers) =
      more_talk so_far so_said lines reply mid last (list_talks so_far so_said mid before) answers

  -- ---- the bytes read

  module _ (laws : (judge : Judge) → LawsOf judge) (advert_endings : HasEndings advert.judge)
      (refs_endings : (format : Format) (ends : Ends) → HasEndings (ls.judge format ends)) (input : Input) (output : Output) where
    abbrev FailsSo : FetchFault A → Type 0
    FailsSo = FailsToList asked.asked {A = A} input output

    -- the client has read the advertisement, and nothing after it
    heard_left : (lines said : List Packet) (goes : Bool) (now : ListSide A) (stopped : Option Stop) (a : AsksRefs lines said goes now asked.asked) → stopped ≡ None
        → Receives lines stopped input.read input.is_down → HasHeard input a.format a.capabilities IsLeft
    heard_left lines said goes now stopped a none r =
        let source = subst (λ (s : Option Stop). LeavesSource s input.read.new input.is_down) none r.leaves.source in record {
          packets = lines;
          advertises = a.advertises;
          between = input.read.new;
          read = reads_heard input.read r.more r.partial lines r.consumed r.spelt (r.leaves.clean none);
          rest = record { unread = refl; up = source };
        }

    -- the client has read the advertisement, and `Rest` holds for the rest
    heard_then : (lines said reply_lines : List Packet) (now : ListSide A) (stopped : Option Stop) (a : AsksRefs lines said true now asked.asked) (Rest : Input → Type 0)
        → Receives (lines ++ reply_lines) stopped input.read input.is_down
        → ((between : Option Bytes) (rest partial : Bytes) → Consumes between input.read.new rest → Spelt reply_lines partial rest
        → Leaves stopped partial input.read.new input.is_down → Rest (rest_of input between))
        → HasHeard input a.format a.capabilities Rest
    heard_then lines said reply_lines now stopped a Rest r then =
        let p = reads_parts input.read r.more r.partial lines reply_lines r.consumed r.spelt in record {
          packets = lines;
          advertises = a.advertises;
          between = p.0;
          read = p.2;
          rest = then p.0 p.1 r.partial p.3 p.4 r.leaves;
        }

    -- the client has read the advertisement and the complete reply
    heard_reply : (lines said reply_lines reply : List Packet) (goes : Bool) (mid now : ListSide A) (stopped : Option Stop) (a : AsksRefs lines said true mid asked.asked)
        → (e : EndsList reply_lines reply goes now a.format) → stopped ≡ None → Receives (lines ++ reply_lines) stopped input.read input.is_down
        → HasHeard input a.format a.capabilities (λ (rest : Input). ReadsReply a.format rest e.reply)
    heard_reply lines said reply_lines reply goes mid now stopped a e none r =
        heard_then lines said reply_lines mid stopped a (λ (rest : Input). ReadsReply a.format rest e.reply) r
        (λ between rest partial consumed spelt leaves. record {
          packets = reply_lines;
          lines = reads_heard (record { old = between; new = input.read.new }) rest partial reply_lines consumed spelt (leaves.clean none);
          says = e.says;
          up = subst (λ (s : Option Stop). LeavesSource s input.read.new input.is_down) none leaves.source;
        })

    -- a packet of the advertisement was unreadable or rejected
    refused_advert : (lines : List Packet) (stopped : Option Stop) (cause : MessageFault) → IsRefused (judge_at first.stage) (brings_at first.stage) lines stopped cause
        → Receives lines stopped input.read input.is_down → RefusesToRead input cause
    refused_advert lines stopped cause is r =
        let here = subst (λ (s : ListStage A). IsRefused (judge_at s) (brings_at s) lines stopped cause) fresh is in
        let a = refuses_at advert.judge advert.brings (laws advert.judge) advert_endings input.read r.more r.partial lines stopped cause input.is_down r.consumed r.spelt r.leaves here in
        record { front = a.front; refused = a.refused; source = a.source }

    -- a packet of the reply was unreadable or rejected
    refused_reply : (lines said reply_lines : List Packet) (now : ListSide A) (stopped : Option Stop) (cause : MessageFault) (a : AsksRefs lines said true now asked.asked)
        → IsRefused (judge_at now.stage) (brings_at now.stage) reply_lines stopped cause
        → Receives (lines ++ reply_lines) stopped input.read input.is_down
        → HasHeard input a.format a.capabilities (λ (rest : Input). RefusesReply a.format rest cause)
    refused_reply lines said reply_lines now stopped cause a is r =
        let here = subst (λ (s : ListStage A). IsRefused (judge_at s) (brings_at s) reply_lines stopped cause) a.now is in
        heard_then lines said reply_lines now stopped a (λ (rest : Input). RefusesReply a.format rest cause) r
        (λ between rest partial consumed spelt leaves.
        let b = refuses_at (ls.judge a.format Plain) ls.brings (laws (ls.judge a.format Plain)) (refs_endings a.format Plain)
        (record { old = between; new = input.read.new }) rest partial reply_lines stopped cause input.is_down consumed spelt leaves here in
        record { front = b.front; refused = b.refused; source = b.source })

    -- ---- the end of a dialogue that ran

    module _ (sent : Bool) (Untouched : Type 0) (untouched : Untouched → IsUnwritten output) where
      abbrev Flushed : Bytes → Type 0
      Flushed bytes = HasSent sent bytes output.written output.passed_on output.is_down Untouched

      abbrev Wrote : Bytes → Type 0
      Wrote bytes = Appends output.written.old output.written.new bytes

      -- nothing was sent
      none_sent : (reply : List Packet) → Flushed (canonical_all [] ++ canonical_all reply) → reply ≡ [] → IsUnwritten output
      none_sent reply flushed none =
          unwritten_by output Untouched untouched sent (subst (λ (l : List Packet). Flushed (canonical_all l)) none flushed)

      -- exactly the request was sent
      asked_sent : (lines said reply : List Packet) (now : ListSide A) (a : AsksRefs lines said true now asked.asked) → Flushed (canonical_all said ++ canonical_all reply)
          → Wrote (canonical_all said ++ canonical_all reply) → reply ≡ [] → Passes output (asking_bytes a.format a.capabilities asked.asked)
      asked_sent lines said reply now a flushed wrote none =
          let asking = Ls (asked_of a.capabilities asked.asked) in
          let bytes : canonical_all said ++ canonical_all reply ≡ request_bytes a.format asking =
          ap (λ (l : List Packet). canonical_all said ++ canonical_all l) none ∙ append-nil (canonical_all said) ∙ ap canonical_all a.all in
          passes_by output Untouched sent (request_bytes a.format asking) (some_request a.format asking) (subst Flushed bytes flushed) (subst Wrote bytes wrote)

      -- the request and the lone flush packet were sent
      all_sent : (lines said reply_lines reply : List Packet) (goes : Bool) (mid now : ListSide A) (a : AsksRefs lines said true mid asked.asked)
          → EndsList reply_lines reply goes now a.format → Flushed (canonical_all said ++ canonical_all reply)
          → Wrote (canonical_all said ++ canonical_all reply) → Passes output (asking_bytes a.format a.capabilities asked.asked ++ ending_bytes a.format)
      all_sent lines said reply_lines reply goes mid now a e flushed wrote =
          let asking = request_bytes a.format (Ls (asked_of a.capabilities asked.asked)) in
          let bytes : canonical_all said ++ canonical_all reply ≡ asking ++ ending_bytes a.format =
          ap (λ (l : List Packet). canonical_all l ++ canonical_all reply) a.all ∙ ap (λ (l : List Packet). asking ++ canonical_all l) e.all in
          passes_by output Untouched sent (asking ++ ending_bytes a.format) (longer asking (ending_bytes a.format) (some_request a.format Empty))
          (subst Flushed bytes flushed) (subst Wrote bytes wrote)

      abbrev ListsSo : Result ls.LsReply MessageFault → Type 0
      ListsSo listed = Lists asked.asked {A = A} input output (listed_result listed)

      ran_answered : (so_far so_said lines reply : List Packet) (mid now : ListSide A) → ListTalk so_far so_said mid → AnswersList mid lines reply false now
          → Receives (so_far ++ lines) None input.read input.is_down → Flushed (canonical_all so_said ++ canonical_all reply)
          → Wrote (canonical_all so_said ++ canonical_all reply) → ListsSo now.listed
      ran_answered so_far so_said lines reply mid now begun answers r flushed wrote =
          elim (first_answer lines reply false now answers) as (λ _. ListsSo now.listed) [
            | inl a ↦ not_both (sym a.goes_on)
            | inr misfit ↦
                let source : LeavesSource None input.read.new input.is_down = r.leaves.source in
                let none : FitsNone input misfit.cause = record {
                  packets = lines;
                  capabilities = misfit.capabilities;
                  lines = reads_heard input.read r.more r.partial lines r.consumed r.spelt (r.leaves.clean refl);
                  says = misfit.says;
                  why = misfit.why;
                  frame = misfit.frame;
                  up = source;
                } in
                subst ListsSo (sym misfit.listed) (listing.cannot_hear misfit.cause (inr none) (none_sent reply flushed misfit.all))
          ]
      ran_answered so_far so_said lines reply mid now (waits heard said there a) answers r flushed wrote =
          let e = next_answer heard said lines reply false there now a answers in
          subst ListsSo (sym e.listed) (record {
            format = a.format;
            capabilities = a.capabilities;
            read = heard_reply heard said lines reply false there now None a e refl r;
            passed = all_sent heard said lines reply false there now a e flushed wrote;
          })

      ran_refused : (so_far so_said lines reply : List Packet) (stopped : Option Stop) (cause : MessageFault) (mid now : ListSide A) → ListTalk so_far so_said mid
          → IsRefused (judge_at mid.stage) (brings_at mid.stage) lines stopped cause → RefusesList mid cause reply now
          → Receives (so_far ++ lines) stopped input.read input.is_down → Flushed (canonical_all so_said ++ canonical_all reply)
          → Wrote (canonical_all so_said ++ canonical_all reply) → ListsSo now.listed
      ran_refused so_far so_said lines reply stopped cause mid now begun is h r flushed wrote =
          subst ListsSo (sym h.0) (listing.cannot_hear cause (inl (refused_advert lines stopped cause is r)) (none_sent reply flushed h.1))
      ran_refused so_far so_said lines reply stopped cause mid now (waits heard said there a) is h r flushed wrote =
          subst ListsSo (sym h.0)
          (listing.cannot_take a.format a.capabilities cause (refused_reply heard said lines there stopped cause a is r)
          (asked_sent heard said reply there a flushed wrote h.1))

      list_ran : (heard : List Packet) (stopped : Option Stop) (earlier reply : List Packet) (goes : Bool) (now : ListSide A) → ListReplied heard stopped earlier reply goes now
          → goes ≡ false → Receives heard stopped input.read input.is_down → Flushed (canonical_all earlier ++ canonical_all reply)
          → Wrote (canonical_all earlier ++ canonical_all reply) → ListsSo now.listed
      list_ran heard stopped earlier reply goes now (dialogue.HasReplied.opened said on h) ended r flushed wrote = not_both (sym h.1.1 ∙ ended)
      list_ran heard stopped earlier reply goes now (dialogue.HasReplied.answered so_far so_said lines said on mid last a w h) ended r flushed wrote =
          ran_answered so_far so_said lines said mid last (list_talks so_far so_said mid a)
          (subst (λ (g : Bool). AnswersList mid lines said g last) ended h) r flushed wrote
      list_ran heard stopped earlier reply goes now (dialogue.HasReplied.refused so_far so_said lines said why fault mid last a is h) ended r flushed wrote =
          ran_refused so_far so_said lines said why fault mid last (list_talks so_far so_said mid a) is h r flushed wrote

    -- ---- a sink that failed

    module _ (front back : Bytes) (down : output.is_down ≡ true) where
      abbrev Passed : Bytes → Type 0
      Passed bytes = ((bytes ≡ []) × KeepsPassed output.passed_on) ⊎ ((0 < length bytes) × PassesBytes bytes output.written output.passed_on)

      kept_before : Passed [] → KeepsPassed output.passed_on
      kept_before (inl kept) = kept.1
      kept_before (inr some) = absurd (omega (arith, some.0))

      passed_before : (bytes : Bytes) → 0 < length bytes → Passed bytes → PassesBytes bytes output.written output.passed_on
      passed_before [] some passed = absurd (omega (arith, some))
      passed_before (byte ∷ bytes) some (inl kept) = absurd (cc kept.0)
      passed_before (byte ∷ bytes) some (inr passed) = passed.1

      broken_answered : (so_far so_said lines reply : List Packet) (goes : Bool) (mid now : ListSide A) → ListTalk so_far so_said mid → AnswersList mid lines reply goes now
          → reply ≢ [] → Receives (so_far ++ lines) None input.read input.is_down → canonical_all reply ≡ front ++ back
          → Appends output.written.old output.written.new (canonical_all so_said ++ front) → Passed (canonical_all so_said) → FailsSo fetch.WriteFailed
      broken_answered so_far so_said lines reply goes mid now begun answers some r due wrote passed =
          elim (first_answer lines reply goes now answers) as (λ _. FailsSo fetch.WriteFailed) [
            | inl a ↦
                listing.cannot_ask a.format a.capabilities (heard_left lines reply goes now None a refl r) (
                  record { front = front; rest = back; parts = sym (ap canonical_all a.all) ∙ due; written = wrote; down = down },
                  kept_before passed,
                )
            | inr misfit ↦ absurd (some misfit.all)
          ]
      broken_answered so_far so_said lines reply goes mid now (waits heard said there a) answers some r due wrote passed =
          let e = next_answer heard said lines reply goes there now a answers in
          let asking = request_bytes a.format (Ls (asked_of a.capabilities asked.asked)) in
          let bytes : canonical_all said ≡ asking = ap canonical_all a.all in
          listing.cannot_end a.format a.capabilities e.reply (heard_reply heard said lines reply goes there now None a e refl r) (record {
            front = front;
            rest = back;
            parts = sym (ap canonical_all e.all) ∙ due;
            written = subst (λ (b : Bytes). Appends output.written.old output.written.new (b ++ front)) bytes wrote;
            passed_on = passed_before asking (some_request a.format (Ls (asked_of a.capabilities asked.asked))) (subst Passed bytes passed);
            down = down;
          })

      list_broke : (heard : List Packet) (stopped : Option Stop) (earlier reply : List Packet) (goes : Bool) (now : ListSide A) → ListReplied heard stopped earlier reply goes now
          → reply ≢ [] → Receives heard stopped input.read input.is_down → canonical_all reply ≡ front ++ back
          → Appends output.written.old output.written.new (canonical_all earlier ++ front) → Passed (canonical_all earlier) → FailsSo fetch.WriteFailed
      list_broke heard stopped earlier reply goes now (dialogue.HasReplied.opened said on h) some r due wrote passed = absurd (some h.1.0)
      list_broke heard stopped earlier reply goes now (dialogue.HasReplied.answered so_far so_said lines said on mid last a w h) some r due wrote passed =
          broken_answered so_far so_said lines said on mid last (list_talks so_far so_said mid a) h some r due wrote passed
      list_broke heard stopped earlier reply goes now (dialogue.HasReplied.refused so_far so_said lines said why fault mid last a is h) some r due wrote passed =
          absurd (some h.1)

    -- ---- the end of the dialogue

    abbrev Ran : Bool → ListSide A → Type 0 → Type 0
    Ran sent now Untouched = HasRun (λ (s : ListSide A). judge_at s.stage) (λ (s : ListSide A). brings_at s.stage) OpensList AnswersList RefusesList
        sent first now input.read output.written output.passed_on input.is_down output.is_down Untouched

    abbrev Broke : TalkFault → ListSide A → Type 0
    Broke fault now = BreaksBy (λ (s : ListSide A). judge_at s.stage) (λ (s : ListSide A). brings_at s.stage) OpensList AnswersList RefusesList
        fault first now input.read output.written output.passed_on input.is_down

    broke_ends : (fault : TalkFault) (now : ListSide A) → IsDownBy {T = Bool} (Err fault) output.was_down output.is_down → Broke fault now → FailsSo fetch.WriteFailed
    broke_ends Io now down h =
        list_broke h.front h.back down h.heard h.stopped h.earlier h.reply h.goes now h.replied h.some h.receives h.due h.wrote h.passed
    broke_ends Memory now down h = absurd h

    pub listing_ends : (result : Result Bool TalkFault) (now : ListSide A) (Untouched : Type 0) → (Untouched → IsUnwritten output)
        → IfOk result (λ sent. Ran sent now Untouched) → IfErr result (λ fault. Broke fault now) → IsDownBy result output.was_down output.is_down
        → EndsListing asked.asked input output now result
    listing_ends (Ok sent) now Untouched untouched ran broke down =
        list_ran sent Untouched untouched ran.heard ran.stopped ran.earlier ran.reply false now ran.replied refl ran.receives ran.flushed ran.wrote
    listing_ends (Err fault) now Untouched untouched ran broke down = broke_ends fault now down broke
