-- A server's answers to messages.
use Rattle.std.proofs.Common.{◌≡◌, [], ◌∷◌, codes, is_some, length, ◌<◌, ◌^◌, ◌+◌, ◌⊎◌, inl, inr, min, ℕ, Bool, true, false, List, Option, Some, None, Result, Ok, Err, IfOk, IsSome, MatchResult, OnOk, refl, sym, ap, ◌∙◌, subst, arith}
use Rattle.std.proofs.lemmas.Bool.{ltb-true}
use Rattle.gobject.specs.Packs.{PackFails, Packs}
use Rattle.gparts.specs.Parts.{Gives}
use Rattle.gpkt.specs.Packets.{Bytes, Packet}
use Rattle.ggrammar.specs.declared.ends.Ends.{Ends}
use Rattle.gpkt.specs.Packets.{Data, Flush}
use Rattle.gname.specs.declared.formats.Format.{Format}
use Rattle.gname.specs.declared.formats.Format.TheVariants.{Sha1, Sha256}
use Rattle.ggrammar.specs.Grammar.{IsOpen, IsWhole, Judge, LawsOf, Refused, Whole}
use Rattle.ggrammar.specs.declared.fault.Why.TheVariants as why
use Rattle.ggrammar.specs.declared.limits.Limits.{Limits}
use Rattle.ghello.specs.Hello.{Hello}
use Rattle.ghello.specs.Hello as hello
use Rattle.ghello.specs.steps.HelloReading.{hello_in}
use Rattle.ghello.proofs.HelloLemmas.{never_open, packet_says, whole_list}
use Rattle.ghello.proofs.HelloLemmas as hello_lemmas
use Rattle.grequest.proofs.WholeRequests as whole_requests
use Rattle.grequest.specs.Asked.{Asked, FetchAsked, LsRefsAsked}
use Rattle.grequest.specs.Arguments.{command_form}
use Rattle.ggrammar.specs.PeerErrors.{after_word}
use Rattle.grequest.specs.RequestLines.{asked_by_lines, capability_texts}
use Rattle.grequest.specs.Requests.{judge_at}
use Rattle.grequest.specs.Requests as request
use Rattle.ganswer.specs.Servers.{Server}
use Rattle.ganswer.specs.declared.fault.ServeFault.{ServeFault}
use Rattle.gdialogue.specs.Sides.{MayAnswer}
use Rattle.gdialogue.specs.declared.side.Answer.{Answer}
use Rattle.gdialogue.specs.declared.side.Answer.TheVariants as answer
use Rattle.gserver.specs.Fetching.{SaysFetch}
use Rattle.gserver.specs.Listings.{SaysLsAnswer}
use Rattle.gserver.specs.Replying.{may_of}
use Rattle.gserver.specs.Serving.{AnswersAsked, AnswersBy, AnswersHello, CannotAnswer, Greets, Refuses, SendsFrom, count_request, goes_on_after, side_judge, max_requests, messages_of}
use Rattle.gserver.specs.declared.side.ServerSide.{ServerSide}
use Rattle.gserver.specs.declared.reply.ServerReply.{ServerReply}
use Rattle.gserver.specs.steps.Answering.{AnswersOf, IsRefusal}

-- ---- the number of remaining messages

pub fewer_left : {R : Type 0} (old new : Option R) (before after : ℕ) → IsSome old → IsSome new
    → after ≡ min (before + 1) max_requests
    → goes_on_after before ≡ true → messages_of new after < messages_of old before
fewer_left None new before after has_old has_new counts goes = absurd (cc has_old)
fewer_left (Some one) None before after has_old has_new counts goes = absurd (cc has_new)
fewer_left (Some one) (Some other) before after has_old has_new counts goes =
    omega (arith, counts, ltb-true before max_requests goes)

pub fewer_first : {R : Type 0} (old new : Option R) (before after : ℕ) → old ≡ None → IsSome new
    → messages_of new after < messages_of old before
fewer_first (Some one) new before after none has_new = absurd (cc none)
fewer_first None None before after none has_new = absurd (cc has_new)
fewer_first None (Some other) before after none has_new = omega arith

pub no_value : {R : Type 0} (old : Option R) → is_some old ≡ false → old ≡ None
no_value None h = refl
no_value (Some one) h = absurd (cc h)

pub some_same : {T : Type 0} (x y : T) → Some x ≡ Some y → x ≡ y
some_same x y h = cc h

-- an answer or a refusal also satisfies weaker conditions on its packets or on its text
pub either_so : {Says Other : Type 0} {Why Because : Bytes → Type 0} (said : List Packet) (goes : Bool)
    → (Says → Other) → ((text : Bytes) → Why text → Because text) → Says ⊎ Refuses Why said goes → Other ⊎ Refuses Because said goes
either_so said goes follows reason (inl h) = inl (follows h)
either_so said goes follows reason (inr h) = inr (record { text = h.text; why = reason h.text h.why; all = h.all; ended = h.ended })

-- if no further request is accepted, the reply to a fetch request ends the dialogue
pub fetch_is_last : {A : Type 0} (server : Server A) (packs : Packs A) (fails : PackFails A) (asked : FetchAsked) (ends : Ends) (goes_on : Bool)
    (said : List Packet) (goes : Bool) → goes_on ≡ false → SaysFetch server packs fails asked ends goes_on said goes → goes ≡ false
fetch_is_last server packs fails asked ends goes_on said goes off (inl says) = says.goes_so ∙ off
fetch_is_last server packs fails asked ends goes_on said goes off (inr says) = says.ended

module _ {A R P : Type 0} (server_of : R → Server A) (gives : R → P → Gives) where
  -- ---- the packets of an answer

  -- if `goes_on` is false, the packets that `Says` permits may also end the dialogue
  abbrev EndsWhereItMay : Bool → (List Packet → Bool → Type 0) → Type 0
  EndsWhereItMay goes_on Says = goes_on ≡ false → (said : List Packet) (goes : Bool) → Says said goes → Says said false

  pub answered_so : (Says : List Packet → Bool → Type 0) (Why : Bytes → Type 0) (answered : Result (ServerReply A R P) Bytes)
      (goes_on : Bool) (result : Answer (ServerReply A R P))
      → MatchResult answered (λ reply. (said : List Packet) (goes : Bool) → may_of server_of gives reply said goes → Says said goes) Why
      → AnswersOf server_of gives answered goes_on result → EndsWhereItMay goes_on Says
      → (said : List Packet) (goes : Bool) → MayAnswer (may_of server_of gives) result said goes → Says said goes ⊎ Refuses Why said goes
  answered_so Says Why (Ok reply) true result ok is ends said goes may =
      inl (ok said goes (subst (λ a. MayAnswer (may_of server_of gives) a said goes) is may))
  answered_so Says Why (Ok reply) false result ok is ends said goes may =
      let m = subst (λ a. MayAnswer (may_of server_of gives) a said goes) is may in
      inl (subst (Says said) (sym m.0) (ends refl said m.1.0 (ok said m.1.0 m.1.1)))
  answered_so Says Why (Err text) goes_on result why is ends said goes may =
      let r = is.refuses said goes may in inr (record { text = text; why = why; all = r.0; ended = r.1 })

  -- `Quiet` holds, or the answer ends the dialogue
  pub quiet_so : (Quiet : Type 0) (answered : Result (ServerReply A R P) Bytes) (goes_on : Bool) (result : Answer (ServerReply A R P))
      → OnOk answered Quiet → AnswersOf server_of gives answered goes_on result
      → (said : List Packet) (goes : Bool) → MayAnswer (may_of server_of gives) result said goes → Quiet ⊎ (goes ≡ false)
  quiet_so Quiet (Ok reply) goes_on result quiet is said goes may = inl quiet
  quiet_so Quiet (Err text) goes_on result quiet is said goes may = inr (is.refuses said goes may).1

  pub refused_quietly : (Quiet : Type 0) (text : Bytes) (result : Answer (ServerReply A R P)) → IsRefusal server_of gives text result
      → (said : List Packet) (goes : Bool) → MayAnswer (may_of server_of gives) result said goes → Quiet ⊎ (goes ≡ false)
  refused_quietly Quiet text result is said goes may = inr (is.refuses said goes may).1

  -- ---- answers after which the dialogue continues

  pub went_on : (Holds : Type 0) (answered : Result (ServerReply A R P) Bytes) (goes_on : Bool) (result : Answer (ServerReply A R P))
      (reply : ServerReply A R P) → IfOk answered (λ reply. Holds) → AnswersOf server_of gives answered goes_on result
      → result ≡ answer.GoesOn reply → (goes_on ≡ true) × Holds
  went_on Holds (Ok made) true result reply ok is same = (refl, ok)
  went_on Holds (Ok made) false result reply ok is same = absurd (cc (sym is ∙ same))
  went_on Holds (Err text) goes_on result reply ok is same = absurd (is.last reply same)

  -- ---- the end of the dialogue after each kind of reply

  pub greets_on : (Finds : Result R Bytes → Type 0) (new : Option R) → EndsWhereItMay true (Greets server_of Finds new)
  greets_on Finds new off said goes says = absurd (cc off)

  pub list_ends : (server : Server A) (asked : LsRefsAsked) (ends : Ends) (goes_on : Bool) → EndsWhereItMay goes_on (SaysLsAnswer server asked ends goes_on)
  list_ends server asked ends goes_on off said goes says =
      record { reply = says.reply; answers = says.answers; all = says.all; goes_so = sym off }

  module _ {H : Type 0} (host_says : H → ServeFault → Bytes → Type 0) (host : H) (packs_of : R → Packs A) (fails_of : R → PackFails A)
      (Opens : Result R Bytes → Type 0) where
    pub fetch_ends : (ends : Ends) (asked : FetchAsked) (goes_on : Bool) (new : Option R)
        → EndsWhereItMay goes_on (SendsFrom server_of host_says host packs_of fails_of Opens ends asked goes_on new)
    fetch_ends ends asked goes_on new off said goes says = record {
      found = says.found;
      packer = says.packer;
      opens = says.opens;
      served = says.served;
      same = says.same;
      sends = subst (λ g. SaysFetch (server_of says.found) (packs_of says.packer) (fails_of says.packer) asked ends goes_on said g)
          (fetch_is_last (server_of says.found) (packs_of says.packer) (fails_of says.packer) asked ends goes_on said goes off says.sends) says.sends;
    }

-- ---- the length of an open list of packets

pub open_is_short : {A R : Type 0} (server_of : R → Server A) → ((j : Judge) → LawsOf j) → (limits : Limits) (repo : Option R) (front : List Packet)
    → IsOpen (side_judge limits server_of repo) front → length front < 2 ^ 60
open_is_short server_of laws limits None front goes = hello_lemmas.open_is_short front goes
open_is_short server_of laws limits (Some repo) front goes =
    whole_requests.open_is_short laws limits (server_of repo).graph.format front goes

-- ---- the answers to messages

-- the grammars of requests in different object formats differ
whole_is_not_refused : ¬ (Whole ≡ Refused why.Format)
whole_is_not_refused h = absurd (cc h)

formats_differ : (limits given : Limits) → ¬ (request.judge limits Sha1 ≡ request.judge given Sha256)
unfolding judge_at capability_texts command_form after_word
formats_differ limits given h = whole_is_not_refused (ap (λ (judge : Judge). judge (Data (codes "command=fetch") ∷ []) Flush) h)

pub judged_format : (limits given : Limits) (one other : Format) → request.judge limits one ≡ request.judge given other → one ≡ other
judged_format limits given Sha1 Sha1 h = refl
judged_format limits given Sha256 Sha256 h = refl
judged_format limits given Sha1 Sha256 h = absurd (formats_differ limits given h)
judged_format limits given Sha256 Sha1 h = absurd (formats_differ given limits (sym h))

-- the grammar of a first line is not the grammar of a request
first_is_no_request : (limits : Limits) (format : Format) → ¬ (hello.judge ≡ request.judge limits format)
unfolding judge_at capability_texts command_form after_word
first_is_no_request limits Sha1 h = never_open [] (Data (codes "command=fetch")) (ap (λ (judge : Judge). judge [] (Data (codes "command=fetch"))) h)
first_is_no_request limits Sha256 h = never_open [] (Data (codes "command=fetch")) (ap (λ (judge : Judge). judge [] (Data (codes "command=fetch"))) h)

module _ {A H R : Type 0} (server_of : R → Server A) (packs_of : R → Packs A) (fails_of : R → PackFails A)
    (finds : H → Hello → Result R Bytes → Type 0) (opens : H → R → Result R Bytes → Type 0)
    (says : H → ServeFault → Bytes → Type 0) (old new : ServerSide A H R) where
  pub hello_answered : (repo : Option R) (lines said : List Packet) (goes : Bool) (kept : Option Hello)
      → hello.judge ≡ side_judge old.limits server_of repo → IsWhole (side_judge old.limits server_of repo) lines → kept ≡ hello_in lines
      → ((asked : Hello) → kept ≡ Some asked → repo ≡ None
      → AnswersHello server_of says old.host.now (finds old.host.now asked) new.repo new.fault said goes)
      → new.requests ≡ old.requests
      → AnswersBy server_of packs_of fails_of finds opens says repo old new lines said goes
  hello_answered None lines said goes kept judged whole is answers requests =
      let heard = whole_list lines whole in record {
        asked = heard.0;
        says_so = packet_says lines heard.0 heard.1;
        answers = answers heard.0 (is ∙ heard.1) refl;
        requests = requests;
      }
  hello_answered (Some repo) lines said goes kept judged whole is answers requests =
      absurd (first_is_no_request old.limits (server_of repo).graph.format judged)

  pub request_answered : (repo : Option R) (lines said : List Packet) (goes : Bool) (limits : Limits) (format : Format) (asked : Asked)
      → request.judge limits format ≡ side_judge old.limits server_of repo → IsWhole (side_judge old.limits server_of repo) lines
      → asked ≡ asked_by_lines format lines
      → ((one : R) → repo ≡ Some one
      → AnswersAsked server_of says old.host.now packs_of fails_of (opens old.host.now one) old.ends one asked
      (goes_on_after old.requests) new.repo said goes
      ⊎ Refuses (CannotAnswer server_of says old.host.now packs_of fails_of (opens old.host.now one) old.ends one asked
      new.repo new.fault) said goes)
      → new.requests ≡ count_request asked old.requests
      → AnswersBy server_of packs_of fails_of finds opens says repo old new lines said goes
  request_answered None lines said goes limits format asked judged whole asks answers requests =
      absurd (first_is_no_request limits format (sym judged))
  request_answered (Some repo) lines said goes limits format asked judged whole asks answers requests = record {
    asked = asked;
    says_so = record {
      whole = whole;
      asks = asks ∙ ap (λ f. asked_by_lines f lines) (judged_format limits old.limits format (server_of repo).graph.format judged);
    };
    answers = answers repo refl;
    requests = requests;
  }
