-- The bytes that a server wrote to a client, whatever the end of its conversation.
use Rattle.std.proofs.Common.{[], ◌∷◌, ◌++◌, ◌≡◌, ◌⊎◌, ◌∙◌, ◌≤◌, ℕ, List, length, All, Option, Some}
use Rattle.std.proofs.Common.{inl, inr, refl, sym, ap, subst, append-nil, append_assoc}
use Rattle.std.specs.Io.KnownBytes.{Appends}
use Rattle.std.specs.List.{flat_map}
use Rattle.std.proofs.lemmas.Grind.{flat_map-append}
use Rattle.std.proofs.lemmas.List.{append_cancel_left}
use Rattle.std.proofs.lemmas.List.Elements.{All-nil, All-push}
use Rattle.gname.specs.declared.formats.Format.{Format}
use Rattle.gpkt.specs.Laws.{HasFourBytes, SpellingsJoin}
use Rattle.gpkt.specs.Packets.{Packet, SpellsAll, canonical_all}
use Rattle.gpkt.specs.Sending.{Input, Output, Passes, rest_of}
use Rattle.ggrammar.specs.Kinds.{CanonicalSays}
use Rattle.ggrammar.specs.MessageBytes.{ReadsNoOther}
use Rattle.ggrammar.specs.declared.ends.Ends.TheVariants.{Plain}
use Rattle.ghello.specs.Adverts as advert
use Rattle.ganswer.specs.Laws.{AdvertsWelcome}
use Rattle.ganswer.specs.Servers.{Server}
use Rattle.ganswer.specs.declared.fault.ServeFault.{ServeFault}
use Rattle.gserver.specs.Conversations.{CannotBegin, Converses, HasEnded, IsDueFirst, Serves, advert as first_advert}
use Rattle.gserver.specs.Conversations.{advert_packets, refusal as first_refusal, talk, talk_bytes}
use Rattle.gserver.specs.Exchanges.{IsDue, IsRefused, IsTurn as IsExchange, ReadsEmpty, ReadsTurn, ReadsTurns}
use Rattle.gserver.specs.Exchanges.{Turn as Exchange, refusal, reply, reply_packets}
use Rattle.gserver.specs.Refusals.{err_packets, err_text}
use Rattle.gserver.specs.declared.serving.End.{End}
use Rattle.gserver.specs.declared.serving.End.TheVariants as end
use Rattle.gworld.specs.Laws.{NewWorldsAreSound, RunsKeepPromises}
use Rattle.gworld.specs.Worlds.{PackTools}
use Rattle.gjoined.specs.Joined.{Carries}
use Rattle.gjoined.proofs.Bytes.{read_from}
use Rattle.gjoined.proofs.Errors.{ErrorLaws, error_bytes}
use Rattle.gjoined.proofs.Refusals.{IdLaws, begun_short, refused_short}
use Rattle.gjoined.proofs.Replies.{no_bytes, no_error}
use Rattle.gjoined.proofs.Rounds.{NoReplyAfter, RoundLaws, replies_written, requests_read}

-- the laws of a whole fetch
pub record JoinedLaws {A : Type 0} (tools : PackTools A) : Type 0 where
  pub rounds : RoundLaws tools
  pub advert_says : CanonicalSays advert.Says advert.AreCapabilities advert.IsCanonical
  pub advert_ends : ReadsNoOther advert.judge
  pub welcome : AdvertsWelcome
  pub sound : NewWorldsAreSound tools
  pub keeps : RunsKeepPromises tools
  pub four : HasFourBytes
  pub errors : ErrorLaws
  pub join : SpellingsJoin
  pub ids : IdLaws

-- ---- the bytes at both ends

-- the bytes that the other end can read are the bytes that were written
pub carried : {output : Output} {input : Input} {bytes : List ℕ} → Carries output input bytes → (written : List ℕ)
    → Appends output.written.old output.written.new written → bytes ≡ written
carried {output} {input} {bytes} carries written wrote =
    let appends : Appends (Some carries.before) (Some (carries.before ++ bytes)) written =
    subst (λ (old : Option (List ℕ)). Appends old (Some (carries.before ++ bytes)) written) carries.old
    (subst (λ (new : Option (List ℕ)). Appends output.written.old new written) carries.new wrote) in
    append_cancel_left carries.before bytes written appends

-- The server read requests from the bytes, and `answered` is the advertisement, its replies, and `tail`. If the server
-- failed to write, `answered` lacks the bytes `missing`. No reply comes in `tail`.
pub record HasServed {A : Type 0} (tools : PackTools A) (server : Server A) (asked answered : List ℕ) : Type 0 where
  pub served : List Exchange
  pub front : List ℕ
  pub left : List ℕ
  pub parts : asked ≡ front ++ left
  pub spelt : SpellsAll (requests_read served) front
  pub each : All (IsExchange server tools.packs) served
  pub tail : List ℕ
  pub none : NoReplyAfter server tools left tail
  pub missing : List ℕ
  pub wrote : answered ++ missing
      ≡ canonical_all (advert_packets server.graph.format) ++ (canonical_all (replies_written served) ++ tail)

-- the server wrote nothing but an error packet, or a prefix of it
pub record HasRefused (answered : List ℕ) : Type 0 where
  pub said : List ℕ
  pub short : length said ≤ 128
  pub missing : List ℕ
  pub wrote : answered ++ missing ≡ error_bytes said

error_written : (fault : ServeFault) → canonical_all (err_packets fault) ≡ error_bytes (err_text fault)
unfolding err_packets
error_written fault = refl

module _ {A : Type 0} {tools : PackTools A} (laws : JoinedLaws tools) where
  talk_parts : (format : Format) (turns : List Exchange)
      → talk_bytes format Plain turns
      ≡ canonical_all (advert_packets format) ++ canonical_all (replies_written turns)
  unfolding talk
  talk_parts format turns =
      laws.rounds.joins (advert_packets format) (flat_map (λ (turn : Exchange). reply_packets Plain turn.answer) turns)

  -- ---- the server's part

  -- what a server wrote further its replies: nothing, an error packet, or a part of it
  module _ (server : Server A) (input : Input) (output : Output) (other : Output) (back : Input)
      (asked answered : List ℕ) (to : Carries other input asked) (from : Carries output back answered) where
    abbrev sent_bytes : List Exchange → List ℕ
    sent_bytes served = talk_bytes server.graph.format Plain served

    has_served : (served : List Exchange) (between : Option (List ℕ)) (tail written missing : List ℕ)
        → ReadsTurns server tools.packs (record { old = input.read.old; new = between }) served
        → ((left : List ℕ) → between ≡ Some left → NoReplyAfter server tools left tail)
        → Appends output.written.old output.written.new written → written ++ missing ≡ sent_bytes served ++ tail
        → HasServed tools server asked answered
    has_served served between tail written missing reads none wrote same =
        let format = server.graph.format in
        let read = read_from input.read.old between asked (requests_read served) to.read reads.lines in record {
          served = served;
          front = read.front;
          left = read.left;
          parts = read.parts;
          spelt = read.spelt;
          each = reads.each;
          tail = tail;
          none = none read.left read.is;
          missing = missing;
          wrote = ap (λ (b : List ℕ). b ++ missing) (carried from written wrote) ∙ same
              ∙ ap (λ (b : List ℕ). b ++ tail) (talk_parts format served)
              ∙ append_assoc (canonical_all (advert_packets format)) (canonical_all (replies_written served)) tail;
        }

    -- the conversation ended without an error packet
    has_ended : (count : ℕ) (served : List Exchange) (Last : Input → Type 0)
        → Converses server tools.packs input count served Last → Passes output (sent_bytes served)
        → HasServed tools server asked answered
    has_ended count served Last conversed passes =
        has_served served conversed.between [] (sent_bytes served) [] conversed.read
        (λ left is request more well same. no_bytes tools laws.four) passes.written refl

    -- no reply comes in the error packet of a refusal
    no_reply : (between : Option (List ℕ)) (fault : ServeFault)
        → IsRefused server tools.pack_fails (rest_of input between) fault → (left : List ℕ) → between ≡ Some left
        → NoReplyAfter server tools left (error_bytes (err_text fault))
    no_reply between fault refused left is request more well same =
        no_error tools laws.errors (err_text fault)
        (refused_short laws.ids laws.rounds.requests server tools.pack_fails (rest_of input between) left more request
        fault refused is well same)

    -- the conversation ended with an error packet, or with a part of it
    has_refused : (count : ℕ) (served : List Exchange) (fault : ServeFault) (written missing : List ℕ)
        → Converses server tools.packs input count served
        (λ (rest : Input). IsRefused server tools.pack_fails rest fault)
        → Appends output.written.old output.written.new written
        → written ++ missing ≡ sent_bytes served ++ canonical_all (err_packets fault)
        → HasServed tools server asked answered
    has_refused count served fault written missing conversed wrote same =
        has_served served conversed.between (error_bytes (err_text fault)) written missing conversed.read
        (no_reply conversed.between fault conversed.last) wrote
        (same ∙ ap (λ (b : List ℕ). sent_bytes served ++ b) (error_written fault))

    refused_at_once : (fault : ServeFault) (written missing : List ℕ) → CannotBegin input fault
        → Appends output.written.old output.written.new written
        → written ++ missing ≡ canonical_all (err_packets fault) → HasRefused answered
    refused_at_once fault written missing begins wrote same = record {
      said = err_text fault;
      short = begun_short input fault begins;
      missing = missing;
      wrote = ap (λ (b : List ℕ). b ++ missing) (carried from written wrote) ∙ same ∙ error_written fault;
    }

    -- ---- a server that failed to write

    -- the list of exchanges with one more exchange
    more_read : (served : List Exchange) (turn : Exchange)
        → requests_read (served ++ turn ∷ []) ≡ requests_read served ++ turn.request
    more_read served turn =
        flat_map-append (λ (t : Exchange). t.request) served (turn ∷ [])
        ∙ ap (λ (l : List Packet). requests_read served ++ l) (append-nil turn.request)

    more_written : (served : List Exchange) (turn : Exchange)
        → replies_written (served ++ turn ∷ []) ≡ replies_written served ++ reply_packets Plain turn.answer
    more_written served turn =
        flat_map-append (λ (t : Exchange). reply_packets Plain t.answer) served (turn ∷ [])
        ∙ ap (λ (l : List Packet). replies_written served ++ l) (append-nil (reply_packets Plain turn.answer))

    -- the last reply was not written whole
    lacks_reply : (count : ℕ) (served : List Exchange) (turn : Exchange) (written missing : List ℕ)
        (Last : Input → Type 0) → (conversed : Converses server tools.packs input count served Last)
        → ReadsTurn server tools.packs (rest_of input conversed.between) turn
        → Appends output.written.old output.written.new written
        → written ++ missing ≡ sent_bytes served ++ canonical_all (reply_packets Plain turn.answer)
        → HasServed tools server asked answered
    lacks_reply count served turn written missing Last conversed reads wrote same =
        let format = server.graph.format in
        let packets = reply_packets Plain turn.answer in
        let first = read_from input.read.old conversed.between asked (requests_read served) to.read
        conversed.read.lines in
        let last = read_from conversed.between input.read.new first.left turn.request first.is reads.lines in record {
          served = served ++ turn ∷ [];
          front = first.front ++ last.front;
          left = last.left;
          parts = first.parts ∙ ap (λ (b : List ℕ). first.front ++ b) last.parts
              ∙ sym (append_assoc first.front last.front last.left);
          spelt = subst (λ (l : List Packet). SpellsAll l (first.front ++ last.front)) (sym (more_read served turn))
              (laws.join (requests_read served) turn.request first.front last.front first.spelt last.spelt);
          each = All-push (IsExchange server tools.packs) served turn conversed.read.each reads.is_turn;
          tail = [];
          none = λ request more well is. no_bytes tools laws.four;
          missing = missing;
          wrote = ap (λ (b : List ℕ). b ++ missing) (carried from written wrote) ∙ same
              ∙ ap (λ (b : List ℕ). b ++ canonical_all packets) (talk_parts format served)
              ∙ append_assoc (canonical_all (advert_packets format)) (canonical_all (replies_written served))
              (canonical_all packets)
              ∙ ap (λ (b : List ℕ). canonical_all (advert_packets format) ++ b)
              (sym (laws.rounds.joins (replies_written served) packets)
              ∙ ap canonical_all (sym (more_written served turn))
              ∙ sym (append-nil (canonical_all (replies_written (served ++ turn ∷ [])))));
        }

    -- the last message was not written whole
    lacks_due : (count : ℕ) (served : List Exchange) (due : List Packet) (written missing : List ℕ)
        (Last : Input → Type 0) → (conversed : Converses server tools.packs input count served Last)
        → IsDue server tools.packs tools.pack_fails Plain (rest_of input conversed.between) due
        → Appends output.written.old output.written.new written
        → written ++ missing ≡ sent_bytes served ++ canonical_all due → HasServed tools server asked answered
    lacks_due count served due written missing Last conversed (reply turn reads) wrote same =
        lacks_reply count served turn written missing Last conversed reads wrote same
    lacks_due count served due written missing Last conversed (refusal fault refused) wrote same =
        has_refused count served fault written missing
        (record { between = conversed.between; read = conversed.read; count = conversed.count; last = refused }) wrote
        same

    -- the first message was not written whole
    lacks_first : (due : List Packet) (written missing : List ℕ) → IsDueFirst server.graph.format input due
        → Appends output.written.old output.written.new written → written ++ missing ≡ canonical_all due
        → HasServed tools server asked answered ⊎ HasRefused answered
    lacks_first due written missing (first_advert unread) wrote same =
        let all = canonical_all (advert_packets server.graph.format) in
        inl (record {
          served = [];
          front = [];
          left = asked;
          parts = refl;
          spelt = refl;
          each = All-nil (IsExchange server tools.packs);
          tail = [];
          none = λ request more well is. no_bytes tools laws.four;
          missing = missing;
          wrote = ap (λ (b : List ℕ). b ++ missing) (carried from written wrote) ∙ same ∙ sym (append-nil all);
        })
    lacks_first due written missing (first_refusal fault begins) wrote same =
        inr (refused_at_once fault written missing begins wrote same)

    -- ---- every end of a conversation

    all_sent : (bytes : List ℕ) → bytes ++ [] ≡ bytes
    all_sent bytes = append-nil bytes

    pub serves : (count : ℕ) (ended : End) → Serves server tools.packs tools.pack_fails Plain input output count ended
        → HasServed tools server asked answered ⊎ HasRefused answered
    serves count end.Closed (served, room, conversed, passes) =
        inl (has_ended count served (ReadsEmpty server.graph.format) conversed passes)
    serves count end.Ended (served, conversed, passes) = inl (has_ended count served (HasEnded count) conversed passes)
    serves count (end.Refused fault) (inl (served, room, conversed, passes)) =
        let written = sent_bytes served ++ canonical_all (err_packets fault) in
        inl (has_refused count served fault written [] conversed passes.written (append-nil written))
    serves count (end.Refused fault) (inr (none, begins, passes)) =
        let written = canonical_all (err_packets fault) in
        inr (refused_at_once fault written [] begins passes.written (append-nil written))
    serves count end.WriteFailed (inl (served, due, room, conversed, sends)) =
        inl (lacks_due count served due (sent_bytes served ++ sends.front) sends.rest
        (λ (rest : Input). IsDue server tools.packs tools.pack_fails Plain rest due) conversed conversed.last
        sends.written
        (append_assoc (sent_bytes served) sends.front sends.rest
        ∙ ap (λ (b : List ℕ). sent_bytes served ++ b) (sym sends.parts)))
    serves count end.WriteFailed (inr (due, none, first, sends, keeps)) =
        lacks_first due sends.front sends.rest first sends.written (sym sends.parts)
