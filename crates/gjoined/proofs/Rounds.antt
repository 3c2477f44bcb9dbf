-- Each round of the client and the server is three steps of a world, and the end of the fetch is the step `Settle`.
use Rattle.std.proofs.Common.{[], ◌∷◌, ◌++◌, ◌≡◌, ◌∙◌, ◌↔◌, ◌+◌, ℕ, Bool, true, false, IsTrue, List, length, map, take}
use Rattle.std.proofs.Common.{All, Option, Some, Ok, Err, refl, sym, ap, subst, arith, append_assoc, append-nil}
use Rattle.std.proofs.Common.{length-append, slice_get}
use Rattle.std.specs.List.{flat_map}
use Rattle.std.proofs.lemmas.Bool.{false≢true}
use Rattle.std.proofs.lemmas.List.{take_all}
use Rattle.std.proofs.lemmas.List.Elements.{All-cons, All-head, All-nil, All-tail}
use Rattle.gpkt.specs.Laws.{CanonicalJoins, SpellingsSplit}
use Rattle.gpkt.specs.Packets.{Packet, SpellsAll, canonical_all}
use Rattle.ggrammar.specs.Limits.{profile}
use Rattle.ggrammar.specs.declared.ends.Ends.TheVariants.{Plain}
use Rattle.grefs.specs.RefLists.{IsRefs}
use Rattle.grefs.specs.Refspecs.{Refspec}
use Rattle.grequest.specs.Asked.{Asked}
use Rattle.grequest.specs.WellFormed.{IsAsked}
use Rattle.gclientrepo.specs.Changes.{SettlesAsks}
use Rattle.gclientrepo.specs.Repos.{RepoState}
use Rattle.gclientrepo.specs.declared.ask.RefUpdate.{RefUpdate}
use Rattle.gclientrepo.specs.declared.fault.RepoFault.{RepoFault}
use Rattle.ganswer.specs.Answers.{Answers, Reply}
use Rattle.ganswer.specs.Servers.{IsServer, Server}
use Rattle.gserver.specs.Exchanges.{IsTurn as IsExchange, Turn as Exchange, reply_packets}
use Rattle.gsession.specs.Sessions.{IsSession, SessionState, over}
use Rattle.gsession.specs.declared.fault.ClientFault.TheVariants.{Repo}
use Rattle.gsession.specs.declared.stage.Stage.TheVariants.{Settling}
use Rattle.gfetch.specs.Conversations.{request_bytes, requests_bytes}
use Rattle.gfetch.specs.Turns.{AreTurns, ClientState, IsTurn, Turn}
use Rattle.gscenario.specs.declared.event.Event.{Event}
use Rattle.gscenario.specs.declared.event.Event.TheVariants as event
use Rattle.gworld.specs.Events.{Delivers, ServesRequest, Step, settled_outcome, waiting_session, waits_for}
use Rattle.gworld.specs.Fetching.{IsDone}
use Rattle.gworld.specs.Laws.{AreListed, EndsStayConnected, StepsListed}
use Rattle.gworld.specs.Runs.{RunWith}
use Rattle.gworld.specs.Sound.{AreEndsConnected}
use Rattle.gworld.specs.Taking.{IsFullAnswer, IsPackTaken, TakesBytes, code_of}
use Rattle.gworld.specs.Worlds.{Kept, PackTools, WorldState, reply_bytes}
use Rattle.gworld.specs.declared.outcome.Outcome.{Outcome}
use Rattle.gworld.specs.declared.outcome.Outcome.TheVariants as outcomes
use Rattle.gjoined.specs.Joined.{events_from, outcomes_from}
use Rattle.gjoined.proofs.Plain.{HasAsked, IsPlain, asks_well, over_session, settled_session}
use Rattle.gjoined.proofs.Replies.{IsTaken, NoReply, ReplyLaws, takes_reply}
use Rattle.gjoined.proofs.Requests.{RequestLaws, one_request}
use Rattle.gjoined.proofs.Sources.{AreSources}

-- the laws of rounds
pub record RoundLaws {A : Type 0} (tools : PackTools A) : Type 0 where
  pub requests : RequestLaws
  pub replies : ReplyLaws tools.packs
  pub split : SpellingsSplit
  pub joins : CanonicalJoins
  pub ends : EndsStayConnected tools

-- the element appended to a list is at the index that equals the old length
last_of : {X : Type 0} (xs : List X) (x : X) → slice_get (xs ++ x ∷ []) (length xs) ≡ Some x
last_of [] x = refl
last_of (first ∷ xs) x = last_of xs x

at_end : {X : Type 0} (xs : List X) (x : X) (n : ℕ) → n ≡ length xs → slice_get (xs ++ x ∷ []) n ≡ Some x
at_end xs x n count = ap (λ (k : ℕ). slice_get (xs ++ x ∷ []) k) count ∙ last_of xs x

one_more : {X : Type 0} (xs : List X) (x : X) (n : ℕ) → n ≡ length xs → n + 1 ≡ length (xs ++ x ∷ [])
one_more xs x n count = omega (arith, count, length-append xs (x ∷ []))

-- the next part of bytes that begin with `a` and `b`
regroup : (whole a b rest mine theirs after : List ℕ) → whole ≡ a ++ b → whole ++ rest ≡ (mine ++ theirs) ++ after
    → a ++ (b ++ rest) ≡ mine ++ (theirs ++ after)
regroup whole a b rest mine theirs after parts same =
    sym (append_assoc a b rest) ∙ ap (λ (l : List ℕ). l ++ rest) (sym parts) ∙ same ∙ append_assoc mine theirs after

-- ---- the steps of a round

-- the outcome is an accepted pack
abbrev pub is_pack : Outcome → Bool
is_pack (outcomes.PackTaken added) = true
is_pack _ = false

packs : (outcome : Outcome) → IsTrue (is_pack outcome) ↔ IsPackTaken outcome
packs (outcomes.PackTaken added) = (λ _. tt, λ _. refl)
packs _ = (λ wrong. absurd (false≢true wrong), λ wrong. absurd wrong)

module _ {A : Type 0} (server : Server A) where
  -- a world in which the client has this session and this repository
  abbrev pub world_at : SessionState A → RepoState A → List Asked → List Kept → Bool → WorldState A
  world_at session repo sent kept answered = record {
    server = server;
    repo = repo;
    session = Some session;
    sent = sent;
    kept = kept;
    forged = false;
    answered = answered;
  }

-- the packets of the requests that the server read, and of its replies
abbrev pub requests_read : List Exchange → List Packet
requests_read served = flat_map (λ (turn : Exchange). turn.request) served

abbrev pub replies_written : List Exchange → List Packet
replies_written served = flat_map (λ (turn : Exchange). reply_packets Plain turn.answer) served

abbrev pub replies_read : List Turn → List Packet
replies_read turns = flat_map (λ (turn : Turn). turn.reply) turns

-- The client's next request, the server's reply to it, and the client's acceptance of the reply. The bytes that
-- remain at both ends are those of the later rounds.
pub record IsRound {A : Type 0} (tools : PackTools A) (server : Server A) (specs : List Refspec)
    (first next : ClientState A) (one : Kept) (sent : List Asked) (kept : List Kept) (mark : Bool) (n : ℕ)
    (left more rest after : List ℕ) : Type 0 where
  pub outcome : Outcome
  pub waiting : SessionState A
  pub asks : StepsListed tools (world_at server first.session first.repo sent kept mark) event.Ask (outcomes.Asked n)
      (world_at server waiting first.repo (sent ++ one.asked ∷ []) kept mark)
  pub serves : StepsListed tools (world_at server waiting first.repo (sent ++ one.asked ∷ []) kept mark) (event.Serve n)
      (outcomes.Served n) (world_at server waiting first.repo (sent ++ one.asked ∷ []) (kept ++ one ∷ []) mark)
  pub delivers : StepsListed tools
      (world_at server waiting first.repo (sent ++ one.asked ∷ []) (kept ++ one ∷ []) mark)
      (event.Deliver n (length (reply_bytes one.reply))) outcome
      (world_at server next.session next.repo (sent ++ one.asked ∷ []) (kept ++ one ∷ []) (is_pack outcome))
  pub done : IsDone outcome
  pub plain : IsPlain server.graph.format specs next.session
  pub ends : AreEndsConnected
      (world_at server next.session next.repo (sent ++ one.asked ∷ []) (kept ++ one ∷ []) (is_pack outcome))
  pub asked_left : left ≡ more
  pub answered_left : rest ≡ after

-- no reply comes after the last reply of the server, if a well-formed request is at the front of the bytes that the
-- server has not read
abbrev pub NoReplyAfter : {A : Type 0} → Server A → PackTools A → List ℕ → List ℕ → Type 0
NoReplyAfter server tools left tail =
    (asked : Asked) (more : List ℕ) → IsAsked profile server.graph.format asked
    → left ≡ request_bytes server.graph.format asked ++ more → NoReply tools tail

-- the rest of a fetch, from the beginning of round `n`, with the events `late` further the rounds
pub record GoesOn {A : Type 0} (tools : PackTools A) (server : Server A) (w : WorldState A) (n : ℕ)
    (asked answered rest : List ℕ) (new : RepoState A) (late : List (Event A)) (told : List Outcome) : Type 0 where
  pub more : List Kept
  pub taken : List Outcome
  pub last : WorldState A
  pub run : RunWith (StepsListed tools) w (events_from n more late) (outcomes_from n taken told) last
  pub done : All IsDone taken
  pub repo_after : last.repo ≡ new
  pub server_after : last.server ≡ server
  pub replies : last.kept ≡ w.kept ++ more
  pub requests : last.sent ≡ w.sent ++ map (λ one. one.asked) more
  pub wrote : asked ≡ flat_map (λ one. request_bytes server.graph.format one) (map (λ one. one.asked) more)
  pub read : answered ≡ flat_map (λ one. reply_bytes one.reply) more ++ rest

-- a run of the last events, which leave the server and all messages unchanged
pub record IsLate {A : Type 0} (tools : PackTools A) (w : WorldState A) (new : RepoState A) (late : List (Event A))
    (told : List Outcome) : Type 0 where
  pub last : WorldState A
  pub run : RunWith (StepsListed tools) w late told last
  pub repo_after : last.repo ≡ new
  pub server_after : last.server ≡ w.server
  pub replies : last.kept ≡ w.kept
  pub requests : last.sent ≡ w.sent

-- the last events of a fetch, from each world in which the client has its last session and its last repository
abbrev pub IsEnd : {A : Type 0} → PackTools A → Server A → List Refspec → ClientState A → RepoState A → List (Event A)
    → List Outcome → Type 0
IsEnd tools server specs last new late told =
    (sent : List Asked) (kept : List Kept) (mark : Bool)
    → AreEndsConnected (world_at server last.session last.repo sent kept mark)
    → IsPlain server.graph.format specs last.session
    → IsLate tools (world_at server last.session last.repo sent kept mark) new late told

module _ {A : Type 0} (tools : PackTools A) (server : Server A) where
  listed : (repo : RepoState A) (session : SessionState A) (sent : List Asked)
      (kept : List Kept) (mark : Bool) → IsServer server → IsRefs repo.refs → IsSession session
      → AreListed (world_at server session repo sent kept mark)
  listed repo session sent kept mark is refs valid = record { server = is.refs; client = refs; session = valid }

  serves_step : (session : SessionState A) (repo : RepoState A) (sent : List Asked) (kept : List Kept) (mark : Bool)
      (asked : Asked) (reply : Reply) (n : ℕ) → n ≡ length sent → n ≡ length kept
      → Answers server tools.packs asked reply
      → Step tools (world_at server session repo (sent ++ asked ∷ []) kept mark) (event.Serve n) (outcomes.Served n)
      (world_at server session repo (sent ++ asked ∷ []) (kept ++ record { asked = asked; reply = reply } ∷ []) mark)
  serves_step session repo sent kept mark asked reply n count also answers =
      let w = world_at server session repo (sent ++ asked ∷ []) kept mark in
      let new = world_at server session repo (sent ++ asked ∷ []) (kept ++ record { asked = asked; reply = reply } ∷ []) mark in
      subst (λ (o : Option Asked). ServesRequest tools.packs tools.pack_fails w o (outcomes.Served n) new)
      (sym (at_end sent asked n count)) (reply, answers, also, refl)

  full_answer : (one : Kept) (outcome : Outcome)
      → IsTrue (is_pack outcome) ↔ IsFullAnswer one one.asked (length (reply_bytes one.reply)) outcome
  full_answer one outcome = (
    λ yes. record { same = refl; all = omega arith; pack = (packs outcome).0 yes },
    λ full. (packs outcome).1 full.pack,
  )

  delivers_step : (session after : SessionState A) (repo new : RepoState A) (sent : List Asked) (kept : List Kept)
      (mark : Bool) (one : Kept) (outcome : Outcome) (n : ℕ) → n ≡ length kept → session.pending ≡ Some one.asked
      → TakesBytes tools.indexes tools.index_fails one.asked session repo (reply_bytes one.reply) outcome after new
      → Step tools (world_at server session repo sent (kept ++ one ∷ []) mark)
      (event.Deliver n (length (reply_bytes one.reply))) outcome
      (world_at server after new sent (kept ++ one ∷ []) (is_pack outcome))
  delivers_step session after repo new sent kept mark one outcome n count waits takes =
      let w = world_at server session repo sent (kept ++ one ∷ []) mark in
      let v = world_at server after new sent (kept ++ one ∷ []) (is_pack outcome) in
      let all = length (reply_bytes one.reply) in
      let whole : TakesBytes tools.indexes tools.index_fails one.asked session repo (take all (reply_bytes one.reply))
      outcome after new =
      subst (λ (b : List ℕ). TakesBytes tools.indexes tools.index_fails one.asked session repo b outcome after new)
      (sym (take_all all (reply_bytes one.reply) (omega arith))) takes in
      subst (λ (o : Option Kept). Delivers tools.indexes tools.index_fails w o all (waiting_session (Some session)) outcome v)
      (sym (at_end kept one n count))
      (subst (λ (p : Option Asked). Delivers tools.indexes tools.index_fails w (Some one) all (waits_for session p) outcome v)
      (sym waits)
      (is_pack outcome, full_answer one outcome, record { after = after; repo = new; takes = whole; is = refl }))

  -- ---- one round

  module _ (laws : RoundLaws tools) (is : IsServer server) (specs : List Refspec) (sources : AreSources specs) where
    -- a step to a world with these ends, and these ends afterwards
    pub stepped : (w : WorldState A) (e : Event A) (outcome : Outcome) (session : SessionState A) (repo : RepoState A)
        (sent : List Asked) (kept : List Kept) (mark : Bool) → AreEndsConnected w → IsRefs repo.refs → IsSession session
        → Step tools w e outcome (world_at server session repo sent kept mark)
        → StepsListed tools w e outcome (world_at server session repo sent kept mark)
        × AreEndsConnected (world_at server session repo sent kept mark)
    stepped w e outcome session repo sent kept mark ends refs valid step =
        let new = world_at server session repo sent kept mark in
        let are = listed repo session sent kept mark is refs valid in
        (record { step = step; listed = are }, laws.ends w new e outcome ends are step)

    pub round : (first next : ClientState A) (turn : Turn) (serve : Exchange) (sent : List Asked)
        (kept : List Kept) (mark : Bool) (n : ℕ) (request left more reply rest after : List ℕ) → n ≡ length sent
        → n ≡ length kept → AreEndsConnected (world_at server first.session first.repo sent kept mark)
        → IsPlain server.graph.format specs first.session
        → IsTurn tools.indexes tools.index_fails first turn next → IsExchange server tools.packs serve
        → SpellsAll serve.request request → request ++ left ≡ request_bytes server.graph.format turn.asked ++ more
        → SpellsAll turn.reply reply → reply ++ rest ≡ reply_bytes serve.answer ++ after
        → IsRound tools server specs first next (record { asked = turn.asked; reply = serve.answer }) sent kept mark n
        left more rest after
    round first next turn serve sent kept mark n request left more reply rest after count also ends plain is_turn serves
        asks_spelt asks_same reply_spelt reply_same =
        let one : Kept = record { asked = turn.asked; reply = serve.answer } in
        let waiting = is_turn.waiting in
        let asked : HasAsked server.graph.format specs turn.asked waiting =
        asks_well laws.replies.sessions server.graph.format specs first.session waiting first.repo.graph turn.asked
        plain ends.graph sources is_turn.asks in
        let told = one_request laws.requests server.graph.format turn.asked serve.asked serve.request request more left
        asked.well serves.says asks_spelt asks_same in
        let answers : Answers server tools.packs turn.asked serve.answer =
        subst (λ (a : Asked). Answers server tools.packs a serve.answer) told.0 serves.answers in
        let taken : IsTaken tools server.graph.format specs waiting turn.asked first next serve.answer rest after =
        takes_reply tools laws.replies server is specs waiting turn.asked first next serve.answer turn.reply reply rest after
        asked.plain asked.waits asked.well answers is_turn.takes reply_spelt reply_same in
        let w = world_at server first.session first.repo sent kept mark in
        let first_step = stepped w event.Ask (outcomes.Asked n) waiting first.repo (sent ++ turn.asked ∷ []) kept mark
        ends ends.refs asked.plain.session (waiting, turn.asked, is_turn.asks, count, refl) in
        let v = world_at server waiting first.repo (sent ++ turn.asked ∷ []) kept mark in
        let second_step = stepped v (event.Serve n) (outcomes.Served n) waiting first.repo (sent ++ turn.asked ∷ [])
        (kept ++ one ∷ []) mark first_step.1 ends.refs asked.plain.session
        (serves_step waiting first.repo sent kept mark turn.asked serve.answer n count also answers) in
        let u = world_at server waiting first.repo (sent ++ turn.asked ∷ []) (kept ++ one ∷ []) mark in
        let third_step = stepped u (event.Deliver n (length (reply_bytes serve.answer))) taken.outcome next.session
        next.repo (sent ++ turn.asked ∷ []) (kept ++ one ∷ []) (is_pack taken.outcome) second_step.1
        (subst IsRefs (sym taken.refs_after) ends.refs) taken.plain.session
        (delivers_step waiting next.session first.repo next.repo (sent ++ turn.asked ∷ []) kept mark one taken.outcome n
        also asked.waits taken.takes) in record {
          outcome = taken.outcome;
          waiting = waiting;
          asks = first_step.0;
          serves = second_step.0;
          delivers = third_step.0;
          done = taken.done;
          plain = taken.plain;
          ends = third_step.1;
          asked_left = told.1;
          answered_left = taken.left;
        }

    -- ---- all rounds, and the end

    -- `Settle` updates the refs
    pub settles : (last : ClientState A) (new : RepoState A) (updates : List RefUpdate)
        → last.session.stage ≡ Settling → SettlesAsks last.repo last.session.asks new (Ok updates) → IsRefs new.refs
        → IsEnd tools server specs last new (event.Settle ∷ []) (settled_outcome updates ∷ [])
    settles last new updates stage asks refs sent kept mark ends plain =
        let s = last.session in
        let after = record (over s) { asks = [] } in
        let w = world_at server s last.repo sent kept mark in
        let step = stepped w event.Settle (settled_outcome updates) after new sent kept false ends refs
        (settled_session s plain.session)
        (after, new, s.asks, updates, (stage, refl, refl, asks), refl, refl) in record {
          last = world_at server after new sent kept false;
          run = (world_at server after new sent kept false, step.0, refl);
          repo_after = refl;
          server_after = refl;
          replies = refl;
          requests = refl;
        }

    -- `Settle` fails
    pub settles_none : (last : ClientState A) (new : RepoState A) (cause : RepoFault A)
        → last.session.stage ≡ Settling → SettlesAsks last.repo last.session.asks new (Err cause) → IsRefs new.refs
        → IsEnd tools server specs last new (event.Settle ∷ []) (outcomes.Fault (code_of (Repo cause)) ∷ [])
    settles_none last new cause stage asks refs sent kept mark ends plain =
        let s = last.session in
        let w = world_at server s last.repo sent kept mark in
        let step = stepped w event.Settle (outcomes.Fault (code_of (Repo cause))) (over s) new sent kept false ends refs
        (over_session s plain.session)
        (over s, new, Repo cause, (stage, refl, asks), refl, refl) in record {
          last = world_at server (over s) new sent kept false;
          run = (world_at server (over s) new sent kept false, step.0, refl);
          repo_after = refl;
          server_after = refl;
          replies = refl;
          requests = refl;
        }

    -- the fetch ends after its rounds
    pub stops : (last : ClientState A) (new : RepoState A) → new ≡ last.repo → IsEnd tools server specs last new [] []
    stops last new same sent kept mark ends plain = record {
      last = world_at server last.session last.repo sent kept mark;
      run = refl;
      repo_after = sym same;
      server_after = refl;
      replies = refl;
      requests = refl;
    }

    ends_well : (first : ClientState A) (sent : List Asked) (kept : List Kept) (mark : Bool) (n : ℕ)
        (answered rest : List ℕ) (new : RepoState A) (late : List (Event A)) (told : List Outcome)
        → AreEndsConnected (world_at server first.session first.repo sent kept mark)
        → IsPlain server.graph.format specs first.session → IsEnd tools server specs first new late told
        → answered ≡ rest
        → GoesOn tools server (world_at server first.session first.repo sent kept mark) n [] answered rest new late told
    ends_well first sent kept mark n answered rest new late told ends plain is_end left =
        let end = is_end sent kept mark ends plain in record {
          more = [];
          taken = [];
          last = end.last;
          run = end.run;
          done = All-nil IsDone;
          repo_after = end.repo_after;
          server_after = end.server_after;
          replies = end.replies ∙ sym (append-nil kept);
          requests = end.requests ∙ sym (append-nil sent);
          wrote = refl;
          read = left;
        }

    pub goes_on : (turns : List Turn) (served : List Exchange) (first last : ClientState A)
        (sent : List Asked) (kept : List Kept) (mark : Bool) (n : ℕ) (asks left more answers rest tail : List ℕ)
        (new : RepoState A) (late : List (Event A)) (told : List Outcome) → n ≡ length sent → n ≡ length kept
        → AreEndsConnected (world_at server first.session first.repo sent kept mark)
        → IsPlain server.graph.format specs first.session
        → AreTurns tools.indexes tools.index_fails first turns last → All (IsExchange server tools.packs) served
        → SpellsAll (requests_read served) asks
        → asks ++ left ≡ requests_bytes server.graph.format turns ++ more
        → SpellsAll (replies_read turns) answers → answers ++ rest ≡ canonical_all (replies_written served) ++ tail
        → NoReplyAfter server tools left tail → IsEnd tools server specs last new late told
        → GoesOn tools server (world_at server first.session first.repo sent kept mark) n (requests_bytes server.graph.format turns)
        (canonical_all (replies_written served) ++ tail) rest new late told
    goes_on [] served first last sent kept mark n asks left more answers rest tail new late told count also ends plain
        turns serves asked_spelt asked_same read_spelt read_same none is_end =
        ends_well first sent kept mark n (canonical_all (replies_written served) ++ tail) rest new late told ends plain
        (subst (λ (c : ClientState A). IsEnd tools server specs c new late told) turns is_end)
        (sym read_same ∙ ap (λ (l : List ℕ). l ++ rest) read_spelt)
    goes_on (turn ∷ turns) [] first last sent kept mark n asks left more answers rest tail new late told count also ends
        plain (next, is_turn, later) serves asked_spelt asked_same read_spelt read_same none is_end =
        let parts = laws.split turn.reply (replies_read turns) answers read_spelt in
        let format = server.graph.format in
        let asked : HasAsked format specs turn.asked is_turn.waiting =
        asks_well laws.replies.sessions format specs first.session is_turn.waiting first.repo.graph turn.asked plain
        ends.graph sources is_turn.asks in
        let remain : left ≡ request_bytes format turn.asked ++ (requests_bytes format turns ++ more) =
        sym (ap (λ (l : List ℕ). l ++ left) asked_spelt) ∙ asked_same
        ∙ append_assoc (request_bytes format turn.asked) (requests_bytes format turns) more in
        absurd (none turn.asked (requests_bytes format turns ++ more) asked.well remain
        is_turn.waiting turn.asked first next turn.reply parts.0 (parts.1 ++ rest) is_turn.takes parts.3
        (sym (append_assoc parts.0 parts.1 rest) ∙ ap (λ (l : List ℕ). l ++ rest) (sym parts.2) ∙ read_same))
    goes_on (turn ∷ turns) (serve ∷ served) first last sent kept mark n asks left more answers rest tail new late told
        count also ends plain (next, is_turn, later) serves asked_spelt asked_same read_spelt read_same none is_end =
        let format = server.graph.format in
        let one : Kept = record { asked = turn.asked; reply = serve.answer } in
        let mine = laws.split serve.request (requests_read served) asks asked_spelt in
        let theirs = laws.split turn.reply (replies_read turns) answers read_spelt in
        let reply = reply_packets Plain serve.answer in
        let written : canonical_all (reply ++ replies_written served) ++ tail
        ≡ reply_bytes serve.answer ++ (canonical_all (replies_written served) ++ tail) =
        ap (λ (l : List ℕ). l ++ tail) (laws.joins reply (replies_written served))
        ∙ append_assoc (reply_bytes serve.answer) (canonical_all (replies_written served)) tail in
        let here : IsRound tools server specs first next one sent kept mark n (mine.1 ++ left) (requests_bytes format turns ++ more)
        (theirs.1 ++ rest) (canonical_all (replies_written served) ++ tail) =
        round first next turn serve sent kept mark n mine.0 (mine.1 ++ left) (requests_bytes format turns ++ more)
        theirs.0 (theirs.1 ++ rest) (canonical_all (replies_written served) ++ tail) count also ends plain is_turn
        (All-head (IsExchange server tools.packs) serve served serves) mine.3
        (regroup asks mine.0 mine.1 left (request_bytes format turn.asked) (requests_bytes format turns) more mine.2
        asked_same) theirs.3
        (sym (append_assoc theirs.0 theirs.1 rest) ∙ ap (λ (l : List ℕ). l ++ rest) (sym theirs.2) ∙ read_same
        ∙ written) in
        let then = goes_on turns served next last (sent ++ turn.asked ∷ []) (kept ++ one ∷ []) (is_pack here.outcome)
        (n + 1) mine.1 left more theirs.1 rest tail new late told (one_more sent turn.asked n count)
        (one_more kept one n also) here.ends here.plain later
        (All-tail (IsExchange server tools.packs) serve served serves) mine.4 here.asked_left theirs.4
        here.answered_left none is_end in record {
          more = one ∷ then.more;
          taken = here.outcome ∷ then.taken;
          last = then.last;
          run = (
            world_at server here.waiting first.repo (sent ++ turn.asked ∷ []) kept mark,
            here.asks,
            (
              world_at server here.waiting first.repo (sent ++ turn.asked ∷ []) (kept ++ one ∷ []) mark,
              here.serves,
              (
                world_at server next.session next.repo (sent ++ turn.asked ∷ []) (kept ++ one ∷ []) (is_pack here.outcome),
                here.delivers,
                then.run,
              ),
            ),
          );
          done = All-cons IsDone here.outcome then.taken here.done then.done;
          repo_after = then.repo_after;
          server_after = then.server_after;
          replies = then.replies ∙ append_assoc kept (one ∷ []) then.more;
          requests = then.requests ∙ append_assoc sent (turn.asked ∷ []) (map (λ (k : Kept). k.asked) then.more);
          wrote = ap (λ (b : List ℕ). request_bytes format turn.asked ++ b) then.wrote;
          read = written ∙ ap (λ (b : List ℕ). reply_bytes serve.answer ++ b) then.read
              ∙ sym (append_assoc (reply_bytes serve.answer)
              (flat_map (λ (k : Kept). reply_bytes k.reply) then.more) rest);
        }
