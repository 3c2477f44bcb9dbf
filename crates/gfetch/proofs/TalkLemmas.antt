-- A dialogue of a client is a conversation of turns.
use Rattle.std.proofs.Common.{◌≡◌, ◌∙◌, ◌⊎◌, ℕ, inl, inr, true, false, List, [], ◌∷◌, ◌++◌, Option, Some, None, Ok, refl, sym, ap, subst, append-nil, append_assoc}
use Rattle.std.proofs.lemmas.Grind.{flat_map-append}
use Rattle.gname.specs.declared.formats.Format.{Format}
use Rattle.gpkt.specs.Packets.{Packet}
use Rattle.gobject.specs.declared.node.Entry.{Entry}
use Rattle.gobject.specs.Packs.{Indexes, IndexFails}
use Rattle.grequest.specs.Asked.{Asked, Empty, Ls, Fetches}
use Rattle.grequest.specs.RequestWriting.{canonical_request}
use Rattle.gsession.specs.Requesting.{Requests, waiting_for}
use Rattle.gname.specs.Ids.{Id}
use Rattle.gname.specs.Names.{Name}
use Rattle.ggrammar.specs.Capabilities.{Capability}
use Rattle.gclientrepo.specs.Repos.{RepoState}
use Rattle.gsession.specs.declared.fault.ClientFault.{ClientFault}
use Rattle.gsession.specs.declared.taken.Taken.{Taken}
use Rattle.gsession.specs.declared.taken.Taken.TheVariants.{Round, PackTaken}
use Rattle.gfetchreply.specs.FetchReplies.{FetchReply}
use Rattle.gsession.specs.TakingReplies.{TakesHead}
use Rattle.gsession.specs.Sessions.{SessionState, IsBegun, tells_unborn}
use Rattle.gdialogue.specs.Dialogues.{Answered}
use Rattle.gdialogue.specs.Dialogues as dialogue
use Rattle.gfetch.specs.Fetching.{AcceptsReply, AnswersAdvert, AnswersAfter, AnswersMessage, AsksOn, GoesOn, IsFresh, KeepsObjects, MismatchesAdvert, OpensFresh, RefusesMessage, start_of_side}
use Rattle.gfetch.specs.Heard.{session_brings, session_judge}
use Rattle.gfetch.specs.Laws.{HasTalked, IsTalk, asked_packets, reply_packets}
use Rattle.gfetch.specs.Laws as talk
use Rattle.gfetch.specs.Starts.{Advertises, hear_advert}
use Rattle.gfetch.specs.Turns.{AreTurns, AsksNext, ClientState, IsTurn, Takes, Turn}
use Rattle.gfetch.specs.declared.side.ClientSide.{ClientSide}
use Rattle.gfetch.proofs.SideLemmas.{objects_then}

pub not_both : {P : Type 0} → true ≡ false → P
not_both e = absurd (cc e)

-- an answer after which the dialogue continues is a request
goes_asks : {A K : Type 0} (client : ClientState A) (kept : Option (ClientFault A)) (new : ClientSide A K) (said : List Packet)
    → GoesOn client kept new said true → AsksOn client kept new said true
goes_asks client kept new said (inl asks) = asks
goes_asks client kept new said (inr (inl ends)) = not_both ends.ended
goes_asks client kept new said (inr (inr lacks)) = not_both lacks.ended

module _ {A : Type 0} (g : List (Entry A)) (old waiting : SessionState A) where
  waits_for : (asked : Asked) (batch : List (List ℕ)) → (waiting_for old asked batch).pending ≡ Some asked
  waits_for Empty batch = refl
  waits_for (Ls asked) batch = refl
  waits_for (Fetches asked) batch = refl

  -- the open request is the request that the session made
  pub waits : (asked : Asked) → Requests old g waiting (Ok asked) → waiting.pending ≡ Some asked
  waits asked made = ap (λ (s : SessionState A). s.pending) made.1.2 ∙ waits_for asked made.1.0

-- turns followed by one more turn
pub turn_more : {A : Type 0} (indexes : Indexes A) (index_fails : IndexFails) (first mid last : ClientState A) (turns : List Turn) (turn : Turn)
    → AreTurns indexes index_fails first turns mid → IsTurn indexes index_fails mid turn last
    → AreTurns indexes index_fails first (turns ++ turn ∷ []) last
turn_more indexes index_fails first mid last [] turn are is =
    (last, subst (λ c. IsTurn indexes index_fails c turn last) are is, refl)
turn_more indexes index_fails first mid last (one ∷ turns) turn are is =
    (are.0, are.1, turn_more indexes index_fails are.0 mid last turns turn are.2 is)

-- accepting a reply depends only on the repository and on the target of an unborn HEAD
pub takes_same : {A : Type 0} (indexes : Indexes A) (index_fails : IndexFails) (waiting : SessionState A) (asked : Asked) (one other now : ClientState A) (lines : List Packet)
    → one.repo ≡ other.repo → one.unborn ≡ other.unborn
    → Takes indexes index_fails waiting asked one lines now → Takes indexes index_fails waiting asked other lines now
takes_same indexes index_fails waiting Empty one other now lines repo unborn takes = absurd takes
takes_same indexes index_fails waiting (Ls asked) one other now lines repo unborn takes =
    let t = rw repo at takes in record {
      reply = t.reply;
      says = t.says;
      taken = t.taken;
      takes = t.takes;
      unborn = t.unborn;
      stays = t.stays;
    }
takes_same indexes index_fails waiting (Fetches asked) one other now lines repo unborn takes =
    let t = rw repo at takes in record {
      reply = t.reply;
      says = t.says;
      taken = t.taken;
      takes = t.takes;
      unborn = t.unborn ∙ unborn;
    }

-- ---- the object format stays the same

format_asked : {A : Type 0} (old : SessionState A) (asked : Asked) (batch : List (List ℕ)) → (waiting_for old asked batch).format ≡ old.format
format_asked old Empty batch = refl
format_asked old (Ls asked) batch = refl
format_asked old (Fetches asked) batch = refl

pub format_waits : {A : Type 0} (g : List (Entry A)) (old waiting : SessionState A) (asked : Asked) → Requests old g waiting (Ok asked) → waiting.format ≡ old.format
format_waits {A = A} g old waiting asked made = ap (λ (s : SessionState A). s.format) made.1.2 ∙ format_asked old asked made.1.0

format_head : {A : Type 0} (indexes : Indexes A) (index_fails : IndexFails) (old new : SessionState A) (one other : RepoState A) (reply : FetchReply) (taken : Taken)
    → TakesHead indexes index_fails old one reply new other taken → new.format ≡ old.format
format_head {A = A} indexes index_fails old new one other reply (Round common) takes = ap (λ (s : SessionState A). s.format) takes.1
format_head {A = A} indexes index_fails old new one other reply (PackTaken added) takes = ap (λ (s : SessionState A). s.format) takes.1

pub format_takes : {A : Type 0} (indexes : Indexes A) (index_fails : IndexFails) (waiting : SessionState A) (asked : Asked) (old now : ClientState A) (lines : List Packet)
    → Takes indexes index_fails waiting asked old lines now → now.session.format ≡ waiting.format
format_takes {A = A} indexes index_fails waiting Empty old now lines takes = absurd takes
format_takes {A = A} indexes index_fails waiting (Ls asked) old now lines takes = ap (λ (s : SessionState A). s.format) takes.takes.after
format_takes {A = A} indexes index_fails waiting (Fetches asked) old now lines takes =
    format_head indexes index_fails waiting now.session old.repo now.repo takes.reply takes.taken takes.takes.1

-- ---- the first answer

module _ {A K : Type 0} (indexes : Indexes A) (index_fails : IndexFails) (keeps : K → Id → Type 0) (first : ClientSide A K) where
  module _ (fresh : IsFresh first) where
    pub heard_is : (capabilities : List Capability)
        → record first.client { session = record first.client.session { offers_unborn = tells_unborn capabilities } }
        ≡ hear_advert (start_of_side first) capabilities
    heard_is capabilities =
        ap (λ (s : SessionState A). record first.client { session = record s { offers_unborn = tells_unborn capabilities } }) fresh.begun
        ∙ ap (λ (u : Option Name). record (hear_advert (start_of_side first) capabilities) { unborn = u }) fresh.unborn

    pub format_is : first.client.session.format ≡ first.client.repo.graph.format
    format_is = ap (λ (s : SessionState A). s.format) fresh.begun

    pub pending_is : first.client.session.pending ≡ None
    pending_is = ap (λ (s : SessionState A). s.pending) fresh.begun

    pub begun_is : IsBegun first.client.session
    begun_is = (ap (λ (s : SessionState A). s.stage) fresh.begun, pending_is)

    after_advert : (lines reply : List Packet) (now : ClientSide A K) → KeepsObjects keeps first now
        → AnswersAdvert first now lines reply true → HasTalked indexes index_fails keeps first lines reply now
    after_advert lines reply now same heard =
        let client = record first.client { session = record first.client.session { offers_unborn = tells_unborn heard.capabilities } } in
        let asks = goes_asks client first.fault now reply heard.goes_on in
        record {
          packets = lines;
          capabilities = heard.capabilities;
          advertises = subst (λ (f : Format). Advertises f lines heard.capabilities) format_is heard.advertises;
          turns = [];
          last = hear_advert (start_of_side first) heard.capabilities;
          each = refl;
          all_heard = sym (append-nil lines);
          asked = asks.asked;
          asks = subst (λ (c : ClientState A). AsksNext c asks.asked now.client.session) (heard_is heard.capabilities) asks.asks;
          all_said = asks.all ∙ ap (λ (f : Format). canonical_request f asks.asked) format_is;
          format = format_waits first.client.repo.graph.entries client.session now.client.session asks.asked asks.asks ∙ format_is;
          repo = asks.repo;
          unborn = asks.unborn ∙ fresh.unborn;
          fault = asks.fault;
          indexer = same;
        }

    first_answer : (lines reply : List Packet) (now : ClientSide A K) → KeepsObjects keeps first now
        → AnswersAdvert first now lines reply true ⊎ MismatchesAdvert first now lines reply true
        → HasTalked indexes index_fails keeps first lines reply now
    first_answer lines reply now same (inl heard) = after_advert lines reply now same heard
    first_answer lines reply now same (inr not) = not_both not.fails.ended

    pub first_talk : (lines reply : List Packet) (now : ClientSide A K) → AnswersMessage indexes index_fails keeps first lines reply true now
        → HasTalked indexes index_fails keeps first lines reply now
    first_talk lines reply now answers =
        first_answer lines reply now answers.indexer
        (subst (λ (p : Option Asked). AnswersAfter indexes index_fails keeps p first now lines reply true) pending_is answers.answers begun_is)

  -- ---- a further answer

  pub accepted : (asked : Asked) (g : List (Entry A)) (last : SessionState A) (mid now : ClientSide A K) (lines reply : List Packet)
      → Requests last g mid.client.session (Ok asked)
      → AnswersAfter indexes index_fails keeps (Some asked) mid now lines reply true
      → AcceptsReply indexes index_fails asked mid now lines reply true
  accepted Empty g last mid now lines reply made answers = absurd made.1.1
  accepted (Ls asked) g last mid now lines reply made (inl takes) = takes
  accepted (Ls asked) g last mid now lines reply made (inr declines) = not_both declines.fails.ended
  accepted (Fetches asked) g last mid now lines reply made (inl takes) = takes
  accepted (Fetches asked) g last mid now lines reply made (inr declines) = not_both declines.fails.ended

  pub more_talk : (heard said lines reply : List Packet) (mid now : ClientSide A K) → HasTalked indexes index_fails keeps first heard said mid
      → AnswersMessage indexes index_fails keeps mid lines reply true now
      → HasTalked indexes index_fails keeps first (heard ++ lines) (said ++ reply) now
  more_talk heard said lines reply mid now h answers =
      let g = h.last.repo.graph.entries in
      let opened = waits g h.last.session mid.client.session h.asked h.asks in
      let format = first.client.repo.graph.format in
      let a = accepted h.asked g h.last.session mid now lines reply h.asks
      (subst (λ (p : Option Asked). AnswersAfter indexes index_fails keeps p mid now lines reply true) opened answers.answers) in
      let asks = goes_asks a.now mid.fault now reply a.goes_on in
      let turn : Turn = record { asked = h.asked; reply = lines } in
      let is : IsTurn indexes index_fails h.last turn a.now = record {
        waiting = mid.client.session;
        asks = h.asks;
        takes = takes_same indexes index_fails mid.client.session h.asked mid.client h.last a.now lines h.repo h.unborn a.takes;
      } in
      let kept = format_takes indexes index_fails mid.client.session h.asked mid.client a.now lines a.takes ∙ h.format in
      record {
        packets = h.packets;
        capabilities = h.capabilities;
        advertises = h.advertises;
        turns = h.turns ++ turn ∷ [];
        last = a.now;
        each = turn_more indexes index_fails (hear_advert (start_of_side first) h.capabilities) h.last a.now h.turns turn h.each is;
        all_heard =
            ap (λ (l : List Packet). l ++ lines) h.all_heard ∙ append_assoc h.packets (reply_packets h.turns) lines
            ∙ ap (λ (l : List Packet). h.packets ++ l) (sym (flat_map-append (λ (t : Turn). t.reply) h.turns (turn ∷ []) ∙ ap (λ (l : List Packet). reply_packets h.turns ++ l) (append-nil lines)));
        asked = asks.asked;
        asks = asks.asks;
        all_said =
            ap (λ (l : List Packet). l ++ reply) h.all_said
            ∙ ap (λ (l : List Packet). (asked_packets format h.turns ++ canonical_request format h.asked) ++ l) (asks.all ∙ ap (λ (f : Format). canonical_request f asks.asked) kept)
            ∙ ap (λ (l : List Packet). l ++ canonical_request format asks.asked)
            (sym (flat_map-append (λ (t : Turn). canonical_request format t.asked) h.turns (turn ∷ []) ∙ ap (λ (l : List Packet). asked_packets format h.turns ++ l) (append-nil (canonical_request format h.asked))));
        format = format_waits a.now.repo.graph.entries a.now.session now.client.session asks.asked asks.asks ∙ kept;
        repo = asks.repo;
        unborn = asks.unborn;
        fault = asks.fault ∙ h.fault;
        indexer = objects_then keeps first mid now h.indexer answers.indexer;
      }

  talks_on : (heard said lines reply : List Packet) (mid now : ClientSide A K) → IsTalk indexes index_fails keeps first heard said mid
      → AnswersMessage indexes index_fails keeps mid lines reply true now
      → IsTalk indexes index_fails keeps first (heard ++ lines) (said ++ reply) now
  talks_on heard said lines reply mid now (talk.IsTalk.begun fresh) answers = talk.IsTalk.talked lines reply now fresh (first_talk fresh lines reply now answers)
  talks_on heard said lines reply mid now (talk.IsTalk.talked so_far so_said there fresh h) answers =
      talk.IsTalk.talked (so_far ++ lines) (so_said ++ reply) now fresh (more_talk so_far so_said lines reply there now h answers)

  pub dialogues_are_turns : (heard said : List Packet) (now : ClientSide A K)
      → Answered (λ (side : ClientSide A K). session_judge side.client.session) (λ (side : ClientSide A K). session_brings side.client.session) OpensFresh
      (AnswersMessage indexes index_fails keeps) RefusesMessage first heard said now
      → IsTalk indexes index_fails keeps first heard said now
  dialogues_are_turns heard said now (dialogue.Answered.opened packets h) =
      subst (λ (l : List Packet). IsTalk indexes index_fails keeps first [] l first) (sym h.1.0) (talk.IsTalk.begun h.0)
  dialogues_are_turns heard said now (dialogue.Answered.more so_far so_said lines reply mid last before whole answers) =
      talks_on so_far so_said lines reply mid last (dialogues_are_turns so_far so_said mid before) answers
