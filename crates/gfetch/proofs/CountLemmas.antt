-- The number of requests for objects in a conversation, completed or failed.
use Rattle.std.proofs.Common.{◌≡◌, ℕ, ◌+◌, ◌≤◌, List, [], ◌∷◌, ◌++◌, length, None, Some, Ok, refl, sym, ap, subst, ◌∙◌}
use Rattle.std.proofs.Common.{append-nil, arith, Option, Err, append_assoc}
use Rattle.gpkt.specs.Change.{Change}
use Rattle.gpkt.specs.Packets.{Packet}
use Rattle.gpkt.specs.Sending.{Input, Output, IsUnwritten}
use Rattle.ggrammar.specs.Capabilities.{Capability}
use Rattle.gfetchreply.specs.FetchReplies.{FetchReply}
use Rattle.gdag.specs.Reach.{Grows}
use Rattle.gdag.specs.Walks.{CountsReached}
use Rattle.gdag.proofs.Growing.{grows_on}
use Rattle.gobject.specs.Packs.{Indexes, IndexFails}
use Rattle.gclientrepo.specs.Repos.{IsConnectedRepo, RepoState}
use Rattle.grequest.specs.Asked.{Asked, Empty, Ls, Fetches}
use Rattle.gsession.specs.Bounds.{BeganOn, BeganStaysOn, BeginsCounted, BeganBegins, CountedAreFew, CountedStays}
use Rattle.gsession.specs.Bounds.{IsCounted}
use Rattle.gsession.specs.Calls.{HasCalled, heard as heard_call, requested, took_refs, took_reply}
use Rattle.gsession.specs.declared.taken.Taken.TheVariants.{Round, PackTaken}
use Rattle.gsession.specs.Sessions.{SessionState, max_specs, tips_of, new_session}
use Rattle.gsession.specs.declared.taken.Taken.{Taken}
use Rattle.gsession.specs.Laws.{EachGoesOn}
use Rattle.gsession.specs.Requesting.{waiting_for}
use Rattle.gsession.specs.TakingReplies.{TakesHead}
use Rattle.gfetch.specs.Conversations.{Converses, Fails, cannot_ask, cannot_begin, cannot_hear}
use Rattle.gfetch.specs.Starts.{Start, begin_session, hear_advert}
use Rattle.gfetch.specs.Conversations.{cannot_send, cannot_settle, cannot_take, no_buffer, HasFetched, FailsToAsk}
use Rattle.gfetch.specs.Conversations.{HasAsked, IsDue, request, ending, request_bytes, requests_bytes}
use Rattle.gfetch.specs.Laws.{NextIsFew, RoundsAreAsked, TalksAreFew, asked_in, count_of, objects_asked, AsksAtMost}
use Rattle.gfetch.specs.Laws.{EndsAreFew}
use Rattle.gfetch.specs.Turns.{AreTurns, AsksNext, ClientState, IsTurn, Takes, Turn}
use Rattle.gfetch.specs.declared.fault.FetchFault.{FetchFault}
use Rattle.gfetch.specs.declared.fetched.Fetched.{Fetched}
use Rattle.gfetch.proofs.KeptLemmas.{turn_kept}
use Rattle.gfetch.proofs.TalkLemmas.{waits}
use Rattle.std.specs.List.{flat_map}
use Rattle.std.specs.Io.KnownBytes.{Appends}
use Rattle.std.proofs.lemmas.Grind.{flat_map-append}
use Rattle.gname.specs.declared.formats.Format.{Format}

-- ---- the calls of a turn

abbrev unknown : Change
unknown = record { old = None; new = None }

-- the laws of sessions from which the bound follows
pub record CountLaws {A : Type 0} (indexes : Indexes A) (index_fails : IndexFails) : Type 0 where
  pub begins_on : BeganBegins A
  pub stays_on : BeganStaysOn indexes index_fails
  pub goes_on : EachGoesOn indexes index_fails
  pub few : CountedAreFew A
  pub begins : BeginsCounted A
  pub counted : CountedStays indexes index_fails

-- one more request adds its `count_of` to the number of requests for objects
pub one_more : (requests : List Asked) (asked : Asked)
    → objects_asked (requests ++ asked ∷ []) ≡ objects_asked requests + count_of asked
one_more [] asked = omega arith
one_more (other ∷ requests) asked =
    let more : objects_asked (requests ++ asked ∷ []) ≡ objects_asked requests + count_of asked =
    one_more requests asked in
    let longer : objects_asked ((other ∷ requests) ++ asked ∷ [])
    ≡ count_of other + objects_asked (requests ++ asked ∷ []) = refl in
    let before : objects_asked (other ∷ requests) ≡ count_of other + objects_asked requests = refl in
    omega arith

module _ {A : Type 0} (indexes : Indexes A) (index_fails : IndexFails) where
  taken_called : (old : ClientState A) (waiting : SessionState A) (asked : Asked) (reply : List
      Packet) (new : ClientState A) → waiting.pending ≡ Some asked
      → Takes indexes index_fails waiting asked old reply new
      → HasCalled indexes index_fails old.repo waiting new.session
  taken_called old waiting Empty reply new awaits takes = absurd takes
  taken_called old waiting (Ls asked) reply new awaits takes =
      took_refs unknown (Ok takes.taken) (
        (asked, awaits),
        (
          takes.reply,
          record { lines = reply; read = record { whole = takes.says.whole; bytes = tt }; says = takes.says },
          takes.takes,
        ),
      )
  taken_called old waiting (Fetches asked) reply new awaits takes =
      took_reply new.repo unknown (Ok takes.taken) (
        asked,
        awaits,
        (
          takes.reply,
          record { lines = reply; read = record { whole = takes.says.whole; bytes = tt }; says = takes.says },
          takes.takes,
        ),
      )

  asked_rounds : (old : SessionState A) (asked : Asked) (batch : List (List ℕ))
      → (waiting_for old asked batch).rounds ≡ old.rounds + count_of asked
  asked_rounds old Empty batch = let none : count_of Empty ≡ 0 = refl in omega arith
  asked_rounds old (Ls asked) batch = let none : count_of (Ls asked) ≡ 0 = refl in omega arith
  asked_rounds old (Fetches asked) batch = refl

  head_rounds : (repo : RepoState A) (waiting new : SessionState A) (reply : FetchReply) (after : RepoState A)
      (taken : Taken)
      → TakesHead indexes index_fails waiting repo reply new after taken → new.rounds ≡ waiting.rounds
  head_rounds repo waiting new reply after (Round common) took = ap (λ (s : SessionState A). s.rounds) took.1
  head_rounds repo waiting new reply after (PackTaken added) took = ap (λ (s : SessionState A). s.rounds) took.1

  taken_rounds : (old : ClientState A) (waiting : SessionState A) (asked : Asked) (reply : List Packet)
      (new : ClientState A)
      → Takes indexes index_fails waiting asked old reply new → new.session.rounds ≡ waiting.rounds
  taken_rounds old waiting Empty reply new takes = absurd takes
  taken_rounds old waiting (Ls asked) reply new takes = ap (λ (s : SessionState A). s.rounds) takes.takes.after
  taken_rounds old waiting (Fetches asked) reply new takes =
      head_rounds old.repo waiting new.session takes.reply new.repo takes.taken takes.takes.1

  -- ---- the number of rounds

  next_rounds : (old : ClientState A) (asked : Asked) (waiting : SessionState A) → AsksNext old asked waiting
      → waiting.rounds ≡ old.session.rounds + count_of asked
  next_rounds old asked waiting made =
      ap (λ (s : SessionState A). s.rounds) made.1.2 ∙ asked_rounds old.session asked made.1.0

  turn_rounds : (old : ClientState A) (turn : Turn) (new : ClientState A) → IsTurn indexes index_fails old turn new
      → new.session.rounds ≡ old.session.rounds + count_of turn.asked
  turn_rounds old turn new is =
      taken_rounds old is.waiting turn.asked turn.reply new is.takes
      ∙ next_rounds old turn.asked is.waiting is.asks

  turns_rounds : (first : ClientState A) (talk : List Turn) (last : ClientState A)
      → AreTurns indexes index_fails first talk last
      → last.session.rounds ≡ first.session.rounds + objects_asked (asked_in talk)
  turns_rounds first [] last is =
      let nothing : objects_asked (asked_in []) ≡ 0 = refl in
      let same : last.session.rounds ≡ first.session.rounds = ap (λ (c : ClientState A). c.session.rounds) is in
      omega (arith, same)
  turns_rounds first (turn ∷ talk) last (next, is, rest) =
      let more : objects_asked (asked_in (turn ∷ talk)) ≡ count_of turn.asked + objects_asked (asked_in talk) = refl in
      omega (arith, turn_rounds first turn next is, turns_rounds next talk last rest)

  pub rounds_are_asked : RoundsAreAsked indexes index_fails
  rounds_are_asked start capabilities talk last are =
      let none : (hear_advert start capabilities).session.rounds ≡ 0 = refl in
      omega (arith, turns_rounds (hear_advert start capabilities) talk last are)

  -- ---- the conversation so far

  -- the properties of a session and its graph that every call preserves
  record IsGoing (start : Start A) (session : SessionState A) (repo : RepoState A) : Type 0 where
    counted : IsCounted session
    began : BeganOn start.repo.graph.entries session
    grows : Grows start.repo.graph.entries repo.graph.entries
    tips : session.tips ≡ tips_of start.repo

  still : (start : Start A) → Grows start.repo.graph.entries start.repo.graph.entries
  still start = ([], sym (append-nil start.repo.graph.entries))

  module _ (laws : CountLaws indexes index_fails) (start : Start A) where
    -- every call preserves `IsGoing`
    called : (old new : SessionState A) (repo after : RepoState A) → IsGoing start old repo
        → HasCalled indexes index_fails repo old new → Grows start.repo.graph.entries after.graph.entries
        → IsGoing start new after
    called old new repo after was call grows = record {
      counted = laws.counted repo old new was.counted call;
      began = laws.stays_on start.repo.graph.entries repo old new was.grows was.began call;
      grows = grows;
      tips = (laws.goes_on repo old new call).tips ∙ was.tips;
    }

    begun_going : IsConnectedRepo start.repo → length start.refspecs ≤ max_specs → IsGoing start (begin_session start) start.repo
    begun_going whole few =
        let plain : SessionState A =
        new_session start.repo.graph.format start.refspecs start.limit start.ends (tips_of start.repo) in
        let counted = laws.begins start.repo start.refspecs start.limit start.ends plain (few, refl) in
        let began = laws.begins_on start.repo start.refspecs start.limit start.ends plain whole (few, refl) in record {
          counted = record { once = counted.once; few = counted.few; due = counted.due };
          began = record { connected = began.connected; sent = began.sent };
          grows = still start;
          tips = refl;
        }

    heard_going : (capabilities : List Capability) → IsConnectedRepo start.repo → length start.refspecs ≤ max_specs
        → IsGoing start (hear_advert start capabilities).session start.repo
    heard_going capabilities whole few =
        called (begin_session start) (hear_advert start capabilities).session start.repo start.repo
        (begun_going whole few)
        (heard_call capabilities (Ok tt) ((refl, refl), refl)) (still start)

    -- the next request preserves `IsGoing`
    asked_going : (old : ClientState A) (asked : Asked) (waiting : SessionState A)
        → IsGoing start old.session old.repo → AsksNext old asked waiting → IsGoing start waiting old.repo
    asked_going old asked waiting was made =
        called old.session waiting old.repo old.repo was (requested (Ok asked) made) was.grows

    turn_going : (old : ClientState A) (turn : Turn) (new : ClientState A)
        → IsGoing start old.session old.repo → IsTurn indexes index_fails old turn new
        → IsGoing start new.session new.repo
    turn_going old turn new was is =
        called is.waiting new.session old.repo new.repo
        (asked_going old turn.asked is.waiting was is.asks)
        (taken_called old is.waiting turn.asked turn.reply new
        (waits old.repo.graph.entries old.session is.waiting turn.asked is.asks) is.takes)
        (grows_on start.repo.graph.entries old.repo.graph.entries new.repo.graph.entries was.grows
        (turn_kept indexes index_fails old turn new is).grows)

    turns_going : (first : ClientState A) (talk : List Turn) (last : ClientState A)
        → IsGoing start first.session first.repo → AreTurns indexes index_fails first talk last
        → IsGoing start last.session last.repo
    turns_going first [] last was is =
        subst (λ (c : ClientState A). IsGoing start c.session c.repo) (sym is) was
    turns_going first (turn ∷ talk) last was (next, is, rest) =
        turns_going next talk last (turn_going first turn next was is) rest

    talk_going : (capabilities : List Capability) (talk : List Turn) (last : ClientState A)
        → IsConnectedRepo start.repo → length start.refspecs ≤ max_specs
        → AreTurns indexes index_fails (hear_advert start capabilities) talk last
        → IsGoing start last.session last.repo
    talk_going capabilities talk last whole few are =
        turns_going (hear_advert start capabilities) talk last
        (heard_going capabilities whole few) are

    going_few : (session : SessionState A) (repo : RepoState A) (held parents : ℕ) → IsGoing start session repo
        → CountsReached start.repo.graph.entries (tips_of start.repo) held parents → session.rounds ≤ held + 1
    going_few session repo held parents going counts =
        laws.few start.repo.graph.entries session held parents going.counted going.began
        (subst (λ (ids : List (List ℕ)). CountsReached start.repo.graph.entries ids held parents)
        (sym going.tips) counts)

  pub talks_are_few : CountLaws indexes index_fails → TalksAreFew indexes index_fails
  talks_are_few laws start capabilities talk last held parents whole few are counts =
      let most = going_few laws start last.session last.repo held parents
      (talk_going laws start capabilities talk last whole few are) counts in
      omega (arith, most, rounds_are_asked start capabilities talk last are)

  pub next_is_few : CountLaws indexes index_fails → NextIsFew indexes index_fails
  next_is_few laws start capabilities talk last asked waiting held parents whole few are made counts =
      let going = asked_going laws start last asked waiting
      (talk_going laws start capabilities talk last whole few are) made in
      let most = going_few laws start waiting last.repo held parents going counts in
      let rounds = rounds_are_asked start capabilities talk last are in
      omega (arith, most, rounds, next_rounds last asked waiting made, one_more (asked_in talk) asked)

-- ---- the bytes of the requests

turns_bytes : (format : Format) (talk : List Turn)
    → flat_map (request_bytes format) (asked_in talk) ≡ requests_bytes format talk
turns_bytes format [] = refl
turns_bytes format (turn ∷ talk) = ap (λ (l : List ℕ). request_bytes format turn.asked ++ l) (turns_bytes format talk)

with_next : (format : Format) (talk : List Turn) (asked : Asked)
    → flat_map (request_bytes format) (asked_in talk ++ asked ∷ [])
    ≡ requests_bytes format talk ++ request_bytes format asked
with_next format talk asked =
    flat_map-append (request_bytes format) (asked_in talk) (asked ∷ [])
    ∙ ap (λ (l : List ℕ). flat_map (request_bytes format) (asked_in talk) ++ l)
    (append-nil (request_bytes format asked))
    ∙ ap (λ (l : List ℕ). l ++ request_bytes format asked) (turns_bytes format talk)

appends_none : (old new : Option (List ℕ)) → new ≡ old → Appends old new []
appends_none None new same = tt
appends_none (Some bytes) new same =
    subst (λ (n : Option (List ℕ)). Appends (Some bytes) n []) (sym same) (sym (append-nil bytes))

-- ---- the bytes written by the end of a conversation

no_fewer : (most : ℕ) → 0 ≤ most
no_fewer most = omega arith

none_asked : (format : Format) (output : Output) (most : ℕ) → IsUnwritten output → AsksAtMost format output most
none_asked format output most unwritten = record {
  requests = [];
  few = no_fewer most;
  front = [];
  rest = [];
  parts = refl;
  written = appends_none output.written.old output.written.new unwritten.written;
}

all_asked : (format : Format) (output : Output) (most : ℕ) (requests : List Asked) (bytes : List ℕ)
    → objects_asked requests ≤ most
    → flat_map (request_bytes format) requests ≡ bytes → Appends output.written.old output.written.new bytes
    → AsksAtMost format output most
all_asked format output most requests bytes few same written = record {
  requests = requests;
  few = few;
  front = bytes;
  rest = [];
  parts = same ∙ sym (append-nil bytes);
  written = written;
}

so_far_asked : (format : Format) (output : Output) (most : ℕ) (talk : List Turn) → objects_asked (asked_in talk) ≤ most
    → HasAsked format output talk
    → AsksAtMost format output most
so_far_asked format output most [] few asked = none_asked format output most asked
so_far_asked format output most (turn ∷ talk) few asked =
    all_asked format output most (asked_in (turn ∷ talk)) (requests_bytes format (turn ∷ talk)) few
    (turns_bytes format (turn ∷ talk)) asked.written

some_asked : (format : Format) (output : Output) (most : ℕ) (talk : List Turn) (asked : Asked)
    → objects_asked (asked_in talk ++ asked ∷ []) ≤ most
    → FailsToAsk format output talk (request_bytes format asked) → AsksAtMost format output most
some_asked format output most [] asked few failed = record {
  requests = asked ∷ [];
  few = few;
  front = failed.0.front;
  rest = failed.0.rest;
  parts = with_next format [] asked ∙ failed.0.parts;
  written = failed.0.written;
}
some_asked format output most (turn ∷ talk) asked few failed =
    let sent : List ℕ = requests_bytes format (turn ∷ talk) in
    record {
      requests = asked_in (turn ∷ talk) ++ asked ∷ [];
      few = few;
      front = sent ++ failed.front;
      rest = failed.rest;
      parts = with_next format (turn ∷ talk) asked ∙ ap (λ (l : List ℕ). sent ++ l) failed.parts
          ∙ sym (append_assoc sent failed.front failed.rest);
      written = failed.written;
    }

-- the lone flush packet is not a request for objects
flush_few : (talk : List Turn) (most : ℕ) → objects_asked (asked_in talk) ≤ most
    → objects_asked (asked_in talk ++ Empty ∷ []) ≤ most
flush_few talk most few =
    let none : count_of Empty ≡ 0 = refl in
    omega (arith, few, one_more (asked_in talk) Empty)

module _ {A : Type 0} (indexes : Indexes A) (index_fails : IndexFails) where
  module _ (talks : TalksAreFew indexes index_fails) (next : NextIsFew indexes index_fails) (start : Start A)
      (whole : IsConnectedRepo start.repo) (held parents : ℕ)
      (counts : CountsReached start.repo.graph.entries (tips_of start.repo) held parents) where
    talk_few : (input : Input) (talk : List Turn) (last : ClientState A) (Rest : Input → Type 0)
        → Converses indexes index_fails start input talk last Rest
        → objects_asked (asked_in talk) ≤ held + 1
    talk_few input talk last Rest so_far =
        talks start so_far.capabilities talk last held parents whole so_far.few so_far.each counts

    due_few : (input : Input) (talk : List Turn) (last : ClientState A) (Rest : Input → Type 0) (asked : Asked)
        → Converses indexes index_fails start input talk last Rest
        → IsDue indexes index_fails start last asked → objects_asked (asked_in talk ++ asked ∷ []) ≤ held + 1
    due_few input talk last Rest asked so_far (request also waiting made) =
        next start so_far.capabilities talk last also waiting held parents whole so_far.few so_far.each made counts
    due_few input talk last Rest asked so_far (ending stage) =
        flush_few talk (held + 1) (talk_few input talk last Rest so_far)

    fails_few : (input : Input) (output : Output) (new : RepoState A) (fault : FetchFault A)
        → Fails indexes index_fails start input output new fault
        → AsksAtMost start.repo.graph.format output (held + 1)
    fails_few input output new fault (cannot_begin cause begins unread unwritten same) =
        none_asked start.repo.graph.format output (held + 1) unwritten
    fails_few input output new fault (no_buffer few unread unwritten same) =
        none_asked start.repo.graph.format output (held + 1) unwritten
    fails_few input output new fault (cannot_hear cause few refuses unwritten same) =
        none_asked start.repo.graph.format output (held + 1) unwritten
    fails_few input output new fault (cannot_ask talk last after so_far made asked same) =
        so_far_asked start.repo.graph.format output (held + 1) talk (talk_few input talk last _ so_far) asked
    fails_few input output new fault (cannot_send talk last asked so_far due failed same) =
        some_asked start.repo.graph.format output (held + 1) talk asked (due_few input talk last _ asked so_far due)
        failed
    fails_few input output new fault (cannot_take talk last asked waiting cause made so_far passed same) =
        all_asked start.repo.graph.format output (held + 1) (asked_in talk ++ asked ∷ []) _
        (due_few input talk last _ asked so_far (request asked waiting made))
        (with_next start.repo.graph.format talk asked) passed.written
    fails_few input output new fault (cannot_settle talk last cause so_far stage passed settles) =
        all_asked start.repo.graph.format output (held + 1) (asked_in talk ++ Empty ∷ []) _
        (due_few input talk last _ Empty so_far (ending stage)) (with_next start.repo.graph.format talk Empty)
        passed.written

    fetches_few : (input : Input) (output : Output) (new : RepoState A) (fetched : Fetched A)
        → HasFetched indexes index_fails start input output new fetched
        → AsksAtMost start.repo.graph.format output (held + 1)
    fetches_few input output new fetched is =
        all_asked start.repo.graph.format output (held + 1) (asked_in is.talk ++ Empty ∷ []) _
        (due_few input is.talk is.last _ Empty is.converses (ending is.settles_next))
        (with_next start.repo.graph.format is.talk Empty) is.passed.written

  pub ends_are_few : TalksAreFew indexes index_fails → NextIsFew indexes index_fails → EndsAreFew indexes index_fails
  ends_are_few talks next start input output new (Ok fetched) held parents whole is counts =
      fetches_few talks next start whole held parents counts input output new fetched is
  ends_are_few talks next start input output new (Err fault) held parents whole is counts =
      fails_few talks next start whole held parents counts input output new fault is
