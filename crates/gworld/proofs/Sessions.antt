-- The soundness of requests, replies and sessions after both graphs grow, and after each call of a session.
use Rattle.std.proofs.Common.{[], ◌≡◌, ℕ, false, List, All, Option, Some, None, inl, inr, sym, ◌∙◌, ◌⊎◌, Contains, Ok}
use Rattle.std.proofs.Common.{refl, ap, subst, Bool, true, Err, if◌then◌else◌, ◌+◌, ◌++◌, ◌≤◌, length}
use Rattle.std.specs.Prelude.{IfSome, MatchOption}
use Rattle.std.proofs.lemmas.List.Elements.{All-weaker, All-contains, All-map, All-nil}
use Rattle.gname.specs.Limits.{max_pack}
use Rattle.gobject.specs.declared.node.Entry.{Entry}
use Rattle.gdag.specs.Graphs.{Holds}
use Rattle.gdag.specs.Laws.{ConnectedStaysConnected, GrowingGoesOn, GrowingKeeps, KeepingHolds, KeepingReaches, KeepingHasAll}
use Rattle.gdag.specs.Laws.{AgreeingStays, ComingGrows}
use Rattle.gdag.specs.Reach.{Grows, IsConnected, SomeReaches}
use Rattle.ggrammar.specs.declared.limits.Limits.{Limits}
use Rattle.grequest.specs.Asked.{Asked, Empty, Ls, Fetches, FetchAsked, max_haves}
use Rattle.gclientrepo.specs.Asks.{asked_ids}
use Rattle.gsession.specs.Bounds.{BeganOn, BeganBegins, BeganStays}
use Rattle.gsession.specs.Sessions.{SessionState, Begins, IsSession, new_session, over, tells_unborn, tips_of}
use Rattle.gsession.specs.Sessions.{after_fault, ends_session}
use Rattle.gworld.specs.Sound.{IsAnswered, IsUnforgedAndFaithful, IsSoundFetch, IsSoundKept, IsSoundRequest}
use Rattle.gworld.specs.Sound.{IsSoundSession, IsWantedOrConnected}
use Rattle.gworld.specs.Worlds.{Kept, PackTools, WorldState}
use Rattle.std.proofs.lemmas.Option.{none-some}
use Rattle.ggrammar.specs.declared.ends.Ends.TheVariants.{Plain}
use Rattle.gfetchreply.specs.Values.{default_limit}
use Rattle.glsreply.specs.LsReplies.{LsReply}
use Rattle.glsreply.specs.RefTexts.{RefLine}
use Rattle.gdag.proofs.Growing.{grows_none}
use Rattle.grefs.specs.Refspecs.{Refspec}
use Rattle.gclientrepo.specs.Repos.{IsConnectedRepo, RepoState}
use Rattle.gclientrepo.specs.declared.ask.Ask.{Ask}
use Rattle.ganswer.specs.Adverts.{advertisement}
use Rattle.gsession.specs.Asking.{AreWants, asked_of}
use Rattle.gsession.specs.Laws.{AsksAreOfLines, AreCommonsAfter, HavesAreConnected, IsAskOf, OpenIsTheSessions}
use Rattle.gsession.specs.Laws.{WantsAreExact, OnlyGrows, RepliesAddCommons, TakingOnlyGrows}
use Rattle.gsession.specs.Requesting.{MakesNext}
use Rattle.gsession.specs.TakingRefs.{TakesLines, ReadsRefs, stage_for}
use Rattle.gsession.specs.TakingReplies.{Awaits, after_acks, ReadsFetch, reading_for}
use Rattle.gsession.specs.declared.stage.Stage.{Stage}
use Rattle.gsession.specs.declared.stage.Stage.TheVariants.{Fetching, Settling, Over}
use Rattle.gsession.specs.declared.taken.LsTaken.{LsTaken}
use Rattle.ggrammar.specs.MessageBytes.{known_bytes}
use Rattle.gfetchreply.specs.FetchHeads.{acknowledged_by}
use Rattle.gfetchreply.specs.FetchReplies.{FetchReply}
use Rattle.gsession.specs.declared.fault.ClientFault.{ClientFault}
use Rattle.gsession.specs.declared.taken.Taken.TheVariants as taken
use Rattle.gworld.specs.Taking.{TakesBytes}
use Rattle.gworld.specs.declared.outcome.Outcome.{Outcome}
use Rattle.gworld.specs.declared.outcome.Outcome.TheVariants.{LsTaken as RefsTold, Round, PackTaken, Fault}
use Rattle.gclientrepo.specs.Laws.{RefusalsChangeNothing}
use Rattle.ganswer.specs.Laws.{ServersGrow, AcksAreCommon, FetchAnswersFit, LsAnswersAreHeld, LsAnswersFit}
use Rattle.ganswer.specs.Laws.{PacksAreEnough, ServesWhatIsHeld}
use Rattle.gworld.proofs.Reading.{ReadingLaws}

-- both graphs only grow and keep their formats, and a world with forged bytes still has forged bytes
pub record Extends {A : Type 0} (old new : WorldState A) : Type 0 where
  pub server : Grows old.server.graph.entries new.server.graph.entries
  pub server_format : new.server.graph.format ≡ old.server.graph.format
  pub client : Grows old.repo.graph.entries new.repo.graph.entries
  pub client_format : new.repo.graph.format ≡ old.repo.graph.format
  pub forged : new.forged ≡ false → old.forged ≡ false

-- the laws of other crates that the proofs about worlds use
pub record WorldLaws {A : Type 0} (tools : PackTools A) : Type 0 where
  -- laws of graphs
  pub keeps : GrowingKeeps A
  pub goes_on : GrowingGoesOn A
  pub holds : KeepingHolds A
  pub connected : ConnectedStaysConnected A
  pub reaches : KeepingReaches A
  pub has_all : KeepingHasAll A
  pub agreeing : AgreeingStays A
  pub coming : ComingGrows A
  -- laws of sessions
  pub begins : BeganBegins A
  pub stays : BeganStays A
  pub haves : HavesAreConnected A
  pub wants : WantsAreExact A
  pub asks : AsksAreOfLines A
  pub waits : OpenIsTheSessions A
  pub commons : RepliesAddCommons tools.indexes tools.index_fails
  pub grows : TakingOnlyGrows tools.indexes tools.index_fails
  pub refusals : RefusalsChangeNothing A
  -- laws of servers and their replies
  pub servers : ServersGrow A
  pub reading : ReadingLaws
  pub refs_fit : LsAnswersFit A
  pub refs_held : LsAnswersAreHeld A
  pub objects_fit : FetchAnswersFit A tools.packs
  pub acks : AcksAreCommon A tools.packs
  pub enough : PacksAreEnough A tools.packs
  pub small : (list : List (Entry A)) (pack : List ℕ) → tools.packs list pack → length pack ≤ max_pack
  pub serves : ServesWhatIsHeld A tools.pack_fails

-- if no bytes were forged, the server holds each id of a ref and each acknowledged id that is read from the bytes
pub record Tells {A : Type 0} (v : WorldState A) (s : SessionState A) (bytes : List ℕ) : Type 0 where
  pub refs : v.forged ≡ false → (left : List ℕ) (reply : LsReply) → ReadsRefs s (known_bytes bytes left) reply
      → All (λ (line : RefLine). Holds v.server.graph.entries line.id) reply.lines
  pub objects : v.forged ≡ false → (asked : FetchAsked) (left : List ℕ) (reply : FetchReply)
      → ReadsFetch (reading_for s asked) (known_bytes bytes left) reply
      → All (Holds v.server.graph.entries) (acknowledged_by reply)

-- if `P` holds for the old common ids and for the acknowledged ids, it holds for the new common ids
commons_after : (P : List ℕ → Type 0) (haves acks old new : List (List ℕ)) → AreCommonsAfter haves acks old new
    → All P old → All P acks → All P new
commons_after P haves acks old new are olds news =
    let each = λ (a : List ℕ) (either : Contains old a ⊎ Contains acks a). elim either as (λ (x : _). P a) [
      | inl there ↦ All-contains P old a olds there
      | inr there ↦ All-contains P acks a news there
    ] in
    All-weaker (λ (a : List ℕ). Contains old a ⊎ Contains acks a) P each new are.others

module _ {A : Type 0} where
  -- the session, if there is one, is sound
  abbrev pub IsSoundIn : WorldState A → Option (SessionState A) → Type 0
  IsSoundIn w session = IfSome session (IsSoundSession w)

  -- there is a session, and it satisfies `IsAnswered`
  abbrev pub IsAnsweredIn : PackTools A → WorldState A → Option (SessionState A) → Type 0
  IsAnsweredIn tools w session = MatchOption session ⊥ (IsAnswered tools w)

  -- a session after it reads the server's advertisement
  abbrev pub hearing : SessionState A → WorldState A → SessionState A
  hearing s w = record s { offers_unborn = tells_unborn (advertisement w.server.graph.format) }

  pub honest_before : {tools : PackTools A} {w v : WorldState A} → Extends w v → IsUnforgedAndFaithful tools v
      → IsUnforgedAndFaithful tools w
  honest_before e is = record { image = is.image; faithful = is.faithful; unforged = e.forged is.unforged }

  -- the client's graph grows, and the server is unchanged
  pub client_extends : (w : WorldState A) (repo : RepoState A) (session : Option (SessionState A))
      (forged answered : Bool) → Grows w.repo.graph.entries repo.graph.entries
      → repo.graph.format ≡ w.repo.graph.format → (forged ≡ false → w.forged ≡ false)
      → Extends w (record w { session = session; repo = repo; forged = forged; answered = answered })
  client_extends w repo session forged answered grows format unforged = record {
    server = grows_none w.server.graph.entries w.server.graph.entries refl;
    server_format = refl;
    client = grows;
    client_format = format;
    forged = unforged;
  }

  pub only_same : (old new : RepoState A) → new ≡ old → OnlyGrows old new
  only_same old new same = record {
    grows = grows_none old.graph.entries new.graph.entries (ap (λ (r : RepoState A). r.graph.entries) same);
    format = ap (λ (r : RepoState A). r.graph.format) same;
    refs = ap (λ (r : RepoState A). r.refs) same;
    marks = ap (λ (r : RepoState A). r.known) same;
  }

  -- ---- sessions after a call

  -- a session without an open request remains sound if its new requested updates, wants and common ids are valid
  idle_sound : {w : WorldState A} {s : SessionState A} → IsSoundSession w s
      → (stage : Stage) (asks : List (Ask A)) (wants commons : List (List ℕ))
      → All (IsConnected w.repo.graph.entries) commons → (w.forged ≡ false → All (Holds w.server.graph.entries) commons)
      → All (IsWantedOrConnected w.repo.graph.entries (record s { wants = wants })) (asked_ids asks)
      → (w.forged ≡ false → All (Holds w.server.graph.entries) wants)
      → IsSoundSession w
      (record s { stage = stage; pending = None; asks = asks; wants = wants; commons = commons })
  idle_sound is stage asks wants commons connected shared asked wanted = record {
    format = is.format;
    limit = is.limit;
    ends = is.ends;
    limits = is.limits;
    began = record { connected = is.began.connected; sent = is.began.sent };
    commons = connected;
    shared = shared;
    waits = λ fetch waits. absurd (none-some (Fetches fetch) waits);
    asked = asked;
    wanted = wanted;
  }

  pub settled_sound : {w : WorldState A} {s : SessionState A} → IsSoundSession w s
      → IsSoundSession w (record (over s) { asks = [] })
  settled_sound {w} {s} is = idle_sound is Over [] s.wants s.commons is.commons is.shared
      (All-nil (IsWantedOrConnected w.repo.graph.entries s)) is.wanted

  if_sound : {v : WorldState A} {s : SessionState A} (after : SessionState A) (ends : Bool)
      → after ≡ (if ends then over s else s) → IsSoundSession v s → IsSoundSession v after
  if_sound {v} {s} after true is sound = subst (IsSoundSession v) (sym is)
      (idle_sound sound Over s.asks s.wants s.commons sound.commons sound.shared sound.asked sound.wanted)
  if_sound {v} after false is sound = subst (IsSoundSession v) (sym is) sound

  pub fault_sound : {v : WorldState A} {s : SessionState A} (after : SessionState A) (fault : ClientFault A)
      → after ≡ after_fault s fault → IsSoundSession v s → IsSoundSession v after
  fault_sound after fault is sound = if_sound after (ends_session fault) is sound

  -- a session with a new open request remains sound if this request is sound
  asking_sound : {w : WorldState A} {s : SessionState A} → IsSoundSession w s
      → (pending : Option Asked) (sent : List (List ℕ)) (rounds : ℕ)
      → BeganOn w.repo.graph.entries (record s { pending = pending; sent = sent; rounds = rounds })
      → ((asked : FetchAsked) → pending ≡ Some (Fetches asked) → IsSoundFetch w asked)
      → IsSoundSession w (record s { pending = pending; sent = sent; rounds = rounds })
  asking_sound is pending sent rounds began waits = record {
    format = is.format;
    limit = is.limit;
    ends = is.ends;
    limits = is.limits;
    began = began;
    commons = is.commons;
    shared = is.shared;
    waits = waits;
    asked = is.asked;
    wanted = is.wanted;
  }

module _ {A : Type 0} {tools : PackTools A} (laws : WorldLaws tools) where
  -- ---- soundness after both graphs grow

  pub all_held : (g h : List (Entry A)) → Grows g h → (ids : List (List ℕ)) → All (Holds g) ids → All (Holds h) ids
  all_held g h grows ids all =
      All-weaker (Holds g) (Holds h) (λ (a : List ℕ) held. laws.holds g h a (laws.keeps g h grows) held) ids all

  connected_in : (g h : List (Entry A)) → Grows g h → (a : List ℕ) → IsConnected g a → IsConnected h a
  connected_in g h grows a connected = (laws.connected g h a (laws.keeps g h grows) connected).0

  all_connected : (g h : List (Entry A)) → Grows g h → (ids : List (List ℕ)) → All (IsConnected g) ids → All (IsConnected h) ids
  all_connected g h grows ids all = All-weaker (IsConnected g) (IsConnected h) (λ (a : List ℕ) connected. connected_in g h grows a connected) ids all

  wanted_in : (g h : List (Entry A)) (s : SessionState A) → Grows g h → (a : List ℕ) → IsWantedOrConnected g s a
      → IsWantedOrConnected h s a
  wanted_in g h s grows a (inl wanted) = inl wanted
  wanted_in g h s grows a (inr connected) = inr (connected_in g h grows a connected)

  module _ {w v : WorldState A} (e : Extends w v) where
    held_after : (ids : List (List ℕ)) → (w.forged ≡ false → All (Holds w.server.graph.entries) ids) → v.forged ≡ false
        → All (Holds v.server.graph.entries) ids
    held_after ids held unforged =
        all_held w.server.graph.entries v.server.graph.entries e.server ids (held (e.forged unforged))

    connected_after : (ids : List (List ℕ)) → All (IsConnected w.repo.graph.entries) ids → All (IsConnected v.repo.graph.entries) ids
    connected_after ids all = all_connected w.repo.graph.entries v.repo.graph.entries e.client ids all

    fetch_grown : {asked : FetchAsked} → IsSoundFetch w asked → IsSoundFetch v asked
    fetch_grown {asked} is = record {
      connected = connected_after asked.haves is.connected;
      few = is.few;
      some = is.some;
      held = held_after asked.wants is.held;
    }

    pub request_grown : (asked : Asked) → IsSoundRequest w asked → IsSoundRequest v asked
    request_grown Empty is = absurd is
    request_grown (Ls asked) is = tt
    request_grown (Fetches asked) is = fetch_grown is

    pub sent_grown : (sent : List Asked) → All (IsSoundRequest w) sent → All (IsSoundRequest v) sent
    sent_grown sent all = All-weaker (IsSoundRequest w) (IsSoundRequest v) request_grown sent all

    pub one_kept_grown : {kept : Kept} → IsSoundKept tools.packs w kept → IsSoundKept tools.packs v kept
    one_kept_grown {kept} is = record {
      server = is.server;
      is = is.is;
      format = is.format ∙ sym e.server_format;
      grown = laws.goes_on is.server.graph.entries w.server.graph.entries v.server.graph.entries is.grown e.server;
      answers = is.answers;
      request = request_grown kept.asked is.request;
    }

    pub kept_grown : (kept : List Kept) → All (IsSoundKept tools.packs w) kept → All (IsSoundKept tools.packs v) kept
    kept_grown kept all = All-weaker (IsSoundKept tools.packs w) (IsSoundKept tools.packs v)
        (λ (one : Kept) is. one_kept_grown is) kept all

    began_grown : {s : SessionState A} → BeganOn w.repo.graph.entries s → BeganOn v.repo.graph.entries s
    began_grown {s} is =
        let g = w.repo.graph.entries in
        let h = v.repo.graph.entries in
        let keeps = laws.keeps g h e.client in record {
          connected = connected_after s.tips is.connected;
          sent = All-weaker (λ (a : List ℕ). Holds g a × SomeReaches g s.tips a)
              (λ (a : List ℕ). Holds h a × SomeReaches h s.tips a)
              (λ (a : List ℕ) both. (
                laws.holds g h a keeps both.0,
                (both.1.0, both.1.1, laws.reaches g h both.1.0 a keeps both.1.2),
              )) s.sent is.sent;
        }

    pub session_grown : {s : SessionState A} → IsSoundSession w s → IsSoundSession v s
    session_grown {s} is =
        let g = w.repo.graph.entries in
        let h = v.repo.graph.entries in record {
          format = is.format ∙ sym e.client_format;
          limit = is.limit;
          ends = is.ends;
          limits = is.limits;
          began = began_grown is.began;
          commons = connected_after s.commons is.commons;
          shared = held_after s.commons is.shared;
          waits = λ asked waits. fetch_grown (is.waits asked waits);
          asked = All-weaker (IsWantedOrConnected g s) (IsWantedOrConnected h s)
              (λ (a : List ℕ) either. wanted_in g h s e.client a either) (asked_ids s.asks) is.asked;
          wanted = held_after s.wants is.wanted;
        }

    pub session_in_grown : (session : Option (SessionState A)) → IsSoundIn w session → IsSoundIn v session
    session_in_grown None is = tt
    session_in_grown (Some s) is = session_grown is

    pub answered_grown : (session : Option (SessionState A)) → IsAnsweredIn tools w session
        → IsAnsweredIn tools v session
    answered_grown None is = absurd is
    answered_grown (Some s) is = record {
      stage = is.stage;
      connected = λ honest. connected_after (asked_ids s.asks) (is.connected (honest_before e honest));
    }

  -- ---- a new session

  began_sound : (w : WorldState A) (specs : List Refspec) (session : SessionState A)
      → session ≡ new_session w.repo.graph.format specs default_limit Plain (tips_of w.repo)
      → BeganOn w.repo.graph.entries session → IsSoundSession w (hearing session w)
  began_sound w specs session is began =
      let new = new_session {A = A} w.repo.graph.format specs default_limit Plain (tips_of w.repo) in
      subst (λ (s : SessionState A). BeganOn w.repo.graph.entries s → IsSoundSession w (hearing s w)) (sym is)
      (λ on. record {
        format = refl;
        limit = refl;
        ends = refl;
        limits = refl;
        began = record { connected = on.connected; sent = on.sent };
        commons = All-nil (IsConnected w.repo.graph.entries);
        shared = λ unforged. All-nil (Holds w.server.graph.entries);
        waits = λ asked waits. absurd (none-some (Fetches asked) waits);
        asked = All-nil (IsWantedOrConnected w.repo.graph.entries new);
        wanted = λ unforged. All-nil (Holds w.server.graph.entries);
      }) began

  pub begin_sound : (w : WorldState A) (specs : List Refspec) (session : SessionState A) → IsConnectedRepo w.repo
      → Begins w.repo specs default_limit Plain (Ok session) → IsSoundSession w (hearing session w)
  begin_sound w specs session whole begins =
      began_sound w specs session begins.1 (laws.begins w.repo specs default_limit Plain session whole begins)

  -- ---- the next request

  module _ {w : WorldState A} {s : SessionState A} (after : SessionState A) (sound : IsSoundSession w s)
      (session : IsSession after) where
    made_fetch : (asked : FetchAsked) → MakesNext s w.repo.graph.entries after (Fetches asked) → IsSoundFetch w asked
    made_fetch asked made =
        let next = made.1 in
        let wants : asked.wants ≡ s.wants = ap (λ (x : FetchAsked). x.wants) next.1 in
        let open_fetch = laws.waits after asked session (ap (λ (x : SessionState A). x.pending) made.2) in record {
          connected = laws.haves w.repo.graph.entries s after asked sound.began.connected sound.commons made;
          few = subst (λ (l : Limits). length asked.haves ≤ max_haves l)
              (ap (λ (x : SessionState A). x.options.limits) made.2 ∙ sound.limits) open_fetch.few;
          some = λ none.
              session.some (ap (λ (x : SessionState A). x.stage) made.2 ∙ next.0)
              (ap (λ (x : SessionState A). x.wants) made.2 ∙ sym wants ∙ none);
          held = λ unforged. subst (All (Holds w.server.graph.entries)) (sym wants) (sound.wanted unforged);
        }

    pub made_request : (asked : Asked) → MakesNext s w.repo.graph.entries after asked → IsSoundRequest w asked
    made_request Empty made = absurd made.1
    made_request (Ls asked) made = tt
    made_request (Fetches asked) made = made_fetch asked made

    pub asked_sound : (asked : Asked) → MakesNext s w.repo.graph.entries after asked → IsSoundSession w after
    asked_sound Empty made = absurd made.1
    asked_sound (Ls ls) made = subst (IsSoundSession w) (sym made.2)
        (asking_sound sound (Some (Ls ls)) s.sent s.rounds
        (record { connected = sound.began.connected; sent = sound.began.sent })
        (λ asked waits. let both : Some (Ls ls) ≡ Some (Fetches asked) = waits in absurd (cc)))
    asked_sound (Fetches fetch) made =
        let g = w.repo.graph.entries in
        let began = laws.stays g g s after (Fetches fetch) (grows_none g g refl) sound.began made in
        subst (IsSoundSession w) (sym made.2)
        (asking_sound sound (Some (Fetches fetch)) (s.sent ++ made.0) (s.rounds + 1) (subst (BeganOn g) made.2 began)
        (λ asked waits.
        let both : Some (Fetches fetch) ≡ Some (Fetches asked) = waits in
        let same : fetch ≡ asked = cc in
        subst (IsSoundFetch w) same (made_fetch fetch made)))

  -- ---- the reply to ls-refs

  ask_told : (P : List ℕ → Type 0) (specs : List Refspec) (lines : List RefLine) (ask : Ask A)
      → All (λ (line : RefLine). P line.id) lines → IsAskOf specs lines ask → P ask.id
  ask_told P specs lines ask all is =
      subst P (sym (ap (λ (x : Ask A). x.id) is.is))
      (All-contains (λ (line : RefLine). P line.id) lines is.line all is.told)

  -- if `P` holds for each id that the ls-refs reply lists, it holds for each want
  wants_told : (P : List ℕ → Type 0) (g : List (Entry A)) (specs : List Refspec) (reply : LsReply)
      (wants : List (List ℕ)) → AreWants {A = A} g (asked_of specs reply.lines) wants
      → All (λ (line : RefLine). P line.id) reply.lines → All P wants
  wants_told P g specs reply wants are all =
      let asks : List (Ask A) = asked_of specs reply.lines in
      let ids : All P (asked_ids asks) = All-map P (λ (ask : Ask A). ask.id) asks
      (All-weaker (IsAskOf specs reply.lines) (λ (ask : Ask A). P ask.id)
      (λ (ask : Ask A) is. ask_told P specs reply.lines ask all is) asks (laws.asks specs reply.lines)) in
      All-weaker (Contains (asked_ids asks)) P (λ (a : List ℕ) there. All-contains P (asked_ids asks) a ids there) wants
      (laws.wants g asks wants are).asked

  refs_sound : {w : WorldState A} {s : SessionState A} (after : SessionState A) (reply : LsReply) (taken : LsTaken A)
      → IsSoundSession w s → TakesLines s w.repo.graph.entries reply after taken
      → (w.forged ≡ false → All (λ (line : RefLine). Holds w.server.graph.entries line.id) reply.lines)
      → IsSoundSession w after
  refs_sound {w} {s} after reply taken is takes told =
      let g = w.repo.graph.entries in
      let wants = takes.wants in
      let asks : List (Ask A) = asked_of s.refspecs reply.lines in
      subst (IsSoundSession w) (sym takes.after)
      (idle_sound is (stage_for wants) asks wants s.commons is.commons is.shared
      (laws.wants g asks wants takes.wanted).others
      (λ unforged.
      wants_told (Holds w.server.graph.entries) g s.refspecs reply wants takes.wanted (told unforged)))

  -- ---- the reply to fetch

  -- a session remains sound after acknowledgments extend its common ids, also if the client has gained objects
  acks_sound : {w : WorldState A} {s : SessionState A} (after : SessionState A) (asked : FetchAsked) (stage : Stage)
      (acks : List (List ℕ)) → IsSoundSession w s → Awaits s asked → after ≡ after_acks s stage acks
      → AreCommonsAfter asked.haves acks s.commons after.commons
      → (w.forged ≡ false → All (Holds w.server.graph.entries) acks) → IsSoundSession w after
  acks_sound {w} {s} after asked stage acks is waits same are told =
      let P = IsConnected w.repo.graph.entries in
      let haves = asked.haves in
      let new = (after_acks s stage acks).commons in
      let are_new : AreCommonsAfter haves acks s.commons new =
      subst (λ (x : SessionState A). AreCommonsAfter haves acks s.commons x.commons) same are in
      let connected = (is.waits asked waits).connected in
      let acks_connected : All P acks =
      All-weaker (Contains haves) P (λ (a : List ℕ) there. All-contains P haves a connected there) acks are.named in
      subst (IsSoundSession w) (sym same)
      (idle_sound is stage s.asks s.wants new (commons_after P haves acks s.commons new are_new is.commons acks_connected)
      (λ unforged.
      commons_after (Holds w.server.graph.entries) haves acks s.commons new are_new (is.shared unforged)
      (told unforged)) is.asked is.wanted)

  -- ---- the arrival of bytes

  abbrev pub Takes : Asked → SessionState A → RepoState A → List ℕ → Outcome → SessionState A → RepoState A → Type 0
  Takes asked s repo bytes outcome after new =
      TakesBytes tools.indexes tools.index_fails asked s repo bytes outcome after new

  module _ (s : SessionState A) (before : RepoState A) (bytes : List ℕ) (after : SessionState A) where
    -- the repository only grows when bytes arrive
    pub bytes_only : (asked : Asked) (repo : RepoState A) (outcome : Outcome)
        → Takes asked s before bytes outcome after repo → OnlyGrows before repo
    bytes_only (Ls asked) repo (RefsTold asks wants) takes = only_same before repo takes.5
    bytes_only (Ls asked) repo (Fault number) takes = only_same before repo takes.5
    bytes_only (Fetches asked) repo (Round common) takes =
        laws.grows s after before repo (known_bytes bytes takes.0) (Ok (taken.Round common)) takes.1
    bytes_only (Fetches asked) repo (PackTaken added) takes =
        laws.grows s after before repo (known_bytes bytes takes.0) (Ok (taken.PackTaken added)) takes.1
    bytes_only (Fetches asked) repo (Fault number) takes =
        laws.grows s after before repo (known_bytes bytes takes.0) (Err takes.1) takes.2
    bytes_only _ repo _ takes = absurd takes

    -- The session is sound in the world after bytes arrive. An ls-refs reply is compared with the old graph, and leaves
    -- this graph unchanged.
    pub bytes_sound : (v : WorldState A) → IsSoundSession v s → Tells v s bytes → (asked : Asked) (outcome : Outcome)
        → Takes asked s before bytes outcome after v.repo → IsSoundSession v after
    bytes_sound v sound tells (Ls asked) (RefsTold asks wants) takes =
        let reply = takes.2.1.0 in
        refs_sound after reply takes.1 sound
        (subst (λ (r : RepoState A). TakesLines s r.graph.entries reply after takes.1) (sym takes.5) takes.2.1.2)
        (λ unforged. tells.refs unforged takes.0 reply takes.2.1.1)
    bytes_sound v sound tells (Ls asked) (Fault number) takes = fault_sound after takes.1 takes.2.1 sound
    bytes_sound v sound tells (Fetches asked) (Round common) takes =
        let took = takes.1 in
        acks_sound after took.0 Fetching (acknowledged_by took.2.0) sound took.1 took.2.2.1.1
        (laws.commons took.0.haves s after before v.repo took.2.0 (taken.Round common) took.2.2)
        (λ unforged. tells.objects unforged took.0 takes.0 took.2.0 took.2.1)
    bytes_sound v sound tells (Fetches asked) (PackTaken added) takes =
        let took = takes.1 in
        acks_sound after took.0 Settling (acknowledged_by took.2.0) sound took.1 took.2.2.1.1
        (laws.commons took.0.haves s after before v.repo took.2.0 (taken.PackTaken added) took.2.2)
        (λ unforged. tells.objects unforged took.0 takes.0 took.2.0 took.2.1)
    bytes_sound v sound tells (Fetches asked) (Fault number) takes = fault_sound after takes.1 takes.2.1 sound
    bytes_sound v sound tells _ _ takes = absurd takes
