-- The rounds of a fetch, until the session settles.
use Rattle.std.proofs.Common.{[], ◌∷◌, ◌++◌, ◌≡◌, ◌⊎◌, ◌∙◌, ℕ, ◌+◌, ◌≤◌, zero, suc, true, List, length}
use Rattle.std.proofs.Common.{Option, Some, None, Err, inl, inr, refl, sym, ap, subst, arith, take}
use Rattle.std.proofs.lemmas.Bool.{false≢true}
use Rattle.std.specs.Prelude.{IfSome, slice_get}
use Rattle.std.proofs.lemmas.List.Elements.{All-cons, All-nil}
use Rattle.gobject.specs.declared.node.Entry.{Entry}
use Rattle.gdag.specs.Laws.{CountsStay, ReachedAreCounted}
use Rattle.gdag.specs.Walks.{CountsReached}
use Rattle.grequest.specs.Asked.{Asked, Empty, Ls, Fetches}
use Rattle.gclientrepo.specs.Repos.{RepoState}
use Rattle.gsession.specs.Bounds.{RoundsAreFew}
use Rattle.gsession.specs.Requesting.{MakesNext, Requests, is_due}
use Rattle.gsession.specs.Sessions.{IsBegun, IsSession, SessionState}
use Rattle.gsession.specs.TakingRefs.{stage_for}
use Rattle.gsession.specs.declared.stage.Stage.TheVariants.{Fetching, Listing, Settling}
use Rattle.gsession.specs.declared.fault.ClientFault.{ClientFault}
use Rattle.gsession.specs.declared.fault.ClientFault.TheVariants as client
use Rattle.gclientrepo.specs.declared.fault.RepoFault.TheVariants as repos
use Rattle.gdag.specs.declared.fault.GraphFault.TheVariants as graph
use Rattle.ganswer.specs.Answers.{Answers, Reply, Nothing, Fetch, Ls as Refs}
use Rattle.gworld.specs.Events.{AsksNext, Delivers, ServesRequest, waiting_session, waits_for}
use Rattle.gworld.specs.Faults.{memory_refused}
use Rattle.gworld.specs.Fetching.{CanSettle, HasFetched, IsDone, IsReplyTakenOrDeclined, IsRound, IsTried, Rounds}
use Rattle.gworld.specs.Fetching.{StopsByLimits}
use Rattle.gworld.specs.Laws.{GraphsOnlyGrow, IsNoForge, StepsKeep}
use Rattle.gworld.specs.Promises.{IsServedOrRefused, IsSettledOrRefused, IsUpToDate, Promises}
use Rattle.gworld.specs.Runs.{RunWith}
use Rattle.gworld.specs.Sound.{AreEndsConnected, IsSound, IsSoundSession, IsUnforgedAndFaithful}
use Rattle.gworld.specs.Taking.{IsPackTaken, TakesBytes, code_of}
use Rattle.gworld.specs.Worlds.{Kept, PackTools, WorldState, reply_bytes}
use Rattle.gscenario.specs.declared.event.Event.{Event}
use Rattle.gscenario.specs.declared.event.Event.TheVariants as event
use Rattle.gworld.specs.declared.outcome.Outcome.{Outcome}
use Rattle.gworld.specs.declared.outcome.Outcome.TheVariants.{Asked as Asks, Served, LsTaken, Round, PackTaken, Fault}
use Rattle.gworld.proofs.Runs.{is_run, unforged_on}
use Rattle.gworld.proofs.Sessions.{IsSoundIn}

-- the element appended to a list is at the index that equals the old length
at_end : {X : Type 0} (xs : List X) (x : X) → slice_get (xs ++ x ∷ []) (length xs) ≡ Some x
at_end [] x = refl
at_end (first ∷ xs) x = at_end xs x

-- a run from a sound world with connected ends leads to a sound world with connected ends
pub leads_soundly : {A : Type 0} (tools : PackTools A) → StepsKeep tools
    → (w v : WorldState A) (events : List (Event A)) (outcomes : List Outcome) → AreEndsConnected w → IsSound tools w
    → RunWith (Promises tools) w events outcomes v → AreEndsConnected v × IsSound tools v
leads_soundly {A} tools keep w v [] [] ends sound run =
    (subst AreEndsConnected (sym run) ends, subst (IsSound tools) (sym run) sound)
leads_soundly tools keep w v (first ∷ events) (told ∷ outcomes) ends sound (next, here, rest) =
    leads_soundly tools keep next v events outcomes here.ends (keep w next first told ends here.ends sound here.step).0
    rest
leads_soundly tools keep w v _ _ ends sound run = absurd run

module _ {A : Type 0} where
  -- ---- the progress of a session

  -- The session is about to request refs, is about to request objects, or is ready to settle. In the last case it has
  -- no wants, or is marked as answered.
  abbrev Lists : ℕ → SessionState A → Type 0
  Lists n s = (s.stage ≡ Listing) × (s.pending ≡ None) × (n ≡ 0) × (s.rounds ≡ 0)

  abbrev Fetches_on : ℕ → SessionState A → Type 0
  Fetches_on n s = (s.stage ≡ Fetching) × (s.pending ≡ None) × (n ≡ s.rounds + 1)

  abbrev Settles_next : ℕ → WorldState A → SessionState A → Type 0
  Settles_next n w s =
      (s.stage ≡ Settling) × (n ≤ s.rounds + 1) × ((s.wants ≡ []) ⊎ (w.answered ≡ true))

  abbrev IsAt : ℕ → WorldState A → SessionState A → Type 0
  IsAt n w s = Lists n s ⊎ Fetches_on n s ⊎ Settles_next n w s

  -- ---- replies to requests of the session

  -- the progress of a session after it accepts an ls-refs reply
  told_at : (n : ℕ) (w : WorldState A) (s after : SessionState A) (wants : List (List ℕ)) → s.rounds ≡ 0 → n ≡ 0
      → after.stage ≡ stage_for wants → after.pending ≡ None → after.wants ≡ wants → after.rounds ≡ s.rounds
      → IsAt (n + 1) w after
  told_at n w s after [] none is stage pending same rounds =
      inr (inr (stage, omega (arith, is, rounds, none), inl same))
  told_at n w s after (want ∷ wants) none is stage pending same rounds =
      inr (inl (stage, pending, omega (arith, is, rounds, none)))

  -- the number of rounds before a request, by the stage of the session
  abbrev Counts : ℕ → SessionState A → Type 0
  Counts n s = (s.stage ≡ Listing → (n ≡ 0) × (s.rounds ≡ 0)) × (s.stage ≡ Fetching → n ≡ s.rounds + 1)

  counts_of : (n : ℕ) (w : WorldState A) (s : SessionState A) → IsAt n w s → Counts n s
  counts_of n w s (inl lists) = (
    λ listing. (lists.2, lists.3),
    λ fetching. (let wrong : Listing ≡ Fetching = sym lists.0 ∙ fetching in absurd (cc)),
  )
  counts_of n w s (inr (inl fetches)) = (
    λ listing. (let wrong : Listing ≡ Fetching = sym listing ∙ fetches.0 in absurd (cc)),
    λ fetching. fetches.2,
  )
  counts_of n w s (inr (inr settles)) = (
    λ listing. (let wrong : Listing ≡ Settling = sym listing ∙ settles.0 in absurd (cc)),
    λ fetching. (let wrong : Fetching ≡ Settling = sym fetching ∙ settles.0 in absurd (cc)),
  )

  made_tips : (g : List (Entry A)) (s after : SessionState A) (asked : Asked) → MakesNext s g after asked
      → after.tips ≡ s.tips
  made_tips g s after (Ls asked) made = ap (λ (x : SessionState A). x.tips) made.2
  made_tips g s after (Fetches asked) made = ap (λ (x : SessionState A). x.tips) made.2
  made_tips g s after Empty made = absurd made.1

  made_waits : (g : List (Entry A)) (s after : SessionState A) (asked : Asked) → MakesNext s g after asked
      → after.pending ≡ Some asked
  made_waits g s after (Ls asked) made = ap (λ (x : SessionState A). x.pending) made.2
  made_waits g s after (Fetches asked) made = ap (λ (x : SessionState A). x.pending) made.2
  made_waits g s after Empty made = absurd made.1

module _ {A : Type 0} (tools : PackTools A) where
  -- the progress of a session after it accepts the reply to its request
  bytes_at : (n : ℕ) (g : List (Entry A)) (s after later : SessionState A) (w : WorldState A) (asked : Asked)
      (before repo : RepoState A) (bytes : List ℕ) (outcome : Outcome) → Counts n s → MakesNext s g after asked
      → TakesBytes tools.indexes tools.index_fails asked after before bytes outcome later repo → IsDone outcome
      → (IsPackTaken outcome → w.answered ≡ true) → IsAt (n + 1) w later × (later.tips ≡ after.tips)
  bytes_at n g s after later w (Ls asked) before repo bytes (LsTaken asks wants) counts made takes done marked =
      let lines = takes.2.1.2 in
      let zero_is = counts.0 made.1.0 in (
        told_at n w s later lines.wants zero_is.1 zero_is.0 (ap (λ (x : SessionState A). x.stage) lines.after)
            (ap (λ (x : SessionState A). x.pending) lines.after) (ap (λ (x : SessionState A). x.wants) lines.after)
            (ap (λ (x : SessionState A). x.rounds) lines.after ∙ ap (λ (x : SessionState A). x.rounds) made.2),
        ap (λ (x : SessionState A). x.tips) lines.after,
      )
  bytes_at n g s after later w (Fetches asked) before repo bytes (Round common) counts made takes done marked =
      let is = takes.1.2.2.1.1 in
      let rounds : later.rounds ≡ s.rounds + 1 =
      ap (λ (x : SessionState A). x.rounds) is ∙ ap (λ (x : SessionState A). x.rounds) made.2 in
      let many = counts.1 made.1.0 in (
        inr (inl (
          ap (λ (x : SessionState A). x.stage) is,
          ap (λ (x : SessionState A). x.pending) is,
          omega (arith, rounds, many),
        )),
        ap (λ (x : SessionState A). x.tips) is,
      )
  bytes_at n g s after later w (Fetches asked) before repo bytes (PackTaken added) counts made takes done marked =
      let is = takes.1.2.2.1.1 in
      let rounds : later.rounds ≡ s.rounds + 1 =
      ap (λ (x : SessionState A). x.rounds) is ∙ ap (λ (x : SessionState A). x.rounds) made.2 in
      let many = counts.1 made.1.0 in (
        inr (inr (ap (λ (x : SessionState A). x.stage) is, omega (arith, rounds, many), inr (marked tt))),
        ap (λ (x : SessionState A). x.tips) is,
      )
  bytes_at n g s after later w asked before repo bytes (Fault number) counts made takes done marked = absurd done
  bytes_at n g s after later w asked before repo bytes _ counts made takes done marked = absurd takes

  -- ---- the three events of a round

  -- the session made its next request
  pub record HasAsked (w v : WorldState A) (s : SessionState A) : Type 0 where
    pub after : SessionState A
    pub request : Asked
    pub made : MakesNext s w.repo.graph.entries after request
    pub session : v.session ≡ Some after
    pub sent : v.sent ≡ w.sent ++ request ∷ []
    pub kept : v.kept ≡ w.kept

  has_asked : (w v : WorldState A) (s : SessionState A) (outcome : Outcome) → AsksNext w (Some s) outcome v
      → IsDone outcome → HasAsked w v s
  has_asked w v s (Asks number) step done = record {
    after = step.0;
    request = step.1;
    made = step.2.1;
    session = ap (λ (x : WorldState A). x.session) step.4;
    sent = ap (λ (x : WorldState A). x.sent) step.4;
    kept = ap (λ (x : WorldState A). x.kept) step.4;
  }
  has_asked w v s (Fault number) step done = absurd done
  has_asked w v s _ step done = absurd step

  -- the server made a reply to the request, and the reply is kept
  pub record HasServed (w v : WorldState A) (request : Asked) : Type 0 where
    pub reply : Reply
    pub answers : Answers w.server tools.packs request reply
    pub session : v.session ≡ w.session
    pub kept : v.kept ≡ w.kept ++ record { asked = request; reply = reply } ∷ []

  has_served : (w v : WorldState A) (request : Asked) (outcome : Outcome)
      → ServesRequest tools.packs tools.pack_fails w (Some request) outcome v → IsDone outcome
      → HasServed w v request
  has_served w v request (Served number) step done = record {
    reply = step.0;
    answers = step.1;
    session = ap (λ (x : WorldState A). x.session) step.3;
    kept = ap (λ (x : WorldState A). x.kept) step.3;
  }
  has_served w v request (Fault number) step done = absurd done
  has_served w v request _ step done = absurd step

  -- the session after a round: its progress, and its unchanged tips
  pub record Stands_at (n : ℕ) (s : SessionState A) (v : WorldState A) : Type 0 where
    pub after : SessionState A
    pub goes_on : v.session ≡ Some after
    pub at : IsAt n v after
    pub tips : after.tips ≡ s.tips

  -- the session after the complete reply to its open request arrives and is accepted
  has_brought : (n count : ℕ) (g : List (Entry A)) (w v : WorldState A) (s after : SessionState A) (request : Asked)
      (reply : Reply) (outcome : Outcome) → Counts n s → MakesNext s g after request
      → Delivers tools.indexes tools.index_fails w (Some (record { asked = request; reply = reply })) count
      (Some (after, request)) outcome v
      → IsDone outcome → length (reply_bytes reply) ≤ count → Stands_at (n + 1) s v
  has_brought n count g w v s after request reply outcome counts made step done all =
      let came = step.2 in
      let marked : IsPackTaken outcome → v.answered ≡ true = λ pack.
      ap (λ (x : WorldState A). x.answered) came.is ∙ step.1.1 (record { same = refl; all = all; pack = pack }) in
      let next = bytes_at n g s after came.after v request w.repo came.repo (take count (reply_bytes reply)) outcome
      counts made came.takes done marked in record {
        after = came.after;
        goes_on = ap (λ (x : WorldState A). x.session) came.is;
        at = next.0;
        tips = next.1 ∙ made_tips g s after request made;
      }

  -- the request of a round is the last sent request, and the reply to it is the last kept reply
  last_sent : (w v : WorldState A) (s : SessionState A) (asked : HasAsked w v s)
      → slice_get v.sent (length w.sent) ≡ Some asked.request
  last_sent w v s asked =
      ap (λ (l : List Asked). slice_get l (length w.sent)) asked.sent ∙ at_end w.sent asked.request

  last_kept : (w v u : WorldState A) (s : SessionState A) (asked : HasAsked w v s)
      (served : HasServed v u asked.request)
      → slice_get u.kept (length w.kept) ≡ Some (record { asked = asked.request; reply = served.reply })
  last_kept w v u s asked served =
      let kept : Kept = record { asked = asked.request; reply = served.reply } in
      let all : u.kept ≡ w.kept ++ kept ∷ [] =
      served.kept ∙ ap (λ (l : List Kept). l ++ kept ∷ []) asked.kept in
      ap (λ (l : List Kept). slice_get l (length w.kept)) all ∙ at_end w.kept kept

  -- the request of a round, if the event `Ask` succeeds
  asked_of : (w new : WorldState A) (s : SessionState A) → w.session ≡ Some s → (tried : IsTried tools w new)
      → IsDone tried.asked → HasAsked w tried.after_asking s
  asked_of w new s is tried done = has_asked w tried.after_asking s tried.asked
      (subst (λ (o : Option (SessionState A)). AsksNext w o tried.asked tried.after_asking) is tried.asks.step) done

  -- the reply of a round, if the event `Serve` succeeds
  served_of : (w new : WorldState A) (s : SessionState A) (tried : IsTried tools w new)
      (asked : HasAsked w tried.after_asking s) → IsDone tried.served
      → HasServed tried.after_asking tried.after_serving asked.request
  served_of w new s tried asked done =
      let one = tried.after_asking in
      let two = tried.after_serving in
      has_served one two asked.request tried.served
      (subst (λ (o : Option Asked). ServesRequest tools.packs tools.pack_fails one o tried.served two)
      (last_sent w one s asked) tried.serves.step) done

  -- the session after a round
  round_at : (n : ℕ) (w v : WorldState A) (s : SessionState A) → w.session ≡ Some s → IsAt n w s → IsRound tools w v
      → Stands_at (n + 1) s v
  round_at n w v s is at round =
      let tried = round.tried in
      let two = tried.after_serving in
      let count = tried.count in
      let asked = asked_of w v s is tried round.is_asked in
      let served = served_of w v s tried asked round.is_served in
      let request = asked.request in
      let kept : Kept = record { asked = request; reply = served.reply } in
      let held = last_kept w tried.after_asking two s asked served in
      let session : two.session ≡ Some asked.after = served.session ∙ asked.session in
      let waits : waiting_session two.session ≡ Some (asked.after, request) =
      ap waiting_session session
      ∙ ap (waits_for asked.after) (made_waits w.repo.graph.entries s asked.after request asked.made) in
      let Comes = Delivers tools.indexes tools.index_fails two in
      let comes : Comes (Some kept) count (Some (asked.after, request)) tried.brought v =
      subst (λ (o : Option (SessionState A × Asked)). Comes (Some kept) count o tried.brought v) waits
      (subst (λ (o : Option Kept). Comes o count (waiting_session two.session) tried.brought v) held tried.brings.step) in
      has_brought n count w.repo.graph.entries two v s asked.after request served.reply tried.brought
      (counts_of n w s at) asked.made comes round.is_brought (tried.whole kept held)

  -- the three events of a round are a run
  pub run_of : (w v : WorldState A) (tried : IsTried tools w v) → RunWith (Promises tools) w
      (event.Ask ∷ event.Serve (length w.sent) ∷ event.Deliver (length w.kept) tried.count ∷ [])
      (tried.asked ∷ tried.served ∷ tried.brought ∷ []) v
  run_of w v tried = (tried.after_asking, tried.asks, (tried.after_serving, tried.serves, (v, tried.brings, refl)))

  -- ---- reasons for an event of a round to fail

  -- if a request is due, making the request fails only for lack of memory
  refused_asking : (s after : SessionState A) (g : List (Entry A)) (fault : ClientFault A)
      → is_due s.stage s.pending ≡ true → Requests s g after (Err fault) → code_of fault ≡ 64
  refused_asking s after g client.NoOpenRequest due requests = absurd (false≢true (sym requests.0 ∙ due))
  refused_asking s after g (client.Repo (repos.Graph graph.Memory)) due requests = refl
  refused_asking s after g _ due requests = absurd requests

  asks_or_stops : (w v : WorldState A) (s : SessionState A) (outcome : Outcome) → is_due s.stage s.pending ≡ true
      → AsksNext w (Some s) outcome v → IsDone outcome ⊎ (outcome ≡ Fault memory_refused)
  asks_or_stops w v s (Asks number) due step = inl tt
  asks_or_stops w v s (Fault number) due step =
      inr (ap Fault (step.3 ∙ refused_asking s step.0 w.repo.graph.entries step.1 due step.2))
  asks_or_stops w v s _ due step = absurd step

  -- the server's answer to a request of a session is never `Nothing`
  no_empty_answer : (w : WorldState A) (g : List (Entry A)) (s after : SessionState A) (request : Asked)
      → MakesNext s g after request → Answers w.server tools.packs request Nothing → ⊥
  no_empty_answer w g s after Empty made answers = made.1
  no_empty_answer w g s after (Ls asked) made answers = answers
  no_empty_answer w g s after (Fetches asked) made answers = answers

  -- the client accepts a complete reply to a request of the session, or rejects it for one of the allowed reasons
  takes_or_stops : (w one two new : WorldState A) (s : SessionState A) (asked : HasAsked w one s)
      (served : HasServed one two asked.request) (count : ℕ) (outcome : Outcome)
      → length (reply_bytes served.reply) ≤ count → IsUnforgedAndFaithful tools two
      → Promises tools two (event.Deliver (length w.kept) count) outcome new
      → (request : Asked) → asked.request ≡ request → (reply : Reply) → served.reply ≡ reply
      → IsReplyTakenOrDeclined tools two asked.after reply outcome
  takes_or_stops w one two new s asked served count outcome all honest promised request same Nothing is =
      absurd (no_empty_answer one w.repo.graph.entries s asked.after request
      (subst (MakesNext s w.repo.graph.entries asked.after) same asked.made)
      (subst (λ (r : Reply). Answers one.server tools.packs request r) is
      (subst (λ (a : Asked). Answers one.server tools.packs a served.reply) same served.answers)))
  takes_or_stops w one two new s asked served count outcome all honest promised request same (Refs reply) is =
      promised.lists reply asked.after (record {
        kept = record { asked = asked.request; reply = served.reply };
        at = last_kept w one two s asked served;
        refs = is;
        all = all;
        goes_on = served.session ∙ asked.session;
        waits = made_waits w.repo.graph.entries s asked.after asked.request asked.made;
      })
  takes_or_stops w one two new s asked served count outcome all honest promised request same (Fetch reply) is =
      (promised.honest honest).takes reply (record {
        kept = record { asked = asked.request; reply = served.reply };
        at = last_kept w one two s asked served;
        objects = is;
        all = all;
        session = asked.after;
        goes_on = served.session ∙ asked.session;
        waits = made_waits w.repo.graph.entries s asked.after asked.request asked.made;
      })

  -- after an event that forges no bytes, the world still satisfies `IsUnforgedAndFaithful`
  honest_on : (w v : WorldState A) (event : Event A) (outcome : Outcome) → IsNoForge event
      → IsUnforgedAndFaithful tools w → Promises tools w event outcome v → IsUnforgedAndFaithful tools v
  honest_on w v event outcome none honest promised = record {
    image = honest.image;
    faithful = honest.faithful;
    unforged = unforged_on tools w v (event ∷ []) (outcome ∷ [])
        (All-cons IsNoForge event [] none (All-nil IsNoForge)) (v, promised, refl) ∙ honest.unforged;
  }

  pub only_limits : (w new : WorldState A) (s : SessionState A) → IsUnforgedAndFaithful tools w → w.session ≡ Some s
      → is_due s.stage s.pending ≡ true → (tried : IsTried tools w new) → StopsByLimits tools tried
  only_limits w new s honest is due tried =
      let one = tried.after_asking in
      let two = tried.after_serving in
      let serve : Event A = event.Serve (length w.sent) in
      let honest_one = honest_on w one event.Ask tried.asked tt honest tried.asks in
      let honest_two = honest_on one two serve tried.served tt honest_one tried.serves in record {
        asks = asks_or_stops w one s tried.asked due
            (subst (λ (o : Option (SessionState A)). AsksNext w o tried.asked one) is tried.asks.step);
        serves = λ done.
            (let asked = asked_of w new s is tried done in (
              asked.request,
              subst (λ (o : Option Asked). IsServedOrRefused tools one.server o tried.served)
                  (last_sent w one s asked) (tried.serves.honest honest_one).serves,
            ));
        takes = λ done served_done.
            (let asked = asked_of w new s is tried done in
            let served = served_of w new s tried asked served_done in (
              asked.after,
              served.reply,
              takes_or_stops w one two new s asked served tried.count tried.brought
                  (tried.whole (record { asked = asked.request; reply = served.reply })
                  (last_kept w one two s asked served))
                  honest_two tried.brings asked.request refl served.reply refl,
            ));
      }

-- ---- rounds

module _ {A : Type 0} (tools : PackTools A) (keep : StepsKeep tools) (grow : GraphsOnlyGrow tools)
    (few : RoundsAreFew A) (stay : CountsStay A) (counted : ReachedAreCounted A) (reached parents : ℕ) where
  -- a world after `n` rounds of a session
  pub record Stands (n : ℕ) (w : WorldState A) : Type 0 where
    pub honest : IsUnforgedAndFaithful tools w
    pub ends : AreEndsConnected w
    pub sound : IsSound tools w
    pub session : SessionState A
    pub goes_on : w.session ≡ Some session
    pub at : IsAt n w session
    pub counts : CountsReached w.repo.graph.entries session.tips reached parents

  sound_session : (n : ℕ) (w : WorldState A) (stands : Stands n w) → IsSoundSession w stands.session
  sound_session n w stands = subst (IsSoundIn w) stands.goes_on stands.sound.session

  typed_session : (n : ℕ) (w : WorldState A) (stands : Stands n w) → IsSession stands.session
  typed_session n w stands =
      subst (λ (o : Option (SessionState A)). IfSome o IsSession) stands.goes_on stands.ends.session

  next_stands : (n : ℕ) (w v : WorldState A) → Stands n w → IsRound tools w v → Stands (n + 1) v
  next_stands n w v stands round =
      let s = stands.session in
      let serve : Event A = event.Serve (length w.sent) in
      let deliver : Event A = event.Deliver (length w.kept) round.tried.count in
      let events : List (Event A) = event.Ask ∷ serve ∷ deliver ∷ [] in
      let outcomes = round.tried.asked ∷ round.tried.served ∷ round.tried.brought ∷ [] in
      let run = run_of tools w v round.tried in
      let led = leads_soundly tools keep w v events outcomes stands.ends stands.sound run in
      let next = round_at tools n w v s stands.goes_on stands.at round in
      let g = w.repo.graph.entries in
      let h = v.repo.graph.entries in
      let grows = (grow w v events outcomes (is_run tools w v events outcomes run)).1 in record {
        honest = record {
          image = stands.honest.image;
          faithful = stands.honest.faithful;
          unforged = unforged_on tools w v events outcomes
              (All-cons IsNoForge event.Ask (serve ∷ deliver ∷ []) tt
              (All-cons IsNoForge serve (deliver ∷ []) tt (All-cons IsNoForge deliver [] tt (All-nil IsNoForge))))
              run ∙ stands.honest.unforged;
        };
        ends = led.0;
        sound = led.1;
        session = next.after;
        goes_on = next.goes_on;
        at = next.at;
        counts = subst (λ (tips : List (List ℕ)). CountsReached h tips reached parents) (sym next.tips)
            (stay g h s.tips reached parents grows led.0.graph.differ (sound_session n w stands).began.connected
            stands.counts);
      }

  all_stand : (n m : ℕ) (w v : WorldState A) → Stands m w → Rounds tools n w v → Stands (m + n) v
  all_stand zero m w v stands rounds =
      let none : m ≡ m + zero = omega arith in
      subst (λ (k : ℕ). Stands k v) none (subst (Stands m) (sym rounds) stands)
  all_stand (suc n) m w v stands (next, round, rest) =
      let one : m + 1 + n ≡ m + suc n = omega arith in
      subst (λ (k : ℕ). Stands k v) one
      (all_stand n (m + 1) next v (next_stands m w next stands round) rest)

  -- ---- the world after the rounds

  -- the number of different haves that the session sent is at most the number of ids that its tips reach
  offered_few : (n : ℕ) (w : WorldState A) (stands : Stands n w) → length stands.session.sent ≤ reached
  offered_few n w stands =
      let s = stands.session in
      counted w.repo.graph.entries s.tips s.sent reached parents stands.counts (typed_session n w stands).sent
      (sound_session n w stands).began.sent

  can_settle : (n : ℕ) (w : WorldState A) (stands : Stands n w) → stands.session.stage ≡ Settling
      → (stands.session.wants ≡ []) ⊎ (w.answered ≡ true) → CanSettle tools w
  can_settle n w stands stage (inl none) = λ outcome new promised.
      subst (λ (o : Option (SessionState A)).
      IfSome o (λ s. IsUpToDate s → IsSettledOrRefused w.repo w.session outcome new.repo)) stands.goes_on
      promised.up_to_date (record { stage = stage; none = none })
  can_settle n w stands stage (inr answered) = λ outcome new promised.
      (promised.honest stands.honest).settles answered

  has_fetched : (n : ℕ) (w : WorldState A) → (stands : Stands n w) → IsAt n w stands.session
      → HasFetched tools n reached w
  has_fetched n w stands (inl lists) = record {
    session = stands.session;
    goes_on = stands.goes_on;
    either = inl (rw (lists.0, lists.1) refl, (let none = lists.2 in omega (arith, none)));
  }
  has_fetched n w stands (inr (inl fetches)) =
      let s = stands.session in
      let rounds : s.rounds ≤ length s.sent = rw (fetches.0, fetches.1) at (typed_session n w stands).stage in
      let offered = offered_few n w stands in
      let many = fetches.2 in record {
        session = s;
        goes_on = stands.goes_on;
        either = inl (rw (fetches.0, fetches.1) refl, omega (arith, rounds, offered, many));
      }
  has_fetched n w stands (inr (inr settles)) =
      let s = stands.session in
      let rounds = few w.repo.graph.entries s reached parents (typed_session n w stands)
      (sound_session n w stands).began stands.counts in
      let many = settles.1 in record {
        session = s;
        goes_on = stands.goes_on;
        either = inr (can_settle n w stands settles.0 settles.2, omega (arith, rounds, many));
      }

  begins_to_stand : (w : WorldState A) (s : SessionState A) → IsUnforgedAndFaithful tools w → AreEndsConnected w
      → IsSound tools w → w.session ≡ Some s → IsBegun s
      → CountsReached w.repo.graph.entries s.tips reached parents → Stands 0 w
  begins_to_stand w s honest ends sound is begun counts =
      let typed : IsSession s = subst (λ (o : Option (SessionState A)). IfSome o IsSession) is ends.session in
      let none : s.rounds ≡ 0 = rw (begun.0, begun.1) at typed.stage in record {
        honest = honest;
        ends = ends;
        sound = sound;
        session = s;
        goes_on = is;
        at = inl (begun.0, begun.1, refl, none);
        counts = counts;
      }

  pub completed : (w v : WorldState A) (s : SessionState A) (n : ℕ) → IsUnforgedAndFaithful tools w → AreEndsConnected w
      → IsSound tools w → w.session ≡ Some s → IsBegun s
      → CountsReached w.repo.graph.entries s.tips reached parents → Rounds tools n w v → HasFetched tools n reached v
  completed w v s n honest ends sound is begun counts rounds =
      let same : 0 + n ≡ n = omega arith in
      let stands = subst (λ (k : ℕ). Stands k v) same
      (all_stand n 0 w v (begins_to_stand w s honest ends sound is begun counts) rounds) in
      has_fetched n v stands stands.at
