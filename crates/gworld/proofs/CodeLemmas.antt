-- The effects of the functions are steps of a world.
use Rattle.std.specs.Prelude.{slice_get, IsSome, Result, MatchResult}
use Rattle.std.proofs.Common.{inr, true, ◌∙◌, ◌≡◌, ℕ, Bool, false, List, [], ◌∷◌, ◌++◌, length, Option, Some, None, Ok}
use Rattle.std.proofs.Common.{Err, refl, sym, ap, subst}
use Rattle.gclientrepo.specs.Repos.{RepoState}
use Rattle.gclientrepo.specs.declared.ask.Ask.{Ask}
use Rattle.gclientrepo.specs.declared.ask.RefUpdate.{RefUpdate}
use Rattle.grequest.specs.Asked.{Asked}
use Rattle.gsession.specs.Requesting.{Requests, is_due}
use Rattle.gscenario.specs.declared.event.Event.TheVariants as event
use Rattle.gworld.specs.Runs.{NeedsMemory}
use Rattle.gworld.specs.declared.incoming.AwaitedReply.TheVariants.{Refs, Objects}
use Rattle.gsession.specs.Sessions.{SessionState, LeavesReplies}
use Rattle.gsession.specs.SettlingRefs.{SettlesSession}
use Rattle.gsession.specs.declared.fault.ClientFault.{ClientFault}
use Rattle.ganswer.specs.Answers.{Answers, Refuses, Reply}
use Rattle.ganswer.specs.Faults.{serve_fault_row, build_fault_row}
use Rattle.ganswer.specs.declared.fault.ServeFault.{ServeFault}
use Rattle.ggrammar.specs.MessageBytes.{known_bytes}
use Rattle.ggrammar.specs.MessageReading.{IsReadFailure}
use Rattle.gobject.specs.Packs.{Indexes, IndexFails, Packs, PackFails}
use Rattle.gpkt.specs.PacketReading.{Reader}
use Rattle.gsession.specs.TakingRefs.{TakesLs}
use Rattle.gsession.specs.TakingReplies.{TakesReply}
use Rattle.gsession.specs.declared.fault.ClientFault.TheVariants as client
use Rattle.gsession.specs.declared.taken.LsTaken.{LsTaken}
use Rattle.gsession.specs.declared.taken.Taken.{Taken}
use Rattle.gsession.specs.declared.taken.Taken.TheVariants.{Round, PackTaken}
use Rattle.ganswer.specs.Changes.{Adds}
use Rattle.ganswer.specs.Servers.{Server}
use Rattle.ganswer.specs.declared.fault.BuildFault.{BuildFault}
use Rattle.gdag.specs.Laws.{AgreesWith}
use Rattle.gobject.specs.declared.node.Entry.{Entry}
use Rattle.gclientrepo.specs.Changes.{AddsLocal}
use Rattle.gclientrepo.specs.Faults.{repo_fault_row}
use Rattle.gclientrepo.specs.Laws.{RefusalsChangeNothing}
use Rattle.gclientrepo.specs.declared.fault.RepoFault.{RepoFault}
use Rattle.gworld.specs.steps.Bringing.{BringsTo, IsAwaited, TakesIfOpen, objects_outcome, refs_outcome}
use Rattle.gworld.specs.Events.{AddsAtClient, AddsAtServer, AsksNext, Delivers, Forges, ServesRequest, SettlesRefs}
use Rattle.gworld.specs.Events.{mark_after, settled_outcome, waiting_session, waits_for}
use Rattle.gworld.specs.Taking.{TakesObjects, TakesRefs, code_of}
use Rattle.gworld.specs.Worlds.{Kept, WorldState}
use Rattle.gworld.specs.declared.outcome.Outcome.{Outcome}
use Rattle.gworld.specs.declared.outcome.Outcome.TheVariants.{Done, Asked as Asks, Served, Fault}

-- ---- the open request

some_waits : {A : Type 0} (s : SessionState A) (pending : Option Asked) → IsSome pending → IsSome (waits_for s pending)
some_waits s None waits = waits
some_waits s (Some asked) waits = refl

-- a session that awaits refs or objects has an open request
pub waits_for_refs : (pending : Option Asked) → IsAwaited pending Refs → IsSome pending
waits_for_refs None is = absurd is
waits_for_refs (Some asked) is = refl

pub waits_for_objects : (pending : Option Asked) → IsAwaited pending Objects → IsSome pending
waits_for_objects None is = absurd is
waits_for_objects (Some asked) is = refl

module _ {A : Type 0} {w now : WorldState A} (same : w ≡ now) where
  -- ---- the session

  -- if the session has an open request, `waiting_session` returns the session and the request
  pub waits_on : (s : SessionState A) → w.session ≡ Some s → IsSome s.pending → IsSome (waiting_session now.session)
  waits_on s is waits = rw (← same, is) (some_waits s s.pending waits)

  -- if no request is due, the event `Ask` fails with fault 83
  pub not_due_step : (s : SessionState A) → w.session ≡ Some s → is_due s.stage s.pending ≡ false
      → AsksNext now now.session (Fault 83) (record w { session = Some s })
  not_due_step s is not_due = rw (← same, is) (s, client.NoOpenRequest, (not_due, refl), refl, refl)

  -- if a request is due, the event `Ask` needs memory
  pub may_ask : (s : SessionState A) → w.session ≡ Some s → is_due s.stage s.pending ≡ true → NeedsMemory now event.Ask
  may_ask s is due = rw (← same) (s, is, due)

  pub asked_step : (s after : SessionState A) (asked : Asked) (sent : List Asked) (number : ℕ)
      → w.session ≡ Some s → Requests s w.repo.graph.entries after (Ok asked) → number ≡ length w.sent
      → sent ≡ w.sent ++ asked ∷ []
      → AsksNext now now.session (Asks number) (record w { session = Some after; sent = sent })
  asked_step s after asked sent number is requests count more =
      let new = λ (list : List Asked). record w { session = Some after; sent = list } in
      rw (← same, is) (after, asked, requests, count, ap new more)

  pub settled_step : (s after : SessionState A) (repo : RepoState A) (asks : List (Ask A)) (updates : List RefUpdate)
      (outcome : Outcome) → w.session ≡ Some s → SettlesSession s w.repo after repo (Ok (asks, updates))
      → outcome ≡ settled_outcome updates
      → SettlesRefs now now.session outcome (record w { session = Some after; repo = repo; answered = false })
  settled_step s after repo asks updates outcome is settles count =
      rw (← same, is, count) (after, repo, asks, updates, settles, refl, refl)

  pub unsettled_step : (s after : SessionState A) (repo : RepoState A) (fault : ClientFault A) (outcome : Outcome)
      (mark : Bool) → w.session ≡ Some s → SettlesSession s w.repo after repo (Err fault)
      → outcome ≡ Fault (code_of fault) → mark ≡ mark_after fault w.answered
      → SettlesRefs now now.session outcome (record w { session = Some after; repo = repo; answered = mark })
  unsettled_step s after repo fault outcome mark is settles count marked =
      let new = λ (m : Bool). record w { session = Some after; repo = repo; answered = m } in
      rw (← same, is, count) (after, repo, fault, settles, refl, ap new marked)

  -- ---- changes of the server and of the client's repository

  pub added_step : (entry : Entry A) (server : Server A) (outcome : Outcome)
      → AgreesWith now.repo.graph.entries entry → Adds w.server entry server (Ok tt) → outcome ≡ Done
      → AddsAtServer now entry outcome (record w { server = server })
  added_step entry server outcome agrees adds is =
      let agrees_too = rw (← same) at agrees in
      rw (← same, is) (agrees_too, (server, adds, refl))

  pub not_added_step : (entry : Entry A) (server : Server A) (outcome told : Outcome) (fault : BuildFault A)
      → AgreesWith now.repo.graph.entries entry → Adds w.server entry server (Err fault)
      → told ≡ Fault (build_fault_row fault).0 → outcome ≡ told
      → AddsAtServer now entry outcome (record w { server = server })
  not_added_step entry server outcome told fault agrees adds number is =
      let agrees_too = rw (← same) at agrees in
      let unchanged = ap (λ (x : Server A). record w { server = x }) adds.0 in
      rw (← same, is ∙ number) (unchanged, inr (agrees_too, (fault, (refl, adds.1), refl)))

  pub added_locally : (entry : Entry A) (repo : RepoState A) (outcome : Outcome) (is_new : Bool)
      → AgreesWith now.server.graph.entries entry → AddsLocal w.repo entry repo (Ok is_new) → outcome ≡ Done
      → AddsAtClient now entry outcome (record w { repo = repo })
  added_locally entry repo outcome is_new agrees adds is =
      let agrees_too = rw (← same) at agrees in
      rw (← same, is) (agrees_too, (repo, is_new, adds, refl))

  pub not_added_locally : RefusalsChangeNothing A
      → (entry : Entry A) (repo : RepoState A) (outcome told : Outcome) (fault : RepoFault A)
      → AgreesWith now.server.graph.entries entry → AddsLocal w.repo entry repo (Err fault)
      → told ≡ Fault (repo_fault_row fault).0 → outcome ≡ told
      → AddsAtClient now entry outcome (record w { repo = repo })
  not_added_locally law entry repo outcome told fault agrees adds number is =
      let unchanged = law.adding w.repo repo entry fault adds in
      let agrees_too = rw (← same) at agrees in
      let refused = subst (λ (x : RepoState A). AddsLocal w.repo entry x (Err fault)) unchanged adds in
      rw (← same, is ∙ number)
      (ap (λ (x : RepoState A). record w { repo = x }) unchanged, inr (agrees_too, (fault, refused, refl)))

  -- ---- requests

  module _ (packs : Packs A) (pack_fails : PackFails A) where
    pub served_result : {E : Type 0} (number : ℕ) (asked : Asked) (reply : Reply) (kept : List Kept)
        (result : Result Outcome E) → slice_get w.sent number ≡ Some asked → Answers w.server packs asked reply
        → MatchResult result (λ (o : Outcome). (o ≡ Served (length w.kept)) ×
        (kept ≡ w.kept ++ record { asked = asked; reply = reply } ∷ [])) (λ (e : E). kept ≡ w.kept)
        → MatchResult result (λ (o : Outcome). ServesRequest packs pack_fails now (slice_get now.sent number) o
        (record w { kept = kept })) (λ (e : E). (record w { kept = kept } ≡ now) × IsSome (slice_get now.sent number))
    served_result number asked reply kept (Ok outcome) is answers keeps =
        let new = λ (list : List Kept). record w { kept = list } in
        rw (← same, is, keeps.0) (reply, answers, refl, ap new keeps.1)
    served_result number asked reply kept (Err e) is answers keeps =
        (ap (λ (list : List Kept). record w { kept = list }) keeps ∙ same, rw (← same, is) refl)

    pub refused_step : (number : ℕ) (asked : Asked) (fault : ServeFault) (outcome : Outcome)
        → slice_get w.sent number ≡ Some asked → Refuses w.server pack_fails asked fault
        → outcome ≡ Fault (serve_fault_row fault).code
        → ServesRequest packs pack_fails now (slice_get now.sent number) outcome now
    refused_step number asked fault outcome is refuses count =
        rw (← same, is, count) (fault, refuses, refl, refl)

  -- ---- the arrival of bytes

  -- setting fields of a world to the values that they already have leaves the world unchanged
  as_before : (s after : SessionState A) (repo : RepoState A) (mark : Bool) → w.session ≡ Some s → after ≡ s
      → repo ≡ w.repo → mark ≡ w.answered → record w { session = Some after; repo = repo; answered = mark } ≡ w
  as_before s after repo mark is same_session same_repo same_mark =
      let one = ap (λ (a : SessionState A). record w { session = Some a; repo = repo; answered = mark }) same_session in
      let two = ap (λ (r : RepoState A). record w { session = Some s; repo = r; answered = mark }) same_repo in
      let three = ap (λ (m : Bool). record w { session = Some s; answered = m }) same_mark in
      let four = ap (λ (o : Option (SessionState A)). record w { session = o }) (sym is) in
      one ∙ two ∙ three ∙ four

  module _ (indexes : Indexes A) (index_fails : IndexFails) where
    brought_to : (kept : Kept) (count : ℕ) (s after : SessionState A) (repo : RepoState A) (pending : Option Asked)
        (outcome : Outcome) (mark : Bool) → w.session ≡ Some s
        → BringsTo indexes index_fails kept count pending s w.repo w.answered outcome after repo mark
        → Delivers indexes index_fails w (Some kept) count (waits_for s pending) outcome
        (record w { session = Some after; repo = repo; answered = mark })
    brought_to kept count s after repo None outcome mark is brings =
        (brings.0, as_before s after repo mark is brings.1 brings.2 brings.3)
    brought_to kept count s after repo (Some asked) outcome mark is brings =
        (mark, brings.1, record { after = after; repo = repo; takes = brings.0; is = refl })

    pub brought_result : {E : Type 0} (number count : ℕ) (kept : Kept) (s after : SessionState A) (repo : RepoState A)
        (mark : Bool) (result : Result Outcome E) → slice_get w.kept number ≡ Some kept → w.session ≡ Some s
        → MatchResult result (λ (o : Outcome). BringsTo indexes index_fails kept count s.pending s w.repo w.answered o
        after repo mark) (λ (e : E). (after ≡ s) × (repo ≡ w.repo) × (mark ≡ w.answered) × IsSome s.pending)
        → MatchResult result (λ (o : Outcome). Delivers indexes index_fails now (slice_get now.kept number) count
        (waiting_session now.session) o (record w { session = Some after; repo = repo; answered = mark }))
        (λ (e : E). (record w { session = Some after; repo = repo; answered = mark } ≡ now)
        × IsSome (slice_get now.kept number) × IsSome (waiting_session now.session))
    brought_result number count kept s after repo mark (Ok outcome) at is brings =
        let new : WorldState A = record w { session = Some after; repo = repo; answered = mark } in
        let to = brought_to kept count s after repo s.pending outcome mark is brings in
        rw (← same, at) (subst (λ (o : Option (SessionState A)). Delivers indexes index_fails w (Some kept) count
        (waiting_session o) outcome new) (sym is) to)
    brought_result number count kept s after repo mark (Err e) at is brings =
        (as_before s after repo mark is brings.0 brings.1 brings.2 ∙ same, rw (← same, at) refl, waits_on s is brings.3)

    pub none_delivered : (number count : ℕ) → slice_get w.kept number ≡ None
        → Delivers indexes index_fails now (slice_get now.kept number) count (waiting_session now.session) (Fault 93) now
    none_delivered number count at = rw (← same, at) (refl, refl)

    pub not_open : (number count : ℕ) (kept : Kept) → slice_get w.kept number ≡ Some kept → w.session ≡ None
        → Delivers indexes index_fails now (slice_get now.kept number) count (waiting_session now.session) (Fault 83) w
    not_open number count kept at is = rw (← same, at, is) (refl, refl)

    forged_to : (bytes : List ℕ) (s after : SessionState A) (repo : RepoState A) (pending : Option Asked)
        (outcome : Outcome) → TakesIfOpen indexes index_fails pending s w.repo bytes (Some outcome) after repo
        → Forges indexes index_fails w bytes (waits_for s pending) outcome
        (record w { session = Some after; repo = repo; forged = true; answered = false })
    forged_to bytes s after repo None outcome takes = absurd takes
    forged_to bytes s after repo (Some asked) outcome takes =
        record { after = after; repo = repo; takes = takes; is = refl }

    pub forged_step : (bytes : List ℕ) (s after : SessionState A) (repo : RepoState A) (took : Option Outcome)
        (outcome : Outcome) → w.session ≡ Some s → took ≡ Some outcome
        → TakesIfOpen indexes index_fails s.pending s w.repo bytes took after repo
        → Forges indexes index_fails now bytes (waiting_session now.session) outcome
        (record w { session = Some after; repo = repo; forged = true; answered = false })
    forged_step bytes s after repo took outcome is told takes =
        let open_takes = subst (λ (o : Option Outcome). TakesIfOpen indexes index_fails s.pending s w.repo bytes o after
        repo) told takes in
        let new : WorldState A = record w { session = Some after; repo = repo; forged = true; answered = false } in
        rw (← same) (subst (λ (o : Option (SessionState A)). Forges indexes index_fails w bytes (waiting_session o) outcome new)
        (sym is) (forged_to bytes s after repo s.pending outcome open_takes))

-- the outcome of an ls-refs reply is `refs_outcome` of the result
pub took_refs : {A S : Type 0} (is_down : S → Bool) (old new : Reader S) (s after : SessionState A) (repo : RepoState A)
    (bytes left : List ℕ) (result : Result (LsTaken A) (ClientFault A)) → old.failed ≡ false
    → is_down new.source ≡ false → TakesLs s repo.graph.entries (known_bytes bytes left) after result
    → LeavesReplies is_down old new result → TakesRefs s repo bytes (refs_outcome result) after repo
took_refs is_down old new s after repo bytes left (Ok taken) well up takes leaves =
    (left, taken, takes, refl, refl, refl)
took_refs is_down old new s after repo bytes left (Err (client.Message fault)) well up takes leaves =
    let at = subst (λ (b : Bool). IsReadFailure b (is_down new.source) fault.why) well leaves.0 in
    (left, client.Message fault, takes, subst (λ (b : Bool). IsReadFailure false b fault.why) up at, refl, refl)
took_refs is_down old new s after repo bytes left (Err fault) well up takes leaves =
    (left, fault, takes, tt, refl, refl)

-- the outcome of a fetch reply is `objects_outcome` of the result
pub took_objects : {A S : Type 0} (indexes : Indexes A) (index_fails : IndexFails) (is_down : S → Bool)
    (old new : Reader S) (s after : SessionState A) (repo moved : RepoState A) (bytes left : List ℕ)
    (result : Result Taken (ClientFault A)) → old.failed ≡ false → is_down new.source ≡ false
    → TakesReply indexes index_fails s repo (known_bytes bytes left) after moved result
    → LeavesReplies is_down old new result
    → TakesObjects indexes index_fails s repo bytes (objects_outcome result) after moved
took_objects indexes index_fails is_down old new s after repo moved bytes left (Ok (Round common)) well up takes leaves =
    (left, takes)
took_objects indexes index_fails is_down old new s after repo moved bytes left (Ok (PackTaken added)) well up takes leaves =
    (left, takes)
took_objects indexes index_fails is_down old new s after repo moved bytes left (Err (client.Message fault)) well up takes leaves =
    let at = subst (λ (b : Bool). IsReadFailure b (is_down new.source) fault.why) well leaves.0 in
    (left, client.Message fault, takes, subst (λ (b : Bool). IsReadFailure false b fault.why) up at, refl)
took_objects indexes index_fails is_down old new s after repo moved bytes left (Err fault) well up takes leaves =
    (left, fault, takes, tt, refl)
