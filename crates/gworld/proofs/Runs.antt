-- Runs that are extended by an event, and properties that hold after any run.
use Rattle.std.proofs.Common.{false, ◌≡◌, ℕ, ◌+◌, ◌<◌, List, [], ◌∷◌, ◌++◌, length, take}
use Rattle.std.proofs.Common.{drop, get_or, refl, sym, subst, inl, inr, Bool, All, Option, Some, None, ap, ◌∙◌, ◌≢◌}
use Rattle.std.proofs.Common.{Result, Ok, Err}
use Rattle.std.specs.declared.vec.Vec.{Vec}
use Rattle.std.specs.Prelude.{MatchResult}
use Rattle.gname.specs.Ids.{Id}
use Rattle.gdag.proofs.Growing.{at_front}
use Rattle.gworld.specs.steps.Bringing.{RunsSoundly}
use Rattle.gworld.specs.Promises.{Promises}
use Rattle.gworld.specs.Sound.{IsSound, IsUnforgedAndFaithful}
use Rattle.gworld.specs.KeepingWorlds.{KeptNeedsMemory, KeptPromises, KeptWorld}
use Rattle.gworld.specs.Runs.{NeedsMemory, RunWith, RunsFront, Run, outcomes_before}
use Rattle.gworld.specs.declared.fault.RunFault.{RunFault}
use Rattle.gworld.proofs.Keeping.{none_unkept}
use Rattle.gworld.specs.Faults.{not_kept}
use Rattle.gsession.specs.Keeping.{KeepsOn}
use Rattle.gsession.proofs.KeepingLemmas.{keeps_graph, keeps_none, keeps_then}
use Rattle.gworld.specs.Worlds.{PackTools, WorldState, Kept}
use Rattle.gscenario.specs.declared.event.Event.{Event}
use Rattle.gworld.specs.declared.outcome.Outcome.{Outcome}
use Rattle.std.specs.Prelude.{slice_get}
use Rattle.std.proofs.lemmas.List.Elements.{All-head, All-tail}
use Rattle.grequest.specs.Asked.{Asked}
use Rattle.gsession.specs.Sessions.{SessionState}
use Rattle.gscenario.specs.declared.event.Event.TheVariants as event
use Rattle.gworld.specs.Laws.{IsNoForge, KeepsAll, KeptRunsAlwaysKeep}
use Rattle.gworld.specs.Events.{AsksNext, Delivers, ServesRequest, SettlesRefs, Step, waiting_session}
use Rattle.gworld.specs.declared.outcome.Outcome.TheVariants.{Done, Asked as Asks, Served, Settled, Fault}

-- ---- extending a run

run_goes_on : {A S : Type 0} (R : S → Event A → Outcome → S → Type 0) (w v u : S) (events : List (Event A))
    (outcomes : List Outcome) (event : Event A) (outcome : Outcome)
    → RunWith R w events outcomes v → R v event outcome u
    → RunWith R w (events ++ event ∷ []) (outcomes ++ outcome ∷ []) u
run_goes_on {A} {S} R w v u [] [] event outcome same step =
    (u, subst (λ (x : S). R x event outcome u) same step, refl)
run_goes_on R w v u (first ∷ events) (told ∷ outcomes) event outcome (next, here, rest) step =
    (next, here, run_goes_on R next v u events outcomes event outcome rest step)
run_goes_on R w v u _ _ event outcome run step = absurd run

-- ---- runs whose steps have another property

module _ {A S T : Type 0} (f : S → T) (P : S → Event A → Outcome → S → Type 0)
    (Q : T → Event A → Outcome → T → Type 0)
    (each : (s : S) (e : Event A) (outcome : Outcome) (next : S) → P s e outcome next → Q (f s) e outcome (f next)) where
  pub run_maps : (s v : S) (events : List (Event A)) (outcomes : List Outcome) → RunWith P s events outcomes v
      → RunWith Q (f s) events outcomes (f v)
  run_maps s v [] [] run = ap f run
  run_maps s v (first ∷ events) (told ∷ outcomes) (next, here, rest) =
      (f next, each s first told next here, run_maps next v events outcomes rest)
  run_maps s v _ _ run = absurd run

  module _ (needs : S → Event A → Type 0) (must : T → Event A → Type 0)
      (same : (s : S) (e : Event A) → needs s e → must (f s) e) where
    pub front_maps : (s v : S) (events : List (Event A)) (outcomes : List Outcome)
        → RunsFront P needs s events outcomes v → RunsFront Q must (f s) events outcomes (f v)
    front_maps s v events outcomes run = record {
      front = run.front;
      next = run.next;
      rest = run.rest;
      parts = run.parts;
      run = run_maps s v run.front outcomes run.run;
      memory = elim run.memory [
        | inl none ↦ inl none
        | inr next ↦ inr (same v run.next next)
      ];
    }

    pub result_maps : (s v : S) (events : List (Event A)) (result : Result (Vec Outcome A) (RunFault A))
        → MatchResult result (λ (o : Vec Outcome A). RunWith P s events o.items v)
        (λ (fault : RunFault A). RunsFront P needs s events (outcomes_before fault) v)
        → MatchResult result (λ (o : Vec Outcome A). RunWith Q (f s) events o.items (f v))
        (λ (fault : RunFault A). RunsFront Q must (f s) events (outcomes_before fault) (f v))
    result_maps s v events (Ok outcomes) run = run_maps s v events outcomes.items run
    result_maps s v events (Err fault) run = front_maps s v events (outcomes_before fault) run

module _ {A P I : Type 0} (tools : PackTools A) (keeps : I → Id → Type 0) where
  -- if all ids are kept, each step keeps its promises
  pub none_refused : ((i : I) (id : Id) → keeps i id)
      → (s : KeptWorld A P I) (e : Event A) (outcome : Outcome) (next : KeptWorld A P I)
      → KeptPromises tools keeps s e outcome next → Promises tools s.world e outcome next.world
  none_refused all s e outcome next step =
      elim step.1 [
        | inl kept ↦ kept.promises
        | inr refused ↦ absurd (none_unkept e (keeps s.indexer) (all s.indexer) refused.0.0)
      ]

  -- in a run without an event that is refused because its object is not kept, each step keeps its promises
  pub kept_run : (s new : KeptWorld A P I) (events : List (Event A)) (outcomes : List Outcome)
      → All (λ (o : Outcome). o ≢ Fault not_kept) outcomes → RunWith (KeptPromises tools keeps) s events outcomes new
      → RunWith (Promises tools) s.world events outcomes new.world
  kept_run s new [] [] none run = ap (λ (v : KeptWorld A P I). v.world) run
  kept_run s new (first ∷ events) (told ∷ outcomes) none (next, here, rest) =
      let differs : told ≢ Fault not_kept = All-head (λ (o : Outcome). o ≢ Fault not_kept) told outcomes none in
      let step : Promises tools s.world first told next.world =
      elim here.1 [
        | inl kept ↦ kept.promises
        | inr refused ↦ absurd (differs refused.0.1.0)
      ] in (
        next.world,
        step,
        kept_run next new events outcomes (All-tail (λ (o : Outcome). o ≢ Fault not_kept) told outcomes none) rest,
      )
  kept_run s new _ _ none run = absurd run

  -- what a step keeps
  abbrev Keeps : KeptWorld A P I → KeptWorld A P I → Type 0
  Keeps s v = KeepsOn (keeps s.indexer) (keeps v.indexer) s.world.repo.graph.entries v.world.repo.graph.entries

  step_on : (s v : KeptWorld A P I) (e : Event A) (outcome : Outcome) → KeptPromises tools keeps s e outcome v → Keeps s v
  step_on s v e outcome step =
      elim step.1 [
        | inl kept ↦ kept.keeps_on
        | inr refused ↦
            rw (refused.1, refused.0.1.1) (keeps_none (keeps s.indexer) s.world.repo.graph.entries)
      ]

  pub run_keeps : (s new : KeptWorld A P I) (events : List (Event A)) (outcomes : List Outcome)
      → RunWith (KeptPromises tools keeps) s events outcomes new → Keeps s new
  run_keeps s new [] [] run =
      subst (Keeps s) (sym run) (keeps_none (keeps s.indexer) s.world.repo.graph.entries)
  run_keeps s new (first ∷ events) (told ∷ outcomes) (next, here, rest) =
      keeps_then (keeps s.indexer) (keeps next.indexer) (keeps new.indexer) s.world.repo.graph.entries
      next.world.repo.graph.entries new.world.repo.graph.entries (step_on s next first told here)
      (run_keeps next new events outcomes rest)
  run_keeps s new _ _ run = absurd run

  -- if the indexer kept each object of the client's graph before a run, it does so in each world of the run
  pub always_keeps : KeptRunsAlwaysKeep P tools keeps
  always_keeps s new v front rest outcomes kept leads =
      keeps_graph (keeps s.indexer) (keeps v.indexer) s.world.repo.graph.entries v.world.repo.graph.entries
      (run_keeps s v front leads.early leads.before) kept

  -- a run that stopped after its first `count` events, because the next event needs memory
  pub front_runs : {s v : KeptWorld A P I} (events : List (Event A)) (count : ℕ) (next : Event A)
      (outcomes : List Outcome) → count < length events → next ≡ get_or events count next
      → RunsSoundly tools keeps s (take count events) outcomes v → NeedsMemory v.world next
      → RunsFront (KeptPromises tools keeps) KeptNeedsMemory s events outcomes v
  front_runs {s} {v} events count next outcomes inside at runs needs = record {
    front = take count events;
    next = next;
    rest = drop (count + 1) events;
    parts = at_front events count next inside at;
    run = runs.run;
    memory = inr needs;
  }

  -- the run of no events leaves the sound world unchanged
  pub begins_soundly : (s : KeptWorld A P I) (events : List (Event A)) (told : List Outcome)
      → IsSound tools s.world → told ≡ [] → RunsSoundly tools keeps s (take 0 events) told s
  begins_soundly s events told sound is = record {
    sound = sound;
    run = subst (λ (list : List Outcome). RunWith (KeptPromises tools keeps) s [] list s) (sym is) refl;
  }

  -- a run that stopped before its first event, because there is not enough memory for the list of outcomes
  pub none_runs : (s : KeptWorld A P I) (events : List (Event A)) (told : List Outcome)
      → told ≡ [] → events ≢ [] → RunsFront (KeptPromises tools keeps) KeptNeedsMemory s events told s
  none_runs s [] told is some = absurd (some refl)
  none_runs s (event ∷ events) told is some = record {
    front = [];
    next = event;
    rest = events;
    parts = refl;
    run = subst (λ (list : List Outcome). RunWith (KeptPromises tools keeps) s [] list s) (sym is) refl;
    memory = inl is;
  }

  -- a run, extended by one event
  pub goes_on_soundly : {s v u : KeptWorld A P I} (events more : List (Event A)) (event : Event A)
      (outcomes told : List Outcome) (outcome : Outcome) → RunsSoundly tools keeps s events outcomes v
      → IsSound tools u.world × KeptPromises tools keeps v event outcome u
      → more ≡ events ++ event ∷ [] → told ≡ outcomes ++ outcome ∷ [] → RunsSoundly tools keeps s more told u
  goes_on_soundly {s} {v} {u} events more event outcomes told outcome runs step is also = record {
    sound = step.0;
    run = rw (is, also) (run_goes_on (KeptPromises tools keeps) s v u events outcomes event outcome runs.run step.1);
  }

module _ {A : Type 0} (tools : PackTools A) where
  -- ---- properties that hold after any run

  abbrev mark : WorldState A → Bool
  mark w = w.forged

  -- only the event `Forge` sets the flag `forged` of a world
  module _ (w v : WorldState A) where
    asks_unforged : (session : Option (SessionState A)) (outcome : Outcome) → AsksNext w session outcome v
        → mark v ≡ mark w
    asks_unforged None outcome step = ap mark step.1
    asks_unforged (Some s) (Asks number) step = ap mark step.4
    asks_unforged (Some s) (Fault number) step = ap mark step.4
    asks_unforged (Some s) _ step = absurd step

    settles_unforged : (session : Option (SessionState A)) (outcome : Outcome) → SettlesRefs w session outcome v
        → mark v ≡ mark w
    settles_unforged None outcome step = ap mark step.1
    settles_unforged (Some s) (Settled moved same not_forward) step = ap mark step.6
    settles_unforged (Some s) (Fault number) step = ap mark step.5
    settles_unforged (Some s) _ step = absurd step

    serves_unforged : (found : Option Asked) (outcome : Outcome)
        → ServesRequest tools.packs tools.pack_fails w found outcome v → mark v ≡ mark w
    serves_unforged None outcome step = ap mark step.1
    serves_unforged (Some asked) (Served number) step = ap mark step.3
    serves_unforged (Some asked) (Fault number) step = ap mark step.3
    serves_unforged (Some asked) _ step = absurd step

    delivers_unforged : (found : Option Kept) (count : ℕ) (waits : Option (SessionState A × Asked)) (outcome : Outcome)
        → Delivers tools.indexes tools.index_fails w found count waits outcome v → mark v ≡ mark w
    delivers_unforged None count waits outcome step = ap mark step.1
    delivers_unforged (Some kept) count None outcome step = ap mark step.1
    delivers_unforged (Some kept) count (Some (s, asked)) outcome step = ap mark step.2.is

    pub unforged_step : (e : Event A) (outcome : Outcome) → IsNoForge e → Step tools w e outcome v → mark v ≡ mark w
    unforged_step (event.Begin specs) Done quiet step = ap mark step.4
    unforged_step (event.Begin specs) (Fault number) quiet step = ap mark step.3
    unforged_step event.Ask outcome quiet step = asks_unforged w.session outcome step
    unforged_step (event.Serve number) outcome quiet step = serves_unforged (slice_get w.sent number) outcome step
    unforged_step (event.Deliver number count) outcome quiet step =
        delivers_unforged (slice_get w.kept number) count (waiting_session w.session) outcome step
    unforged_step (event.Forge bytes) outcome quiet step = absurd quiet
    unforged_step (event.StrangeRequest bytes) outcome quiet step = ap mark step.0
    unforged_step event.Settle outcome quiet step = settles_unforged w.session outcome step
    unforged_step event.RestartClient outcome quiet step = ap mark step.1
    unforged_step event.RestartServer outcome quiet step = ap mark step.1
    unforged_step (event.ServerAdd entry) Done quiet step = ap mark step.1.2
    unforged_step (event.ServerAdd entry) (Fault number) quiet step = ap mark step.0
    unforged_step (event.ServerRef name id) Done quiet step = ap mark step.2
    unforged_step (event.ServerRef name id) (Fault number) quiet step = ap mark step.3
    unforged_step (event.ClientAdd entry) Done quiet step = ap mark step.1.3
    unforged_step (event.ClientAdd entry) (Fault number) quiet step = ap mark step.0
    unforged_step (event.ClientRef name id) Done quiet step = ap mark step.2
    unforged_step (event.ClientRef name id) (Fault number) quiet step = ap mark step.3
    unforged_step _ _ quiet step = absurd step

  pub is_run : (w v : WorldState A) (events : List (Event A)) (outcomes : List Outcome)
      → RunWith (Promises tools) w events outcomes v → Run tools w events outcomes v
  is_run = run_maps (λ (w : WorldState A). w) (Promises tools) (Step tools) (λ w e outcome next here. here.step)

  -- if each step promises `P` for the world after it, and `P` holds before a run, then `P` holds after the run
  pub kept_on : (P : WorldState A → Type 0)
      → ((w : WorldState A) (e : Event A) (outcome : Outcome) (next : WorldState A) → Promises tools w e outcome next
      → P next)
      → (w v : WorldState A) (events : List (Event A)) (outcomes : List Outcome) → P w
      → RunWith (Promises tools) w events outcomes v → P v
  kept_on P each w v [] [] is run = subst P (sym run) is
  kept_on P each w v (first ∷ events) (told ∷ outcomes) is (next, here, rest) =
      kept_on P each next v events outcomes (each w first told next here) rest
  kept_on P each w v _ _ is run = absurd run

  pub unforged_on : (w v : WorldState A) (events : List (Event A)) (outcomes : List Outcome) → All IsNoForge events
      → RunWith (Promises tools) w events outcomes v → mark v ≡ mark w
  unforged_on w v [] [] none run = ap mark run
  unforged_on w v (first ∷ events) (told ∷ outcomes) none (next, here, rest) =
      unforged_on next v events outcomes (All-tail IsNoForge first events none) rest
      ∙ unforged_step w next first told (All-head IsNoForge first events none) here.step
  unforged_on w v _ _ none run = absurd run

  -- ---- runs without forged bytes

  pub all_kept : ((x : WorldState A) → mark x ≡ false → IsUnforgedAndFaithful tools x)
      → (w v : WorldState A) (events : List (Event A)) (outcomes : List Outcome) → mark w ≡ false
      → All IsNoForge events → RunWith (Promises tools) w events outcomes v
      → RunWith (KeepsAll tools) w events outcomes v
  all_kept honest w v [] [] unforged none run = run
  all_kept honest w v (first ∷ events) (told ∷ outcomes) unforged none (next, here, rest) =
      let after : mark next ≡ false =
      unforged_step w next first told (All-head IsNoForge first events none) here.step ∙ unforged in (
        next,
        record {
          step = here.step;
          refs = here.refs;
          commons = here.commons after;
          up_to_date = here.up_to_date;
          few = here.few;
          honest = here.honest (honest w unforged);
        },
        all_kept honest next v events outcomes after (All-tail IsNoForge first events none) rest,
      )
  all_kept honest w v _ _ unforged none run = absurd run
