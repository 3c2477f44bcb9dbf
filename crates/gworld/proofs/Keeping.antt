-- What the store of the indexer keeps after each event.
use Rattle.std.proofs.Common.{◌≡◌, ◌∙◌, List, [], ◌∷◌, Option, Some, None, Err, refl, sym, ap, subst}
use Rattle.std.specs.Prelude.{slice_get}
use Rattle.std.proofs.lemmas.List.Elements.{All-cons, All-nil}
use Rattle.gname.specs.Ids.{Id}
use Rattle.gobject.specs.declared.node.Entry.{Entry}
use Rattle.gdag.specs.Graphs.{History}
use Rattle.gdag.proofs.Sharing.{adds_only}
use Rattle.gclientrepo.specs.Laws.{RefusalsChangeNothing}
use Rattle.gclientrepo.specs.Repos.{RepoState}
use Rattle.grequest.specs.Asked.{Asked}
use Rattle.gsession.specs.Keeping.{KeepsOn}
use Rattle.gsession.specs.Sessions.{SessionState}
use Rattle.gsession.specs.SettlingRefs.{SettlesSession}
use Rattle.gsession.specs.declared.fault.ClientFault.{ClientFault}
use Rattle.gsession.specs.declared.fault.ClientFault.TheVariants as client
use Rattle.gsession.proofs.KeepingLemmas.{keeps_more, keeps_stays}
use Rattle.gworld.specs.Events.{AsksNext, ServesRequest, SettlesRefs, Step}
use Rattle.gworld.specs.KeepingWorlds.{AddsKept, AddsUnkept, KeepsAt}
use Rattle.gworld.specs.Worlds.{PackTools, WorldState}
use Rattle.gscenario.specs.declared.event.Event.{Event}
use Rattle.gscenario.specs.declared.event.Event.TheVariants as event
use Rattle.gworld.specs.declared.outcome.Outcome.{Outcome}
use Rattle.gworld.specs.declared.outcome.Outcome.TheVariants.{Done, Asked as Asks, Served, Settled, Fault}

module _ {A : Type 0} where
  abbrev graph : WorldState A → List (Entry A)
  graph w = w.repo.graph.entries

  -- an event `Settle` that fails leaves the client's repository unchanged
  settle_keeps : RefusalsChangeNothing A → (s after : SessionState A) (before repo : RepoState A) (fault : ClientFault A)
      → SettlesSession s before after repo (Err fault) → repo ≡ before
  settle_keeps refusals s after before repo (client.Repo fault) settles =
      refusals.settling before repo s.asks fault settles.2
  settle_keeps refusals s after before repo client.NoOpenRequest settles = settles.2
  settle_keeps refusals s after before repo _ settles = absurd settles

  -- ---- an event that brings no objects leaves the client's graph unchanged

  module _ (tools : PackTools A) (w v : WorldState A) where
    asks_graph : (session : Option (SessionState A)) (outcome : Outcome) → AsksNext w session outcome v
        → graph v ≡ graph w
    asks_graph None outcome step = ap graph step.1
    asks_graph (Some s) (Asks number) step = ap graph step.4
    asks_graph (Some s) (Fault number) step = ap graph step.4
    asks_graph (Some s) _ step = absurd step

    settles_graph : RefusalsChangeNothing A → (session : Option (SessionState A)) (outcome : Outcome)
        → SettlesRefs w session outcome v → graph v ≡ graph w
    settles_graph refusals None outcome step = ap graph step.1
    settles_graph refusals (Some s) (Settled moved same not_forward) step =
        ap graph step.6 ∙ ap (λ (g : History A). g.entries) step.4.3.0.graph
    settles_graph refusals (Some s) (Fault number) step =
        ap graph step.5
        ∙ ap (λ (r : RepoState A). r.graph.entries) (settle_keeps refusals s step.0 w.repo step.1 step.2 step.3)
    settles_graph refusals (Some s) _ step = absurd step

    serves_graph : (found : Option Asked) (outcome : Outcome)
        → ServesRequest tools.packs tools.pack_fails w found outcome v → graph v ≡ graph w
    serves_graph None outcome step = ap graph step.1
    serves_graph (Some asked) (Served number) step = ap graph step.3
    serves_graph (Some asked) (Fault number) step = ap graph step.3
    serves_graph (Some asked) _ step = absurd step

    -- ---- each event

    module _ {I : Type 0} (keeps : I → Id → Type 0) (before after : I) where
      -- the indexer and the client's graph are unchanged
      same_keeps : after ≡ before → graph v ≡ graph w → KeepsOn (keeps before) (keeps after) (graph w) (graph v)
      same_keeps same is =
          keeps_stays (keeps before) (keeps after) (graph w) (graph v)
          (λ id kept. subst (λ (x : I). keeps x id) (sym same) kept) is

      pub step_keeps : RefusalsChangeNothing A → (e : Event A) (outcome : Outcome) → Step tools w e outcome v
          → KeepsAt keeps e before after (graph w) (graph v) → AddsKept (keeps before) e
          → KeepsOn (keeps before) (keeps after) (graph w) (graph v)
      step_keeps law (event.Begin specs) Done step at kept = same_keeps at (ap graph step.4)
      step_keeps law (event.Begin specs) (Fault number) step at kept = same_keeps at (ap graph step.3)
      step_keeps law event.Ask outcome step at kept = same_keeps at (asks_graph w.session outcome step)
      step_keeps law (event.Serve number) outcome step at kept =
          same_keeps at (serves_graph (slice_get w.sent number) outcome step)
      step_keeps law (event.Deliver number count) outcome step at kept = at
      step_keeps law (event.Forge bytes) outcome step at kept = at
      step_keeps law (event.StrangeRequest bytes) outcome step at kept = same_keeps at (ap graph step.0)
      step_keeps law event.Settle outcome step at kept = same_keeps at (settles_graph law w.session outcome step)
      step_keeps law event.RestartClient outcome step at kept = same_keeps at (ap graph step.1)
      step_keeps law event.RestartServer outcome step at kept = same_keeps at (ap graph step.1)
      step_keeps law (event.ServerAdd entry) Done step at kept = same_keeps at (ap graph step.1.2)
      step_keeps law (event.ServerAdd entry) (Fault number) step at kept = same_keeps at (ap graph step.0)
      step_keeps law (event.ServerRef name id) Done step at kept = same_keeps at (ap graph step.2)
      step_keeps law (event.ServerRef name id) (Fault number) step at kept = same_keeps at (ap graph step.3)
      step_keeps law (event.ClientAdd entry) Done step at kept =
          let new = step.1.0.graph.entries in
          let only = adds_only w.repo.graph.format (graph w) (entry ∷ []) new (new, step.1.2.1.1, refl) in
          let stays : (id : Id) → keeps before id → keeps after id =
          λ id is. subst (λ (x : I). keeps x id) (sym at) is in
          subst (KeepsOn (keeps before) (keeps after) (graph w)) (sym (ap graph step.1.3))
          (keeps_more (keeps before) (keeps after) (graph w) (entry ∷ []) new stays
          (All-cons (λ (e : Entry A). keeps after e.id) entry [] (stays entry.id kept)
          (All-nil (λ (e : Entry A). keeps after e.id))) only)
      step_keeps law (event.ClientAdd entry) (Fault number) step at kept = same_keeps at (ap graph step.0)
      step_keeps law (event.ClientRef name id) Done step at kept =
          same_keeps at (ap graph step.2 ∙ ap (λ (g : History A). g.entries) step.1.0.graph)
      step_keeps law (event.ClientRef name id) (Fault number) step at kept = same_keeps at (ap graph step.3)
      step_keeps law _ _ step at kept = absurd step

  -- ---- the steps of a run

  -- no id is unkept if all ids are kept
  pub none_unkept : (e : Event A) (keeps : Id → Type 0) → ((id : Id) → keeps id) → AddsUnkept keeps e → ⊥
  none_unkept (event.ClientAdd entry) keeps all unkept = unkept (all entry.id)
  none_unkept _ keeps all unkept = unkept
