-- The worlds of a run, and the parts of a world that each step leaves unchanged.
use Rattle.std.proofs.Common.{◌≡◌, ℕ, List, [], ◌∷◌, ◌++◌, All, Option, Some, None, Ok, Err, refl, sym, ap, subst, ◌∙◌}
use Rattle.std.specs.Prelude.{slice_get}
use Rattle.std.proofs.lemmas.List.Elements.{All-head, All-tail}
use Rattle.gdag.proofs.Growing.{comes_grows, grows_none, grows_on}
use Rattle.gdag.specs.Graphs.{History}
use Rattle.gdag.specs.Reach.{Grows}
use Rattle.gclientrepo.specs.Laws.{RefusalsChangeNothing}
use Rattle.gclientrepo.specs.Repos.{RepoState}
use Rattle.ganswer.specs.Laws.{ServersGrow}
use Rattle.ganswer.specs.Servers.{Server}
use Rattle.grequest.specs.Asked.{Asked, Empty, Ls, Fetches}
use Rattle.gsession.specs.Laws.{OnlyGrows, TakingOnlyGrows}
use Rattle.gsession.specs.Sessions.{SessionState}
use Rattle.gsession.specs.SettlingRefs.{SettlesSession}
use Rattle.gsession.specs.declared.fault.ClientFault.{ClientFault}
use Rattle.gsession.specs.declared.fault.ClientFault.TheVariants as client
use Rattle.gsession.specs.declared.taken.Taken.TheVariants as taken
use Rattle.ggrammar.specs.MessageBytes.{known_bytes}
use Rattle.gworld.specs.Events.{AsksNext, Delivers, Forges, ServesRequest, SettlesRefs, Step, waiting_session}
use Rattle.gworld.specs.Laws.{LeadsThrough, LeavesClientRefs, LeavesServer, LeavesServerRefs, OthersLeaveRefs}
use Rattle.gworld.specs.Runs.{Run, RunWith}
use Rattle.gworld.specs.Taking.{TakesBytes}
use Rattle.gworld.specs.Worlds.{Kept, PackTools, WorldState}
use Rattle.gworld.proofs.Sessions.{only_same}
use Rattle.gscenario.specs.declared.event.Event.{Event}
use Rattle.gscenario.specs.declared.event.Event.TheVariants as event
use Rattle.gworld.specs.declared.outcome.Outcome.{Outcome}
use Rattle.gworld.specs.declared.outcome.Outcome.TheVariants.{Done, Asked as Asks, Served, LsTaken, Round, PackTaken}
use Rattle.gworld.specs.declared.outcome.Outcome.TheVariants.{Settled, Fault}

module _ {A S : Type 0} (P : S → Event A → Outcome → S → Type 0) where
  -- a prefix of a run is a run
  pub parted : (w new : S) (front rest : List (Event A)) (outcomes : List Outcome)
      → RunWith P w (front ++ rest) outcomes new
      → (v : S) × LeadsThrough P w front rest outcomes new v
  parted w new [] rest outcomes run =
      (w, record { early = []; late = outcomes; told = refl; before = refl; after = run })
  parted w new (first ∷ front) rest [] run = absurd run
  parted w new (first ∷ front) rest (told ∷ outcomes) (next, here, later) =
      let apart = parted next new front rest outcomes later in (
        apart.0,
        record {
          early = told ∷ apart.1.early;
          late = apart.1.late;
          told = ap (λ (list : List Outcome). told ∷ list) apart.1.told;
          before = (next, here, apart.1.before);
          after = apart.1.after;
        },
      )

-- both graphs only grow, and refs and the server change only if the event may change them
pub record Spares {A : Type 0} (e : Event A) (w v : WorldState A) : Type 0 where
  pub server : Grows w.server.graph.entries v.server.graph.entries
  pub client : Grows w.repo.graph.entries v.repo.graph.entries
  pub refs : LeavesClientRefs e → v.repo.refs ≡ w.repo.refs
  pub server_refs : LeavesServerRefs e → v.server.refs ≡ w.server.refs
  pub served : LeavesServer e → v.server ≡ w.server

module _ {A : Type 0} (tools : PackTools A) (grows : TakingOnlyGrows tools.indexes tools.index_fails)
    (refusals : RefusalsChangeNothing A) (servers : ServersGrow A) where
  module _ {w v : WorldState A} (e : Event A) where
    -- the server is unchanged, and the client's graph only grows
    client_only : v.server ≡ w.server → Grows w.repo.graph.entries v.repo.graph.entries
        → (LeavesClientRefs e → v.repo.refs ≡ w.repo.refs) → Spares e w v
    client_only server client refs = record {
      server = grows_none w.server.graph.entries v.server.graph.entries
          (ap (λ (s : Server A). s.graph.entries) server);
      client = client;
      refs = refs;
      server_refs = λ _. ap (λ (s : Server A). s.refs) server;
      served = λ _. server;
    }

    -- the server and the client's repository are unchanged
    neither : v.server ≡ w.server → v.repo ≡ w.repo → Spares e w v
    neither server repo = client_only server
        (grows_none w.repo.graph.entries v.repo.graph.entries (ap (λ (r : RepoState A). r.graph.entries) repo))
        (λ _. ap (λ (r : RepoState A). r.refs) repo)

    unchanged : v ≡ w → Spares e w v
    unchanged same = neither (ap (λ (x : WorldState A). x.server) same) (ap (λ (x : WorldState A). x.repo) same)

    -- the client's repository is unchanged, and the server's graph only grows
    server_only : v.repo ≡ w.repo → Grows w.server.graph.entries v.server.graph.entries
        → (LeavesServerRefs e → v.server.refs ≡ w.server.refs) → (LeavesServer e → v.server ≡ w.server) → Spares e w v
    server_only repo server refs served = record {
      server = server;
      client =
          grows_none w.repo.graph.entries v.repo.graph.entries (ap (λ (r : RepoState A). r.graph.entries) repo);
      refs = λ _. ap (λ (r : RepoState A). r.refs) repo;
      server_refs = refs;
      served = served;
    }

  -- the client's repository only grows when bytes arrive
  pub bytes_grow : (asked : Asked) (s after : SessionState A) (before repo : RepoState A) (bytes : List ℕ)
      (outcome : Outcome) → TakesBytes tools.indexes tools.index_fails asked s before bytes outcome after repo
      → OnlyGrows before repo
  bytes_grow (Ls asked) s after before repo bytes (LsTaken asks wants) takes = only_same before repo takes.5
  bytes_grow (Ls asked) s after before repo bytes (Fault number) takes = only_same before repo takes.5
  bytes_grow (Fetches asked) s after before repo bytes (Round common) takes =
      grows s after before repo (known_bytes bytes takes.0) (Ok (taken.Round common)) takes.1
  bytes_grow (Fetches asked) s after before repo bytes (PackTaken added) takes =
      grows s after before repo (known_bytes bytes takes.0) (Ok (taken.PackTaken added)) takes.1
  bytes_grow (Fetches asked) s after before repo bytes (Fault number) takes =
      grows s after before repo (known_bytes bytes takes.0) (Err takes.1) takes.2
  bytes_grow _ s after before repo bytes _ takes = absurd takes

  -- an event `Settle` that fails leaves the client's repository unchanged
  pub settle_refused : (s after : SessionState A) (before repo : RepoState A) (fault : ClientFault A)
      → SettlesSession s before after repo (Err fault) → repo ≡ before
  settle_refused s after before repo (client.Repo fault) settles =
      refusals.settling before repo s.asks fault settles.2
  settle_refused s after before repo client.NoOpenRequest settles = settles.2
  settle_refused s after before repo _ settles = absurd settles

  module _ (w v : WorldState A) where
    asks_spare : (session : Option (SessionState A)) (outcome : Outcome) → AsksNext w session outcome v
        → Spares event.Ask w v
    asks_spare None outcome step = unchanged event.Ask step.1
    asks_spare (Some s) (Asks number) step = neither event.Ask (ap (λ (x : WorldState A). x.server) step.4)
        (ap (λ (x : WorldState A). x.repo) step.4)
    asks_spare (Some s) (Fault number) step = neither event.Ask (ap (λ (x : WorldState A). x.server) step.4)
        (ap (λ (x : WorldState A). x.repo) step.4)
    asks_spare (Some s) _ step = absurd step

    settles_spare : (session : Option (SessionState A)) (outcome : Outcome) → SettlesRefs w session outcome v
        → Spares event.Settle w v
    settles_spare None outcome step = unchanged event.Settle step.1
    settles_spare (Some s) (Settled moved same not_forward) step =
        client_only event.Settle (ap (λ (x : WorldState A). x.server) step.6)
        (grows_none w.repo.graph.entries v.repo.graph.entries
        (ap (λ (x : WorldState A). x.repo.graph.entries) step.6
        ∙ ap (λ (g : History A). g.entries) step.4.3.0.graph)) (λ wrong. absurd wrong)
    settles_spare (Some s) (Fault number) step = neither event.Settle (ap (λ (x : WorldState A). x.server) step.5)
        (ap (λ (x : WorldState A). x.repo) step.5 ∙ settle_refused s step.0 w.repo step.1 step.2 step.3)
    settles_spare (Some s) _ step = absurd step

    serves_spare : (number : ℕ) (found : Option Asked) (outcome : Outcome)
        → ServesRequest tools.packs tools.pack_fails w found outcome v → Spares (event.Serve number) w v
    serves_spare number None outcome step = unchanged (event.Serve number) step.1
    serves_spare number (Some asked) (Served count) step = neither (event.Serve number)
        (ap (λ (x : WorldState A). x.server) step.3) (ap (λ (x : WorldState A). x.repo) step.3)
    serves_spare number (Some asked) (Fault code) step = unchanged (event.Serve number) step.3
    serves_spare number (Some asked) _ step = absurd step

    delivers_spare : (number count : ℕ) (found : Option Kept) (waits : Option (SessionState A × Asked))
        (outcome : Outcome) → Delivers tools.indexes tools.index_fails w found count waits outcome v
        → Spares (event.Deliver number count) w v
    delivers_spare number count None waits outcome step = unchanged (event.Deliver number count) step.1
    delivers_spare number count (Some kept) None outcome step = unchanged (event.Deliver number count) step.1
    delivers_spare number count (Some kept) (Some (s, asked)) outcome step =
        let came = step.2 in
        let only = bytes_grow asked s came.after w.repo came.repo _ outcome came.takes in
        client_only (event.Deliver number count) (ap (λ (x : WorldState A). x.server) came.is)
        (subst (λ (x : WorldState A). Grows w.repo.graph.entries x.repo.graph.entries) (sym came.is) only.grows)
        (λ _. ap (λ (x : WorldState A). x.repo.refs) came.is ∙ only.refs)

    forges_spare : (e : Event A) (bytes : List ℕ) (waits : Option (SessionState A × Asked)) (outcome : Outcome)
        → Forges tools.indexes tools.index_fails w bytes waits outcome v → Spares e w v
    forges_spare e bytes None outcome step = neither e (ap (λ (x : WorldState A). x.server) step.1)
        (ap (λ (x : WorldState A). x.repo) step.1)
    forges_spare e bytes (Some (s, asked)) outcome step =
        let only = bytes_grow asked s step.after w.repo step.repo bytes outcome step.takes in
        client_only e (ap (λ (x : WorldState A). x.server) step.is)
        (subst (λ (x : WorldState A). Grows w.repo.graph.entries x.repo.graph.entries) (sym step.is) only.grows)
        (λ _. ap (λ (x : WorldState A). x.repo.refs) step.is ∙ only.refs)

    pub step_spares : (e : Event A) (outcome : Outcome) → Step tools w e outcome v → Spares e w v
    step_spares (event.Begin specs) Done step = neither (event.Begin specs)
        (ap (λ (x : WorldState A). x.server) step.4) (ap (λ (x : WorldState A). x.repo) step.4)
    step_spares (event.Begin specs) (Fault number) step = unchanged (event.Begin specs) step.3
    step_spares event.Ask outcome step = asks_spare w.session outcome step
    step_spares (event.Serve number) outcome step = serves_spare number (slice_get w.sent number) outcome step
    step_spares (event.Deliver number count) outcome step =
        delivers_spare number count (slice_get w.kept number) (waiting_session w.session) outcome step
    step_spares (event.Forge bytes) outcome step =
        forges_spare (event.Forge bytes) bytes.items (waiting_session w.session) outcome step
    step_spares (event.StrangeRequest bytes) outcome step = unchanged (event.StrangeRequest bytes) step.0
    step_spares event.Settle outcome step = settles_spare w.session outcome step
    step_spares event.RestartClient outcome step = neither event.RestartClient
        (ap (λ (x : WorldState A). x.server) step.1) (ap (λ (x : WorldState A). x.repo) step.1)
    step_spares event.RestartServer outcome step = unchanged event.RestartServer step.1
    step_spares (event.ServerAdd entry) Done step =
        let server = step.1.0 in
        server_only (event.ServerAdd entry) (ap (λ (x : WorldState A). x.repo) step.1.2)
        (subst (λ (x : WorldState A). Grows w.server.graph.entries x.server.graph.entries) (sym step.1.2)
        (servers.adding w.server server entry (Ok tt) step.1.1).1)
        (λ _. ap (λ (x : WorldState A). x.server.refs) step.1.2 ∙ step.1.1.refs) (λ wrong. absurd wrong)
    step_spares (event.ServerAdd entry) (Fault number) step = unchanged (event.ServerAdd entry) step.0
    step_spares (event.ServerRef name id) Done step =
        server_only (event.ServerRef name id) (ap (λ (x : WorldState A). x.repo) step.2)
        (grows_none w.server.graph.entries v.server.graph.entries
        (ap (λ (x : WorldState A). x.server.graph.entries) step.2
        ∙ ap (λ (g : History A). g.entries) step.1.graph)) (λ wrong. absurd wrong) (λ wrong. absurd wrong)
    step_spares (event.ServerRef name id) (Fault number) step = unchanged (event.ServerRef name id) step.3
    step_spares (event.ClientAdd entry) Done step =
        let repo = step.1.0 in
        let added = step.1.2 in
        client_only (event.ClientAdd entry) (ap (λ (x : WorldState A). x.server) step.1.3)
        (subst (λ (x : WorldState A). Grows w.repo.graph.entries x.repo.graph.entries) (sym step.1.3)
        (comes_grows w.repo.graph.format w.repo.graph.entries entry repo.graph.entries added.1.1))
        (λ _. ap (λ (x : WorldState A). x.repo.refs) step.1.3 ∙ added.2)
    step_spares (event.ClientAdd entry) (Fault number) step = unchanged (event.ClientAdd entry) step.0
    step_spares (event.ClientRef name id) Done step =
        client_only (event.ClientRef name id) (ap (λ (x : WorldState A). x.server) step.2)
        (grows_none w.repo.graph.entries v.repo.graph.entries
        (ap (λ (x : WorldState A). x.repo.graph.entries) step.2
        ∙ ap (λ (g : History A). g.entries) step.1.0.graph)) (λ wrong. absurd wrong)
    step_spares (event.ClientRef name id) (Fault number) step = unchanged (event.ClientRef name id) step.3
    step_spares _ _ step = absurd step

  -- ---- the worlds before and after a run

  pub graphs_grow : (w v : WorldState A) (events : List (Event A)) (outcomes : List Outcome)
      → Run tools w events outcomes v
      → Grows w.server.graph.entries v.server.graph.entries × Grows w.repo.graph.entries v.repo.graph.entries
  graphs_grow w v [] [] run = (
    grows_none w.server.graph.entries v.server.graph.entries
        (ap (λ (x : WorldState A). x.server.graph.entries) run),
    grows_none w.repo.graph.entries v.repo.graph.entries (ap (λ (x : WorldState A). x.repo.graph.entries) run),
  )
  graphs_grow w v (first ∷ events) (told ∷ outcomes) (next, here, rest) =
      let one = step_spares w next first told here in
      let more = graphs_grow next v events outcomes rest in (
        grows_on w.server.graph.entries next.server.graph.entries v.server.graph.entries one.server more.0,
        grows_on w.repo.graph.entries next.repo.graph.entries v.repo.graph.entries one.client more.1,
      )
  graphs_grow w v _ _ run = absurd run

  -- a part of the world that no event of a run changes is unchanged after the run
  pub left_on : {X : Type 0} (leaves : Event A → Type 0) (part : WorldState A → X)
      → ((e : Event A) (x y : WorldState A) → leaves e → Spares e x y → part y ≡ part x)
      → (w v : WorldState A) (events : List (Event A)) (outcomes : List Outcome) → All leaves events
      → Run tools w events outcomes v → part v ≡ part w
  left_on leaves part each w v [] [] all run = ap part run
  left_on leaves part each w v (first ∷ events) (told ∷ outcomes) all (next, here, rest) =
      left_on leaves part each next v events outcomes (All-tail leaves first events all) rest
      ∙ each first w next (All-head leaves first events all) (step_spares w next first told here)
  left_on leaves part each w v _ _ all run = absurd run

  pub others_leave : OthersLeaveRefs tools
  others_leave = record {
    client = left_on LeavesClientRefs (λ (x : WorldState A). x.repo.refs) (λ e x y leaves spares. spares.refs leaves);
    server_refs = left_on LeavesServerRefs (λ (x : WorldState A). x.server.refs)
        (λ e x y leaves spares. spares.server_refs leaves);
    server = left_on LeavesServer (λ (x : WorldState A). x.server) (λ e x y leaves spares. spares.served leaves);
  }

  -- ---- failed events

  abbrev Same : WorldState A → WorldState A → Type 0
  Same w v = (v.server ≡ w.server) × (v.repo ≡ w.repo)

  module _ (w v : WorldState A) (number : ℕ) where
    same_ends : v ≡ w → Same w v
    same_ends same = (ap (λ (x : WorldState A). x.server) same, ap (λ (x : WorldState A). x.repo) same)

    bytes_refused : (asked : Asked) (s after : SessionState A) (before repo : RepoState A) (bytes : List ℕ)
        → TakesBytes tools.indexes tools.index_fails asked s before bytes (Fault number) after repo → repo ≡ before
    bytes_refused (Ls asked) s after before repo bytes takes = takes.5
    bytes_refused (Fetches asked) s after before repo bytes takes = takes.2.2
    bytes_refused Empty s after before repo bytes takes = absurd takes

    asks_refused : (session : Option (SessionState A)) → AsksNext w session (Fault number) v → Same w v
    asks_refused None step = same_ends step.1
    asks_refused (Some s) step =
        (ap (λ (x : WorldState A). x.server) step.4, ap (λ (x : WorldState A). x.repo) step.4)

    settles_refused : (session : Option (SessionState A)) → SettlesRefs w session (Fault number) v → Same w v
    settles_refused None step = same_ends step.1
    settles_refused (Some s) step = (
      ap (λ (x : WorldState A). x.server) step.5,
      ap (λ (x : WorldState A). x.repo) step.5 ∙ settle_refused s step.0 w.repo step.1 step.2 step.3,
    )

    serves_refused : (found : Option Asked)
        → ServesRequest tools.packs tools.pack_fails w found (Fault number) v → Same w v
    serves_refused None step = same_ends step.1
    serves_refused (Some asked) step = same_ends step.3

    delivers_refused : (found : Option Kept) (count : ℕ) (waits : Option (SessionState A × Asked))
        → Delivers tools.indexes tools.index_fails w found count waits (Fault number) v → Same w v
    delivers_refused None count waits step = same_ends step.1
    delivers_refused (Some kept) count None step = same_ends step.1
    delivers_refused (Some kept) count (Some (s, asked)) step =
        let came = step.2 in (
          ap (λ (x : WorldState A). x.server) came.is,
          ap (λ (x : WorldState A). x.repo) came.is
              ∙ bytes_refused asked s came.after w.repo came.repo _ came.takes,
        )

    forges_refused : (bytes : List ℕ) (waits : Option (SessionState A × Asked))
        → Forges tools.indexes tools.index_fails w bytes waits (Fault number) v → Same w v
    forges_refused bytes None step =
        (ap (λ (x : WorldState A). x.server) step.1, ap (λ (x : WorldState A). x.repo) step.1)
    forges_refused bytes (Some (s, asked)) step = (
      ap (λ (x : WorldState A). x.server) step.is,
      ap (λ (x : WorldState A). x.repo) step.is
          ∙ bytes_refused asked s step.after w.repo step.repo bytes step.takes,
    )

    pub refused_leaves : (e : Event A) → Step tools w e (Fault number) v → Same w v
    refused_leaves (event.Begin specs) step = same_ends step.3
    refused_leaves event.Ask step = asks_refused w.session step
    refused_leaves (event.Serve at) step = serves_refused (slice_get w.sent at) step
    refused_leaves (event.Deliver at count) step =
        delivers_refused (slice_get w.kept at) count (waiting_session w.session) step
    refused_leaves (event.Forge bytes) step = forges_refused bytes.items (waiting_session w.session) step
    refused_leaves (event.StrangeRequest bytes) step = same_ends step.0
    refused_leaves event.Settle step = settles_refused w.session step
    refused_leaves event.RestartClient step = let wrong : Fault number ≡ Done = step.0 in absurd (cc)
    refused_leaves event.RestartServer step = same_ends step.1
    refused_leaves (event.ServerAdd entry) step = same_ends step.0
    refused_leaves (event.ServerRef name id) step = same_ends step.3
    refused_leaves (event.ClientAdd entry) step = same_ends step.0
    refused_leaves (event.ClientRef name id) step = same_ends step.3
