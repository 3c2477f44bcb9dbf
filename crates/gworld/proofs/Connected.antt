-- Each step leaves both ends connected. Therefore each run keeps its promises.
use Rattle.std.proofs.Common.{[], ◌∷◌, ◌≡◌, ℕ, List, Option, Some, None, Ok, inl, inr, refl, sym, ap, subst}
use Rattle.std.specs.Map.{values_of}
use Rattle.std.specs.Prelude.{Bool, slice_get}
use Rattle.std.proofs.lemmas.List.Elements.{All-weaker}
use Rattle.gname.specs.declared.formats.Format.{Format}
use Rattle.gobject.specs.declared.node.Entry.{Entry}
use Rattle.gdag.proofs.Growing.{comes_grows, graph_push, grows_keeps, keeps_held}
use Rattle.gdag.specs.Graphs.{History, Holds, IsGraph}
use Rattle.gdag.specs.Insert.{ComesIn, Inserts}
use Rattle.gdag.specs.Laws.{ClosedStays}
use Rattle.gdag.specs.Reach.{Keeps}
use Rattle.grefs.specs.RefLists.{IsRefs, RefList}
use Rattle.grefs.specs.declared.head.Head.{Head}
use Rattle.grefs.specs.declared.head.Head.TheVariants as heads
use Rattle.grequest.specs.Asked.{Asked, Ls, Fetches}
use Rattle.gclientrepo.specs.Laws.{RefusalsChangeNothing, SettingStaysConnected, SettlingStaysConnected, ConnectedRepoStays}
use Rattle.gclientrepo.specs.Repos.{IsConnectedRepo, RepoState}
use Rattle.ganswer.proofs.ServerLemmas.{with_ref_or_same}
use Rattle.ganswer.specs.Changes.{AddsObject, SetsOneRef}
use Rattle.ganswer.specs.Laws.{ServersGrow}
use Rattle.ganswer.specs.Servers.{HoldsHead, IsServer, Server, server_of}
use Rattle.gsession.specs.Laws.{OnlyGrows, TakingOnlyGrows}
use Rattle.gsession.specs.Sessions.{SessionState}
use Rattle.gworld.specs.Events.{AsksNext, Delivers, Forges, ServesRequest, SettlesRefs, Step, waiting_session}
use Rattle.gworld.specs.Laws.{AreListed, EndsStayConnected, StepsKeep, StepsListed}
use Rattle.gworld.specs.Promises.{Promises}
use Rattle.gworld.specs.Runs.{RunWith}
use Rattle.gworld.specs.Sound.{AreEndsConnected, IsSound}
use Rattle.gworld.specs.Taking.{TakesBytes}
use Rattle.gworld.specs.Worlds.{Kept, PackTools, WorldState}
use Rattle.gscenario.specs.declared.event.Event.{Event}
use Rattle.gscenario.specs.declared.event.Event.TheVariants as event
use Rattle.gworld.specs.declared.outcome.Outcome.{Outcome}
use Rattle.gworld.specs.declared.outcome.Outcome.TheVariants.{Done, Asked as Asks, Served, LsTaken, Round, PackTaken}
use Rattle.gworld.specs.declared.outcome.Outcome.TheVariants.{Settled, Fault}
use Rattle.gworld.proofs.Kept.{bytes_grow, settle_refused}

pub record ConnectedLaws (A : Type 0) : Type 0 where
  pub closed : ClosedStays A
  pub growing : ConnectedRepoStays A
  pub settling : SettlingStaysConnected A
  pub setting : SettingStaysConnected A

module _ {A : Type 0} where
  -- ---- graphs

  abbrev graph_of : Format → List (Entry A) → History A
  graph_of format entries = record { format = format; entries = entries }

  comes_graph : (format : Format) (old : List (Entry A)) (entry : Entry A) (new : List (Entry A))
      → IsGraph (graph_of format old) → ComesIn format old entry new → IsGraph (graph_of format new)
  comes_graph format old entry new graph c =
      let P : List (Entry A) → Type 0 = λ entries. IsGraph (graph_of format entries) in
      elim c.comes [
        | inl same ↦ subst P (sym same.1) graph
        | inr more ↦
            subst P (sym more.1) (graph_push format old entry graph more.0 c.ids c.shaped (c.room more.0))
      ]

  inserts_graph : (format : Format) (old entries new : List (Entry A)) → IsGraph (graph_of format old)
      → Inserts format old entries new → IsGraph (graph_of format new)
  inserts_graph format old [] new graph is =
      subst (λ (entries : List (Entry A)). IsGraph (graph_of format entries)) (sym is) graph
  inserts_graph format old (entry ∷ entries) new graph (next, c, rest) =
      inserts_graph format next entries new (comes_graph format old entry next graph c) rest

  in_format : (old new : History A) → new.format ≡ old.format → IsGraph (graph_of old.format new.entries)
      → IsGraph new
  in_format old new same graph = subst (λ (f : Format). IsGraph (graph_of f new.entries)) (sym same) graph

  same_graph : (old new : History A) → new ≡ old → IsGraph old → IsGraph new
  same_graph old new same graph = subst IsGraph (sym same) graph

  -- ---- a server

  head_stays : (g h : List (Entry A)) → Keeps g h → (head : Head A) → HoldsHead g head → HoldsHead h head
  head_stays g h keeps heads.None held = held
  head_stays g h keeps (heads.Id id) held = keeps_held g h keeps id held
  head_stays g h keeps (heads.Symref target) held = held

  server_adds : ClosedStays A → (old new : Server A) (entry : Entry A) → IsServer old → AddsObject old entry new
      → IsServer new
  server_adds law old new entry is adds =
      let g = old.graph.entries in
      let h = new.graph.entries in
      let keeps = grows_keeps g h (comes_grows old.graph.format g entry h adds.comes) in
      let grown : IsServer (server_of new.graph old.refs old.head) = record {
        graph = in_format old.graph new.graph adds.format
            (comes_graph old.graph.format g entry h is.graph adds.comes);
        refs = is.refs;
        closed = law old.graph.format g entry h is.closed adds.parents adds.comes;
        held = All-weaker (Holds g) (Holds h) (keeps_held g h keeps) (values_of old.refs) is.held;
        head = head_stays g h keeps old.head is.head;
        target = is.target;
      } in
      subst (λ (refs : RefList). IsServer (server_of new.graph refs new.head)) (sym adds.refs)
      (subst (λ (head : Head A). IsServer (server_of new.graph old.refs head)) (sym adds.head) grown)

  server_sets : (old new : Server A) (name id : List ℕ) → IsServer old → IsRefs new.refs
      → SetsOneRef old name id new → IsServer new
  server_sets old new name id is refs sets =
      let set : IsServer (server_of old.graph new.refs old.head) =
      with_ref_or_same old.graph old.refs new.refs old.head name id is sets.held (Ok tt) sets.sets tt refs in
      subst (λ (graph : History A). IsServer (server_of graph new.refs new.head)) (sym sets.graph)
      (subst (λ (head : Head A). IsServer (server_of old.graph new.refs head)) (sym sets.head) set)

  -- ---- a client's repository

  repo_grows : ConnectedRepoStays A → (old new : RepoState A) → OnlyGrows old new → IsGraph new.graph → IsConnectedRepo old
      → IsConnectedRepo new
  repo_grows law old new only graph is =
      subst (λ (marks : List Bool). IsConnectedRepo (record { graph = new.graph; refs = new.refs; known = marks }))
      (sym only.marks)
      (subst (λ (refs : RefList). IsConnectedRepo (record { graph = new.graph; refs = refs; known = old.known }))
      (sym only.refs)
      (law old.graph new.graph old.refs old.known only.grows graph.differ is))

module _ {A : Type 0} (tools : PackTools A) (grows : TakingOnlyGrows tools.indexes tools.index_fails)
    (refusals : RefusalsChangeNothing A) (servers : ServersGrow A) (whole : ConnectedLaws A) where
  bytes_graph : (asked : Asked) (s after : SessionState A) (before repo : RepoState A) (bytes : List ℕ)
      (outcome : Outcome) → TakesBytes tools.indexes tools.index_fails asked s before bytes outcome after repo
      → IsGraph before.graph → IsGraph repo.graph
  bytes_graph (Ls asked) s after before repo bytes (LsTaken asks wants) takes graph =
      same_graph before.graph repo.graph (ap (λ (r : RepoState A). r.graph) takes.5) graph
  bytes_graph (Ls asked) s after before repo bytes (Fault number) takes graph =
      same_graph before.graph repo.graph (ap (λ (r : RepoState A). r.graph) takes.5) graph
  bytes_graph (Fetches asked) s after before repo bytes (Round common) takes graph =
      same_graph before.graph repo.graph (ap (λ (r : RepoState A). r.graph) takes.1.2.2.1.3) graph
  bytes_graph (Fetches asked) s after before repo bytes (PackTaken added) takes graph =
      let comes = takes.1.2.2.1.2 in
      in_format before.graph repo.graph comes.2.adds.0
      (inserts_graph before.graph.format before.graph.entries comes.0 repo.graph.entries graph comes.2.adds.1)
  bytes_graph (Fetches asked) s after before repo bytes (Fault number) takes graph =
      same_graph before.graph repo.graph (ap (λ (r : RepoState A). r.graph) takes.2.2) graph
  bytes_graph _ s after before repo bytes _ takes graph = absurd takes

  module _ (w v : WorldState A) (ends : AreEndsConnected w) (listed : AreListed v) where
    -- both ends of `v` are connected if the server and the client's repository of an equal world are connected
    connected_as : {u : WorldState A} → v ≡ u → IsServer u.server → IsConnectedRepo u.repo → IsGraph u.repo.graph
        → AreEndsConnected v
    connected_as {u} same server repo graph = record {
      server = subst (λ (x : WorldState A). IsServer x.server) (sym same) server;
      repo = subst (λ (x : WorldState A). IsConnectedRepo x.repo) (sym same) repo;
      graph = subst (λ (x : WorldState A). IsGraph x.repo.graph) (sym same) graph;
      refs = listed.client;
      session = listed.session;
    }

    unchanged : v ≡ w → AreEndsConnected v
    unchanged same = connected_as same ends.server ends.repo ends.graph

    asks_connected : (session : Option (SessionState A)) (outcome : Outcome) → AsksNext w session outcome v
        → AreEndsConnected v
    asks_connected None outcome step = unchanged step.1
    asks_connected (Some s) (Asks number) step = connected_as step.4 ends.server ends.repo ends.graph
    asks_connected (Some s) (Fault number) step = connected_as step.4 ends.server ends.repo ends.graph
    asks_connected (Some s) _ step = absurd step

    settles_to_connected : (session : Option (SessionState A)) (outcome : Outcome) → SettlesRefs w session outcome v
        → AreEndsConnected v
    settles_to_connected None outcome step = unchanged step.1
    settles_to_connected (Some s) (Settled moved same not_forward) step =
        let refs : IsRefs step.1.refs = subst (λ (x : WorldState A). IsRefs x.repo.refs) step.6 listed.client in
        connected_as step.6 ends.server (whole.settling w.repo step.1 s.asks step.3 refs ends.repo step.4.3)
        (same_graph w.repo.graph step.1.graph step.4.3.0.graph ends.graph)
    settles_to_connected (Some s) (Fault number) step =
        let same = settle_refused tools grows refusals servers s step.0 w.repo step.1 step.2 step.3 in
        connected_as step.5 ends.server (subst IsConnectedRepo (sym same) ends.repo)
        (same_graph w.repo.graph step.1.graph (ap (λ (r : RepoState A). r.graph) same) ends.graph)
    settles_to_connected (Some s) _ step = absurd step

    serves_connected : (found : Option Asked) (outcome : Outcome)
        → ServesRequest tools.packs tools.pack_fails w found outcome v → AreEndsConnected v
    serves_connected None outcome step = unchanged step.1
    serves_connected (Some asked) (Served count) step = connected_as step.3 ends.server ends.repo ends.graph
    serves_connected (Some asked) (Fault code) step = unchanged step.3
    serves_connected (Some asked) _ step = absurd step

    -- both ends remain connected after bytes arrive
    bytes_connected : (asked : Asked) (s after : SessionState A) (repo : RepoState A) (bytes : List ℕ)
        (outcome : Outcome) → TakesBytes tools.indexes tools.index_fails asked s w.repo bytes outcome after repo
        → {u : WorldState A} → v ≡ u → u.server ≡ w.server → u.repo ≡ repo → AreEndsConnected v
    bytes_connected asked s after repo bytes outcome takes same server is =
        let graph = bytes_graph asked s after w.repo repo bytes outcome takes ends.graph in
        let only = bytes_grow tools grows refusals servers asked s after w.repo repo bytes outcome takes in
        connected_as same (subst IsServer (sym server) ends.server)
        (subst IsConnectedRepo (sym is) (repo_grows whole.growing w.repo repo only graph ends.repo))
        (subst (λ (r : RepoState A). IsGraph r.graph) (sym is) graph)

    delivers_connected : (found : Option Kept) (count : ℕ) (waits : Option (SessionState A × Asked)) (outcome : Outcome)
        → Delivers tools.indexes tools.index_fails w found count waits outcome v → AreEndsConnected v
    delivers_connected None count waits outcome step = unchanged step.1
    delivers_connected (Some kept) count None outcome step = unchanged step.1
    delivers_connected (Some kept) count (Some (s, asked)) outcome step =
        let came = step.2 in bytes_connected asked s came.after came.repo _ outcome came.takes came.is refl refl

    forges_connected : (bytes : List ℕ) (waits : Option (SessionState A × Asked)) (outcome : Outcome)
        → Forges tools.indexes tools.index_fails w bytes waits outcome v → AreEndsConnected v
    forges_connected bytes None outcome step = connected_as step.1 ends.server ends.repo ends.graph
    forges_connected bytes (Some (s, asked)) outcome step =
        bytes_connected asked s step.after step.repo bytes outcome step.takes step.is refl refl

    pub step_connected : (e : Event A) (outcome : Outcome) → Step tools w e outcome v → AreEndsConnected v
    step_connected (event.Begin specs) Done step = connected_as step.4 ends.server ends.repo ends.graph
    step_connected (event.Begin specs) (Fault number) step = unchanged step.3
    step_connected event.Ask outcome step = asks_connected w.session outcome step
    step_connected (event.Serve number) outcome step = serves_connected (slice_get w.sent number) outcome step
    step_connected (event.Deliver number count) outcome step =
        delivers_connected (slice_get w.kept number) count (waiting_session w.session) outcome step
    step_connected (event.Forge bytes) outcome step = forges_connected bytes.items (waiting_session w.session) outcome step
    step_connected (event.StrangeRequest bytes) outcome step = unchanged step.0
    step_connected event.Settle outcome step = settles_to_connected w.session outcome step
    step_connected event.RestartClient outcome step = connected_as step.1 ends.server ends.repo ends.graph
    step_connected event.RestartServer outcome step = unchanged step.1
    step_connected (event.ServerAdd entry) Done step =
        connected_as step.1.2 (server_adds whole.closed w.server step.1.0 entry ends.server step.1.1) ends.repo ends.graph
    step_connected (event.ServerAdd entry) (Fault number) step = unchanged step.0
    step_connected (event.ServerRef name id) Done step =
        let refs : IsRefs step.0.refs = subst (λ (x : WorldState A). IsRefs x.server.refs) step.2 listed.server in
        connected_as step.2 (server_sets w.server step.0 name id ends.server refs step.1) ends.repo ends.graph
    step_connected (event.ServerRef name id) (Fault number) step = unchanged step.3
    step_connected (event.ClientAdd entry) Done step =
        let repo = step.1.0 in
        let added = step.1.2 in
        let old = w.repo.graph in
        let graph = in_format old repo.graph added.1.0
        (comes_graph old.format old.entries entry repo.graph.entries ends.graph added.1.1) in
        let only : OnlyGrows w.repo repo = record {
          grows = comes_grows old.format old.entries entry repo.graph.entries added.1.1;
          format = added.1.0;
          refs = added.2;
          marks = added.3;
        } in
        connected_as step.1.3 ends.server (repo_grows whole.growing w.repo repo only graph ends.repo) graph
    step_connected (event.ClientAdd entry) (Fault number) step = unchanged step.0
    step_connected (event.ClientRef name id) Done step =
        connected_as step.2 ends.server (whole.setting w.repo step.0 name id ends.repo step.1)
        (same_graph w.repo.graph step.0.graph step.1.0.graph ends.graph)
    step_connected (event.ClientRef name id) (Fault number) step = unchanged step.3
    step_connected _ _ step = absurd step

-- a run from a sound world with connected ends keeps its promises, and leads to a sound world with connected ends
pub runs_keep : {A : Type 0} (tools : PackTools A) → StepsKeep tools → EndsStayConnected tools
    → (w v : WorldState A) (events : List (Event A)) (outcomes : List Outcome) → AreEndsConnected w → IsSound tools w
    → RunWith (StepsListed tools) w events outcomes v
    → RunWith (Promises tools) w events outcomes v × AreEndsConnected v × IsSound tools v
runs_keep {A} tools keep stay w v [] [] ends sound run =
    (run, subst AreEndsConnected (sym run) ends, subst (IsSound tools) (sym run) sound)
runs_keep tools keep stay w v (first ∷ events) (told ∷ outcomes) ends sound (next, here, rest) =
    let later = stay w next first told ends here.listed here.step in
    let kept = keep w next first told ends later sound here.step in
    let on = runs_keep tools keep stay next v events outcomes later kept.0 rest in
    ((next, kept.1, on.0), on.1, on.2)
runs_keep tools keep stay w v _ _ ends sound run = absurd run
