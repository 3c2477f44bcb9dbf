-- A fetch: the beginning of its dialogue, and the update of the refs after it.
use Rattle.std.proofs.Common.{◌≡◌, ◌∙◌, ℕ, ◌+◌, ◌≤◌, Bool, List, length, Option, Some, None, Result, Ok, Err, IfOk, IsErrAnd, refl, sym, ap, subst}
use Rattle.gname.specs.Ids.{Id}
use Rattle.gname.specs.Names.{Name}
use Rattle.gobject.specs.declared.node.Entry.{Entry}
use Rattle.gsession.specs.Keeping.{KeepsOn}
use Rattle.ggrammar.specs.declared.ends.Ends.{Ends}
use Rattle.gpkt.specs.Sending.{Input, Output}
use Rattle.gobject.specs.Packs.{Indexes, IndexFails}
use Rattle.gtalk.specs.declared.fault.TalkFault.{TalkFault}
use Rattle.gdag.specs.Laws.{DistinctAreOnce}
use Rattle.gdag.specs.Walks.{CountsReached}
use Rattle.grefs.specs.Refspecs.{Refspec}
use Rattle.gclientrepo.proofs.Refusals.{refusals_change_nothing}
use Rattle.gclientrepo.specs.Repos.{IsConnectedRepo, RepoState}
use Rattle.gsession.specs.Sessions.{IsSession, SessionState, max_specs, tips_of}
use Rattle.gsession.specs.Bounds.{BeganStays, RoundsAreFew}
use Rattle.gsession.specs.SettlingRefs.{SettlesSession}
use Rattle.gsession.specs.declared.stage.Stage.TheVariants.{Settling}
use Rattle.gsession.specs.declared.fault.ClientFault.{ClientFault}
use Rattle.gsession.specs.declared.fault.ClientFault.TheVariants as client
use Rattle.gsession.specs.declared.options.PackOptions.{PackOptions}
use Rattle.gfetch.specs.Conversations.{Converses, FetchesOver, IsLeft, cannot_settle}
use Rattle.gfetch.specs.Fetching.{IsFresh, start_of_side}
use Rattle.gfetch.specs.Starts.{Start, begin_session, hear_advert, start_for}
use Rattle.gfetch.specs.Turns.{ClientState}
use Rattle.gfetch.specs.declared.fault.FetchFault.{FetchFault}
use Rattle.gfetch.specs.declared.fault.FetchFault.TheVariants as fetch
use Rattle.gfetch.specs.declared.fetched.Fetched.{Fetched}
use Rattle.gfetch.specs.declared.side.ClientSide.{ClientSide}
use Rattle.gfetch.proofs.KeptLemmas.{begins_on, kept_still, turns_began, turns_kept}
use Rattle.gfetch.specs.Endings.{EndsAs, EndsTalk, HasClosed}
use Rattle.gfetch.specs.steps.Ending.{SettlesFetch}

-- a result that is an error with this value
pub err_of : {T E : Type 0} (value : E) (result : Result T E) → IsErrAnd result (λ e. e ≡ value) → result ≡ Err value
err_of value (Ok t) is = absurd is
err_of value (Err e) is = ap Err is

-- ---- the beginning

module _ {A K : Type 0} (repo : RepoState A) (refspecs : List Refspec) (limit : ℕ) (ends : Ends) (options : PackOptions) (session : SessionState A) (side : ClientSide A K)
    (same_repo : side.client.repo ≡ repo) (same_session : side.client.session ≡ session) (began : session ≡ begin_session (start_for repo refspecs limit ends options)) where
  pub same_start : start_of_side side ≡ start_for repo refspecs limit ends options
  same_start =
      ap (λ (s : SessionState A). start_for side.client.repo s.refspecs s.limit s.ends s.options) (same_session ∙ began)
      ∙ ap (λ (r : RepoState A). start_for r refspecs limit ends options) same_repo

  pub is_fresh : length refspecs ≤ max_specs → side.client.unborn ≡ None → side.fault ≡ None → IsFresh side
  is_fresh few unborn fault = record {
    begun = same_session ∙ began ∙ ap (λ (s : Start A). begin_session s) (sym same_start);
    few = subst (λ (specs : List Refspec). length specs ≤ max_specs) (sym (ap (λ (s : SessionState A). s.refspecs) (same_session ∙ began))) few;
    unborn = unborn;
    fault = fault;
  }

-- ---- the update of the refs

-- a fault of a session that can update the refs
pub settle_fails : {A : Type 0} (old new : SessionState A) (repo after : RepoState A) (unborn : Option Name) (fault : ClientFault A) → old.stage ≡ Settling
    → SettlesSession old repo new after (Err fault) → SettlesFetch old repo unborn after (Err (fetch.Client fault))
settle_fails old new repo after unborn (client.Repo cause) ready h = h.2
settle_fails old new repo after unborn client.NoOpenRequest ready h = absurd (h.0 ready)
settle_fails old new repo after unborn other ready h = absurd h

module _ {A K : Type 0} (indexes : Indexes A) (index_fails : IndexFails) (start : Start A) (input : Input) (output : Output) (now : ClientSide A K)
    (closed : HasClosed indexes index_fails start input output now) where
  pub settled_over : (new : RepoState A) (result : Result (Fetched A) (FetchFault A)) → SettlesFetch now.client.session now.client.repo now.client.unborn new result
      → FetchesOver indexes index_fails start input output new result
  settled_over new (Ok fetched) h = record {
    talk = closed.talk;
    last = now.client;
    converses = closed.converses;
    settles_next = closed.settles_next;
    passed = closed.passed;
    asks = h.0;
    settles = h.1;
    count = h.2;
    unborn = h.3;
  }
  settled_over new (Err (fetch.Client (client.Repo cause))) h =
      cannot_settle closed.talk now.client cause closed.converses closed.settles_next closed.passed h
  settled_over new (Err other) h = absurd h

-- the number of requests for objects is bounded by the number of ids that the refs reached
pub closed_bound : {A K : Type 0} (indexes : Indexes A) (index_fails : IndexFails) (start : Start A) (input : Input) (output : Output) (now : ClientSide A K)
    → HasClosed indexes index_fails start input output now → DistinctAreOnce → BeganStays A → RoundsAreFew A → IsConnectedRepo start.repo → IsSession now.client.session
    → (held parents : ℕ) → CountsReached start.repo.graph.entries (tips_of start.repo) held parents → now.client.session.rounds ≤ held + 1
closed_bound {A = A} indexes index_fails start input output now closed once stays few whole is held parents counts =
    let first = hear_advert start closed.converses.capabilities in
    let g = start.repo.graph.entries in
    let each = closed.converses.each in
    let began = turns_began indexes index_fails stays g first closed.talk now.client (kept_still first).grows (begins_on once start.repo first.session whole refl refl) each in
    let tips : now.client.session.tips ≡ tips_of start.repo = (turns_kept indexes index_fails first closed.talk now.client each).tips in
    few g now.client.session held parents is began (subst (λ (ids : List (List ℕ)). CountsReached g ids held parents) (sym tips) counts)

-- settling a session leaves the graph unchanged
pub fault_keeps_graph : {A : Type 0} (old new : SessionState A) (repo after : RepoState A) (fault : ClientFault A) → SettlesSession old repo new after (Err fault)
    → after.graph.entries ≡ repo.graph.entries
fault_keeps_graph {A = A} old new repo after (client.Repo cause) h = ap (λ (r : RepoState A). r.graph.entries) (refusals_change_nothing.settling repo after old.asks cause h.2)
fault_keeps_graph {A = A} old new repo after client.NoOpenRequest h = ap (λ (r : RepoState A). r.graph.entries) h.2
fault_keeps_graph {A = A} old new repo after other h = absurd h

-- equal indexers and equal graphs
pub keeps_to : {A K : Type 0} (keeps : K → Id → Type 0) (before first last after : K) (g0 g1 g2 g3 : List (Entry A)) → first ≡ before → after ≡ last → g1 ≡ g0 → g3 ≡ g2
    → KeepsOn (keeps first) (keeps last) g1 g2 → KeepsOn (keeps before) (keeps after) g0 g3
keeps_to {A = A} {K = K} keeps before first last after g0 g1 g2 g3 f l m n h =
    subst (λ (k : K). KeepsOn (keeps before) (keeps k) g0 g3) (sym l)
    (subst (λ (k : K). KeepsOn (keeps k) (keeps last) g0 g3) f
    (subst (λ (g : List (Entry A)). KeepsOn (keeps first) (keeps last) g g3) m
    (subst (λ (g : List (Entry A)). KeepsOn (keeps first) (keeps last) g1 g) (sym n) h)))

-- ---- the end of a dialogue

-- the number of requests of a conversation is the number of rounds of the session
pub settled_bound : {A : Type 0} (session : SessionState A) (old new : RepoState A) (unborn : Option Name) (P : ℕ → ℕ → Type 0) (result : Result (Fetched A) (FetchFault A))
    → SettlesFetch session old unborn new result → ((held parents : ℕ) → P held parents → session.rounds ≤ held + 1)
    → IfOk result (λ fetched. (held parents : ℕ) → P held parents → fetched.requests ≤ held + 1)
settled_bound session old new unborn P (Ok fetched) h few = λ held parents counts. subst (λ (n : ℕ). n ≤ held + 1) (sym h.2) (few held parents counts)
settled_bound session old new unborn P (Err fault) h few = tt

module _ {A K : Type 0} (indexes : Indexes A) (index_fails : IndexFails) (start : Start A) (input : Input) (output : Output) (now after : ClientSide A K) (driven : Result Bool TalkFault)
    (ends : EndsTalk indexes index_fails start input output now driven) where
  -- the end of a dialogue whose sink did not fail
  ends_by : (sent : Bool) (fault : Option (ClientFault A)) → driven ≡ Ok sent → now.fault ≡ fault → EndsAs indexes index_fails start input output now fault
  ends_by sent fault ran is =
      subst (EndsAs indexes index_fails start input output now) is (subst (EndsTalk indexes index_fails start input output now) ran ends)

  pub over_broken : (fault : TalkFault) → driven ≡ Err fault → FetchesOver indexes index_fails start input output now.client.repo (Err fetch.WriteFailed)
  over_broken fault broke = subst (EndsTalk indexes index_fails start input output now) broke ends

  pub over_fault : (sent : Bool) (fault : ClientFault A) → driven ≡ Ok sent → now.fault ≡ Some fault → after.client ≡ now.client
      → FetchesOver indexes index_fails start input output after.client.repo (Err (fetch.Client fault))
  over_fault sent fault ran is same =
      subst (λ (c : ClientState A). FetchesOver indexes index_fails start input output c.repo (Err (fetch.Client fault))) (sym same) (ends_by sent (Some fault) ran is)

  pub closed_after : (sent : Bool) → driven ≡ Ok sent → now.fault ≡ None → after.client ≡ now.client
      → HasClosed indexes index_fails start input output after
  closed_after sent ran is same =
      let h : HasClosed indexes index_fails start input output now = ends_by sent None ran is in
      record {
        talk = h.talk;
        converses = subst (λ (c : ClientState A). Converses indexes index_fails start input h.talk c IsLeft) (sym same) h.converses;
        settles_next = ap (λ (c : ClientState A). c.session.stage) same ∙ h.settles_next;
        passed = h.passed;
      }
