-- Each step from a sound world leads to a sound world.
use Rattle.std.proofs.Common.{[], ◌≡◌, ℕ, Bool, true, false, List, ◌∷◌, ◌++◌, Option, Some, None, Ok, Err}
use Rattle.std.proofs.Common.{if◌then◌else◌, refl, sym, ap, subst, ◌∙◌, take, All}
use Rattle.std.specs.Prelude.{IfSome, slice_get}
use Rattle.std.proofs.lemmas.Bool.{false≢true}
use Rattle.std.proofs.lemmas.List.Elements.{All-cons, All-nil, All-push}
use Rattle.gname.specs.declared.formats.Format.{Format}
use Rattle.gfetchreply.specs.FetchHeads.{acknowledged_by}
use Rattle.gobject.specs.declared.node.Entry.{Entry}
use Rattle.gdag.proofs.Growing.{all_standing, grows_none}
use Rattle.gdag.specs.Graphs.{History}
use Rattle.gdag.specs.Insert.{ComesIn}
use Rattle.gdag.specs.Laws.{AgreesWith}
use Rattle.gdag.specs.Reach.{Agree}
use Rattle.gclientrepo.specs.Repos.{RepoState}
use Rattle.grequest.specs.Asked.{Asked, Empty, Ls, Fetches}
use Rattle.gsession.specs.Requesting.{Requests, is_due}
use Rattle.gsession.specs.Sessions.{IsSession, SessionState, after_fault, ends_session, over}
use Rattle.gsession.specs.SettlingRefs.{SettlesSession}
use Rattle.gsession.specs.declared.fault.ClientFault.{ClientFault}
use Rattle.gsession.specs.declared.fault.ClientFault.TheVariants as client
use Rattle.gsession.specs.declared.stage.Stage.{Stage}
use Rattle.gsession.specs.declared.stage.Stage.TheVariants.{Settling}
use Rattle.gdag.specs.declared.fault.GraphFault.TheVariants as graph
use Rattle.gclientrepo.specs.declared.fault.RepoFault.TheVariants as repo
use Rattle.gworld.specs.Sound.{AreEndsConnected, IsAnswered, IsSound, IsSoundKept, IsSoundRequest, IsSoundSession}
use Rattle.gworld.specs.Sound.{IsUnforgedAndFaithful}
use Rattle.gworld.specs.Events.{AsksNext, Delivers, Forges, ServesRequest, SettlesRefs, Step, mark_after, waiting_session}
use Rattle.gworld.specs.Events.{waits_for}
use Rattle.gworld.specs.Taking.{IsFullAnswer}
use Rattle.gworld.specs.Worlds.{Kept, PackTools, WorldState, reply_bytes}
use Rattle.gscenario.specs.declared.event.Event.{Event}
use Rattle.gscenario.specs.declared.event.Event.TheVariants as event
use Rattle.gworld.specs.declared.outcome.Outcome.{Outcome}
use Rattle.gworld.specs.declared.outcome.Outcome.TheVariants.{Done, Asked as Asks, Served, LsTaken as RefsTold, Round}
use Rattle.gworld.specs.declared.outcome.Outcome.TheVariants.{PackTaken, Settled, Fault}
use Rattle.gworld.proofs.Delivering.{can_settle, kept_tells, pack_came}
use Rattle.gworld.proofs.Sessions.{Extends, IsAnsweredIn, IsSoundIn, Takes, Tells, WorldLaws, answered_grown}
use Rattle.gworld.proofs.Sessions.{asked_sound, begin_sound, bytes_only, bytes_sound, client_extends, fault_sound}
use Rattle.gworld.proofs.Sessions.{honest_before, kept_grown, made_request, one_kept_grown, request_grown, sent_grown}
use Rattle.gworld.proofs.Sessions.{session_grown, session_in_grown, settled_sound}

-- no request is due in the stage `Settling`
due_not_settling : (stage : Stage) (pending : Option Asked) → stage ≡ Settling → is_due stage pending ≡ true → ⊥
due_not_settling Settling None same due = false≢true due
due_not_settling Settling (Some asked) same due = false≢true due
due_not_settling stage pending same due = cc

never : {X : Type 0} → false ≡ true → X
never wrong = absurd (false≢true wrong)

module _ {A : Type 0} {tools : PackTools A} (laws : WorldLaws tools) where
  abbrev Sound : WorldState A → Type 0
  Sound w = IsSound tools w

  abbrev Honest : WorldState A → Type 0
  Honest w = IsUnforgedAndFaithful tools w

  request_faults : (s after : SessionState A) (g : List (Entry A)) (fault : ClientFault A)
      → Requests s g after (Err fault) → after ≡ after_fault s fault
  request_faults s after g client.NoOpenRequest is = is.1
  request_faults s after g (client.Repo (repo.Graph graph.Memory)) is = is.1
  request_faults s after g _ is = absurd is

  settling_faults : (s after : SessionState A) (before new : RepoState A) (fault : ClientFault A)
      → SettlesSession s before after new (Err fault)
      → (after ≡ after_fault s fault) × (new.graph ≡ before.graph)
  settling_faults s after before new (client.Repo fault) settles =
      (settles.1, ap (λ (r : RepoState A). r.graph) (laws.refusals.settling before new s.asks fault settles.2))
  settling_faults s after before new client.NoOpenRequest settles =
      (settles.1, ap (λ (r : RepoState A). r.graph) settles.2)
  settling_faults s after before new _ settles = absurd settles

  agree_other_way : (g h : List (Entry A)) → Agree g h → Agree h g
  agree_other_way g h agree a m n here there = sym (agree a n m there here)

  -- two graphs still agree after one of them gains an entry with which the other agrees
  agrees_after : (format : Format) (g old new : List (Entry A)) (entry : Entry A) → Agree g old → AgreesWith g entry
      → ComesIn format old entry new → Agree g new
  agrees_after format g old new entry agree same comes = laws.agreeing g old (entry ∷ []) new format agree
      (All-cons (AgreesWith g) entry [] same (All-nil (AgreesWith g))) (new, comes, refl)

  -- if a session is still marked as answered after a fault, it satisfies `IsAnswered`
  mark_left : (v : WorldState A) (s after : SessionState A) (ends mark : Bool) → after ≡ (if ends then over s else s)
      → (mark ≡ true → IsAnswered tools v s) → (if ends then false else mark) ≡ true → IsAnswered tools v after
  mark_left v s after true mark is can wrong = never wrong
  mark_left v s after false mark is can same = subst (IsAnswered tools v) (sym is) (can same)

  -- a step from the sound world `w` to the world `v`
  module _ (w v : WorldState A) (ends : AreEndsConnected w) (later : AreEndsConnected v) (sound : IsSound tools w) where
    same_sound : v ≡ w → Sound v
    same_sound same = subst Sound (sym same) sound

    -- `v` is sound if the lists of requests and replies are unchanged, and the graphs and the session remain valid
    changed_sound : {u : WorldState A} → v ≡ u → Extends w u → u.sent ≡ w.sent → u.kept ≡ w.kept
        → (Honest u → Honest w → Agree u.server.graph.entries u.repo.graph.entries) → IsSoundIn u u.session
        → (u.answered ≡ true → IsAnsweredIn tools u u.session) → Sound v
    changed_sound {u} same e sent kept agree is settles = subst Sound (sym same) (record {
      format = e.client_format ∙ sound.format ∙ sym e.server_format;
      agree = λ honest. agree honest (honest_before e honest);
      sent = subst (All (IsSoundRequest u)) (sym sent) (sent_grown laws e w.sent sound.sent);
      kept = subst (All (IsSoundKept tools.packs u)) (sym kept) (kept_grown laws e w.kept sound.kept);
      session = is;
      answered = settles;
    })

    -- the graphs are unchanged
    graphs_stay : (u : WorldState A) → u.server.graph ≡ w.server.graph → u.repo.graph ≡ w.repo.graph
        → (u.forged ≡ false → w.forged ≡ false) → Extends w u
    graphs_stay u server client unforged = record {
      server = grows_none w.server.graph.entries u.server.graph.entries (ap (λ (g : History A). g.entries) server);
      server_format = ap (λ (g : History A). g.format) server;
      client = grows_none w.repo.graph.entries u.repo.graph.entries (ap (λ (g : History A). g.entries) client);
      client_format = ap (λ (g : History A). g.format) client;
      forged = unforged;
    }

    stays_sound : {u : WorldState A} → v ≡ u → u.server.graph ≡ w.server.graph → u.repo.graph ≡ w.repo.graph
        → (u.forged ≡ false → w.forged ≡ false) → u.sent ≡ w.sent → u.kept ≡ w.kept
        → (Extends w u → IsSoundIn u u.session)
        → (Extends w u → u.answered ≡ true → IsAnsweredIn tools u u.session) → Sound v
    stays_sound {u} same server client unforged sent kept is settles =
        let e = graphs_stay u server client unforged in
        changed_sound same e sent kept
        (λ now honest.
        subst (λ (g : History A). Agree g.entries u.repo.graph.entries) (sym server)
        (subst (λ (g : History A). Agree w.server.graph.entries g.entries) (sym client) (sound.agree honest))) (is e)
        (settles e)

    -- the graphs, the requests, the replies and the session are unchanged
    refs_sound : {u : WorldState A} → v ≡ u → u.server.graph ≡ w.server.graph → u.repo.graph ≡ w.repo.graph
        → (u.forged ≡ false → w.forged ≡ false) → u.sent ≡ w.sent → u.kept ≡ w.kept → u.session ≡ w.session
        → u.answered ≡ w.answered → Sound v
    refs_sound {u} same server client unforged sent kept session answered =
        stays_sound same server client unforged sent kept
        (λ e. subst (IsSoundIn u) (sym session) (session_in_grown laws e w.session sound.session))
        (λ e mark.
        subst (IsAnsweredIn tools u) (sym session)
        (answered_grown laws e w.session (sound.answered (sym answered ∙ mark))))

    -- ---- the session

    -- `v` is sound after a failed call of the session
    failed_sound : {s : SessionState A} (after : SessionState A) (repo : RepoState A) (fault : ClientFault A)
        → after ≡ after_fault s fault → repo.graph ≡ w.repo.graph
        → v ≡ record w { session = Some after; repo = repo; answered = mark_after fault w.answered }
        → IsSoundSession w s → (w.answered ≡ true → IsAnswered tools w s) → Sound v
    failed_sound {s} after repo fault faulted graph same is settles =
        let u : WorldState A = record w {
          session = Some after;
          repo = repo;
          answered = mark_after fault w.answered;
        } in
        stays_sound same refl graph (λ unforged. unforged) refl refl
        (λ e. fault_sound after fault faulted (session_grown laws e is))
        (λ e mark.
        mark_left u s after (ends_session fault) w.answered faulted
        (λ before. answered_grown laws e (Some s) (settles before)) mark)

    asks_sound : (session : Option (SessionState A)) (outcome : Outcome) → IsSoundIn w session
        → (w.answered ≡ true → IsAnsweredIn tools w session) → AsksNext w session outcome v → Sound v
    asks_sound None outcome is settles asks = same_sound asks.1
    asks_sound (Some s) (Asks number) is settles asks =
        let after = asks.0 in
        let asked = asks.1 in
        let made = asks.2.1 in
        let u : WorldState A = record w { session = Some after; sent = w.sent ++ asked ∷ [] } in
        let e = graphs_stay u refl refl (λ unforged. unforged) in
        let session : IsSession after = subst (λ (x : WorldState A). IfSome x.session IsSession) asks.4 later.session in
        subst Sound (sym asks.4) (record {
          format = sound.format;
          agree = λ honest. sound.agree (honest_before e honest);
          sent = All-push (IsSoundRequest u) w.sent asked (sent_grown laws e w.sent sound.sent)
              (request_grown laws e asked (made_request laws after is session asked made));
          kept = kept_grown laws e w.kept sound.kept;
          session = session_grown laws e (asked_sound laws after is session asked made);
          answered = λ mark. absurd (due_not_settling s.stage s.pending (settles mark).stage asks.2.0);
        })
    asks_sound (Some s) (Fault number) is settles asks =
        failed_sound asks.0 w.repo asks.1 (request_faults s asks.0 w.repo.graph.entries asks.1 asks.2) refl asks.4 is
        settles
    asks_sound (Some s) _ is settles asks = absurd asks

    settles_sound : (session : Option (SessionState A)) (outcome : Outcome) → IsSoundIn w session
        → (w.answered ≡ true → IsAnsweredIn tools w session) → SettlesRefs w session outcome v → Sound v
    settles_sound None outcome is can settles = same_sound settles.1
    settles_sound (Some s) (Settled moved same left) is can settles =
        let u : WorldState A = record w { session = Some settles.0; repo = settles.1; answered = false } in
        stays_sound settles.6 refl settles.4.3.0.graph (λ unforged. unforged) refl refl
        (λ e. subst (IsSoundSession u) (sym settles.4.2) (settled_sound (session_grown laws e is)))
        (λ e wrong. never wrong)
    settles_sound (Some s) (Fault number) is can settles =
        let failed = settling_faults s settles.0 w.repo settles.1 settles.2 settles.3 in
        failed_sound settles.0 settles.1 settles.2 failed.0 failed.1 settles.5 is can
    settles_sound (Some s) _ is can settles = absurd settles

    -- ---- the server

    serves_sound : (number : ℕ) (found : Option Asked) (outcome : Outcome) → slice_get w.sent number ≡ found
        → ServesRequest tools.packs tools.pack_fails w found outcome v → Sound v
    serves_sound number None outcome at serves = same_sound serves.1
    serves_sound number (Some asked) (Served count) at serves =
        let one : Kept = record { asked = asked; reply = serves.0 } in
        let u : WorldState A = record w { kept = w.kept ++ one ∷ [] } in
        let e = graphs_stay u refl refl (λ unforged. unforged) in
        let is : IsSoundKept tools.packs w one = record {
          server = w.server;
          is = ends.server;
          format = refl;
          grown = grows_none w.server.graph.entries w.server.graph.entries refl;
          answers = serves.1;
          request = all_standing (IsSoundRequest w) w.sent number asked at sound.sent;
        } in
        subst Sound (sym serves.3) (record {
          format = sound.format;
          agree = λ honest. sound.agree (honest_before e honest);
          sent = sent_grown laws e w.sent sound.sent;
          kept = All-push (IsSoundKept tools.packs u) w.kept one (kept_grown laws e w.kept sound.kept)
              (one_kept_grown laws e is);
          session = session_in_grown laws e w.session sound.session;
          answered = λ mark. answered_grown laws e w.session (sound.answered mark);
        })
    serves_sound number (Some asked) (Fault count) at serves = same_sound serves.3
    serves_sound number (Some asked) _ at serves = absurd serves

    -- ---- the arrival of a kept reply

    module _ {kept : Kept} (s : SessionState A) (count : ℕ) (is : IsSoundKept tools.packs w kept)
        (session : IsSoundSession w s) (types : IsSession s) where
      -- after the bytes of a kept reply arrive, the graphs of both ends still agree
      bytes_agree : (asked : Asked) (outcome : Outcome) (after : SessionState A) (repo : RepoState A) → Honest w
          → Takes laws asked s w.repo (take count (reply_bytes kept.reply)) outcome after repo
          → Agree w.server.graph.entries repo.graph.entries
      bytes_agree (Ls asked) (RefsTold asks wants) after repo honest takes =
          subst (λ (r : RepoState A). Agree w.server.graph.entries r.graph.entries) (sym takes.5) (sound.agree honest)
      bytes_agree (Ls asked) (Fault number) after repo honest takes =
          subst (λ (r : RepoState A). Agree w.server.graph.entries r.graph.entries) (sym takes.5) (sound.agree honest)
      bytes_agree (Fetches asked) (Round common) after repo honest takes =
          subst (λ (r : RepoState A). Agree w.server.graph.entries r.graph.entries) (sym takes.1.2.2.1.3)
          (sound.agree honest)
      bytes_agree (Fetches asked) (PackTaken added) after repo honest takes =
          (pack_came laws count added after repo honest sound is session takes).completed.agree
      bytes_agree (Fetches asked) (Fault number) after repo honest takes =
          subst (λ (r : RepoState A). Agree w.server.graph.entries r.graph.entries) (sym takes.2.2) (sound.agree honest)
      bytes_agree _ _ after repo honest takes = absurd takes

      -- a session that accepts the pack of a complete reply to its open request satisfies `IsAnswered`
      bytes_settle : (u : WorldState A) (asked : Asked) (outcome : Outcome) (after : SessionState A)
          → (Honest u → Honest w) → s.pending ≡ Some asked → IsSoundSession u s
          → Takes laws asked s w.repo (take count (reply_bytes kept.reply)) outcome after u.repo
          → IsFullAnswer kept asked count outcome → IsAnswered tools u after
      bytes_settle u (Fetches asked) (PackTaken added) after before waits still takes connected = record {
        stage = ap (λ (x : SessionState A). x.stage) takes.1.2.2.1.1;
        connected = λ honest.
            can_settle laws after asked (acknowledged_by takes.1.2.0) types waits connected.same
            (pack_came laws count added after u.repo (before honest) sound is session takes) still takes.1.2.2.1.1;
      }
      bytes_settle u (Ls asked) (PackTaken added) after before waits still takes connected = absurd takes
      bytes_settle u Empty outcome after before waits still takes connected = absurd takes
      bytes_settle u asked outcome after before waits still takes connected = absurd connected.pack

      delivers_to : (pending : Option Asked) (outcome : Outcome) → s.pending ≡ pending
          → Delivers tools.indexes tools.index_fails w (Some kept) count (waits_for s pending) outcome v → Sound v
      delivers_to None outcome waits delivers = same_sound delivers.1
      delivers_to (Some asked) outcome waits delivers =
          let came = delivers.2 in
          let only = bytes_only laws s w.repo (take count (reply_bytes kept.reply)) came.after asked came.repo outcome
          came.takes in
          let u : WorldState A = record w { session = Some came.after; repo = came.repo; answered = delivers.0 } in
          let e : Extends w u = client_extends w came.repo (Some came.after) w.forged delivers.0 only.grows only.format
          (λ unforged. unforged) in
          let still = session_grown laws e session in
          let tells = kept_tells laws s count (one_kept_grown laws e is) (session.format ∙ sound.format) session.ends in
          changed_sound came.is e refl refl (λ now honest. bytes_agree asked outcome came.after came.repo honest
          came.takes)
          (bytes_sound laws s w.repo (take count (reply_bytes kept.reply)) came.after u still tells asked outcome
          came.takes)
          (λ marked.
          bytes_settle u asked outcome came.after (λ honest. honest_before e honest) waits still came.takes
          (delivers.1.0 marked))

    delivers_sound : (number count : ℕ) (found : Option Kept) (session : Option (SessionState A)) (outcome : Outcome)
        → slice_get w.kept number ≡ found → IsSoundIn w session → IfSome session IsSession
        → Delivers tools.indexes tools.index_fails w found count (waiting_session session) outcome v → Sound v
    delivers_sound number count None session outcome at is types delivers = same_sound delivers.1
    delivers_sound number count (Some kept) None outcome at is types delivers = same_sound delivers.1
    delivers_sound number count (Some kept) (Some s) outcome at is types delivers =
        delivers_to s count (all_standing (IsSoundKept tools.packs w) w.kept number kept at sound.kept) is types
        s.pending outcome refl delivers

    -- ---- forged bytes

    -- `v` is sound after forged bytes arrive while no request is open
    forged_in_vain : v ≡ record w { forged = true } → Sound v
    forged_in_vain is = refs_sound is refl refl (λ wrong. never (sym wrong)) refl refl refl refl

    forges_to : (bytes : List ℕ) (s : SessionState A) (pending : Option Asked) (outcome : Outcome)
        → IsSoundSession w s → Forges tools.indexes tools.index_fails w bytes (waits_for s pending) outcome v → Sound v
    forges_to bytes s None outcome session forges = forged_in_vain forges.1
    forges_to bytes s (Some asked) outcome session forges =
        let after = forges.after in
        let only = bytes_only laws s w.repo bytes after asked forges.repo outcome forges.takes in
        let u : WorldState A = record w {
          session = Some after;
          repo = forges.repo;
          forged = true;
          answered = false;
        } in
        let e : Extends w u = client_extends w forges.repo (Some after) true false only.grows only.format
        (λ wrong. never (sym wrong)) in
        let tells : Tells u s bytes = record {
          refs = λ unforged. never (sym unforged);
          objects = λ unforged. never (sym unforged);
        } in
        changed_sound forges.is e refl refl (λ now. never (sym now.unforged))
        (bytes_sound laws s w.repo bytes after u (session_grown laws e session) tells asked outcome forges.takes)
        (λ wrong. never wrong)

    forges_sound : (bytes : List ℕ) (session : Option (SessionState A)) (outcome : Outcome) → IsSoundIn w session
        → Forges tools.indexes tools.index_fails w bytes (waiting_session session) outcome v → Sound v
    forges_sound bytes None outcome is forges = forged_in_vain forges.1
    forges_sound bytes (Some s) outcome is forges = forges_to bytes s s.pending outcome is forges

    -- ---- each step

    pub step_sound : (e : Event A) (outcome : Outcome) → Step tools w e outcome v → Sound v
    step_sound (event.Begin specs) Done step =
        let is : IsSoundSession w step.1 = subst (IsSoundSession w) (sym step.3.1)
        (begin_sound laws w specs.items step.0 ends.repo step.2) in
        stays_sound step.4 refl refl (λ unforged. unforged) refl refl (λ e. session_grown laws e is)
        (λ e wrong. never wrong)
    step_sound (event.Begin specs) (Fault number) step = same_sound step.3
    step_sound event.Ask outcome step = asks_sound w.session outcome sound.session sound.answered step
    step_sound (event.Serve number) outcome step = serves_sound number (slice_get w.sent number) outcome refl step
    step_sound (event.Deliver number count) outcome step =
        delivers_sound number count (slice_get w.kept number) w.session outcome refl sound.session ends.session step
    step_sound (event.Forge bytes) outcome step = forges_sound bytes.items w.session outcome sound.session step
    step_sound (event.StrangeRequest bytes) outcome step = same_sound step.0
    step_sound event.Settle outcome step = settles_sound w.session outcome sound.session sound.answered step
    step_sound event.RestartClient outcome step =
        stays_sound step.1 refl refl (λ unforged. unforged) refl refl (λ e. tt) (λ e wrong. never wrong)
    step_sound event.RestartServer outcome step = same_sound step.1
    step_sound (event.ServerAdd entry) Done step =
        let g = w.repo.graph.entries in
        let old = w.server.graph.entries in
        let server = step.1.0 in
        let grown = laws.servers.adding w.server server entry (Ok tt) step.1.1 in
        let e : Extends w (record w { server = server }) = record {
          server = grown.1;
          server_format = grown.0;
          client = grows_none g g refl;
          client_format = refl;
          forged = λ unforged. unforged;
        } in
        changed_sound step.1.2 e refl refl
        (λ now honest.
        agree_other_way g server.graph.entries
        (agrees_after w.server.graph.format g old server.graph.entries entry
        (agree_other_way old g (sound.agree honest)) step.0 step.1.1.comes))
        (session_in_grown laws e w.session sound.session)
        (λ mark. answered_grown laws e w.session (sound.answered mark))
    step_sound (event.ServerAdd entry) (Fault number) step = same_sound step.0
    step_sound (event.ServerRef name id) Done step =
        refs_sound step.2 (laws.servers.setting w.server step.0 name id (Ok tt) step.1) refl (λ unforged. unforged) refl
        refl refl refl
    step_sound (event.ServerRef name id) (Fault number) step = same_sound step.3
    step_sound (event.ClientAdd entry) Done step =
        let g = w.repo.graph.entries in
        let repo = step.1.0 in
        let one = step.1.2.1 in
        let grows = laws.coming w.repo.graph.format g entry repo.graph.entries one.1 in
        let e : Extends w (record w { repo = repo }) =
        client_extends w repo w.session w.forged w.answered grows one.0 (λ unforged. unforged) in
        changed_sound step.1.3 e refl refl
        (λ now honest.
        agrees_after w.repo.graph.format w.server.graph.entries g repo.graph.entries entry (sound.agree honest) step.0
        one.1)
        (session_in_grown laws e w.session sound.session)
        (λ mark. answered_grown laws e w.session (sound.answered mark))
    step_sound (event.ClientAdd entry) (Fault number) step = same_sound step.0
    step_sound (event.ClientRef name id) Done step =
        refs_sound step.2 refl step.1.0.graph (λ unforged. unforged) refl refl refl refl
    step_sound (event.ClientRef name id) (Fault number) step = same_sound step.3
    step_sound _ _ step = absurd step
