-- The promises of each step follow from the soundness of the world before it.
use Rattle.std.proofs.Common.{[], ◌≡◌, ◌⊎◌, ℕ, ◌≤◌, false, List, length, All, Option, Some, None, Ok, Err, inl, inr, refl}
use Rattle.std.proofs.Common.{sym, ap, subst, ◌∙◌, take}
use Rattle.std.proofs.lemmas.List.Elements.{All-nil, All-weaker}
use Rattle.std.specs.Prelude.{IfSome, slice_get, slice_index_or}
use Rattle.gobject.specs.declared.node.Entry.{Entry}
use Rattle.gobject.specs.declared.fault.PackFault.{PackFault}
use Rattle.gobject.specs.declared.fault.PackFault.TheVariants as pack
use Rattle.gobject.specs.Packs.{AreEntries}
use Rattle.gfetchreply.specs.FetchReplies.{FetchReply}
use Rattle.gdag.proofs.Growing.{all_standing}
use Rattle.gdag.specs.Graphs.{History}
use Rattle.gdag.specs.Reach.{IsConnected, here}
use Rattle.gdag.specs.declared.fault.GraphFault.TheVariants as graph
use Rattle.grefs.specs.declared.fault.RefsFault.TheVariants as refs
use Rattle.grequest.specs.Asked.{Asked, Empty, Ls, Fetches, FetchAsked}
use Rattle.gclientrepo.specs.Laws.{HeldIsNotMissing}
use Rattle.gclientrepo.specs.Asks.{asked_ids}
use Rattle.gclientrepo.specs.Changes.{SettlesAsks}
use Rattle.gclientrepo.specs.Repos.{RepoState}
use Rattle.gclientrepo.specs.Settling.{CannotSettle}
use Rattle.gclientrepo.specs.declared.ask.Ask.{Ask}
use Rattle.gclientrepo.specs.declared.ask.RefUpdate.{RefUpdate}
use Rattle.gclientrepo.specs.declared.fault.RepoFault.TheVariants as repo
use Rattle.ganswer.specs.Answers.{Refuses, Reply, Fetch as Objects}
use Rattle.ganswer.specs.FetchAnswers.{FailsToPack}
use Rattle.ganswer.specs.Faults.{serve_fault_row}
use Rattle.ganswer.specs.Servers.{IsServer}
use Rattle.ganswer.specs.declared.fault.ServeFault.{ServeFault}
use Rattle.ganswer.specs.declared.fault.ServeFault.TheVariants as serve
use Rattle.gsession.specs.Bounds.{RoundsAreFew}
use Rattle.gsession.specs.Sessions.{IsSession, SessionState}
use Rattle.gsession.specs.SettlingRefs.{SettlesSession}
use Rattle.gsession.specs.declared.fault.ClientFault.{ClientFault}
use Rattle.gsession.specs.declared.fault.ClientFault.TheVariants as client
use Rattle.gsession.specs.declared.stage.Stage.TheVariants.{Settling}
use Rattle.gworld.specs.Promises.{AsksSeldom, BringsAnswer, BringsWants, CompletesWants, HasSettled}
use Rattle.gworld.specs.Promises.{IsBrought, IsUpToDate, SettlesUpToDate}
use Rattle.gworld.specs.Promises.{IsServedOrRefused, IsSettledOrRefused, IsTakenOrDeclined, MayRefuse, ServesSent}
use Rattle.gworld.specs.Promises.{SettlesAnswered, SharesCommons, Promises, TakesAnswers}
use Rattle.gworld.specs.Sound.{AreEndsConnected, IsUnforgedAndFaithful, IsSound, IsSoundKept, IsSoundRequest}
use Rattle.gworld.specs.Sound.{IsSoundSession, IsWantedOrConnected}
use Rattle.gworld.specs.Events.{Delivers, ServesRequest, SettlesRefs, Step, waiting_session, waits_for}
use Rattle.gworld.specs.Faults.{no_such, out_of_turn}
use Rattle.gworld.specs.Taking.{TakesBytes, code_of}
use Rattle.gworld.specs.Worlds.{Kept, PackTools, WorldState, reply_bytes}
use Rattle.gscenario.specs.declared.event.Event.{Event}
use Rattle.gscenario.specs.declared.event.Event.TheVariants as event
use Rattle.gworld.specs.declared.outcome.Outcome.{Outcome}
use Rattle.gworld.specs.declared.outcome.Outcome.TheVariants.{Served, PackTaken, Settled, Fault}
use Rattle.gworld.proofs.Delivering.{either_connected, pack_came}
use Rattle.gworld.proofs.Faults.{FaultLaws, IsWhole, whole_taken}
use Rattle.gworld.proofs.Listing.{lists_each}
use Rattle.gworld.proofs.Sessions.{IsAnsweredIn, IsSoundIn, WorldLaws}
use Rattle.gworld.proofs.Steps.{step_sound}

-- ---- common ids, and the number of requests for objects

module _ {A : Type 0} where
  commons_shared : (w : WorldState A) (session : Option (SessionState A)) → IsSoundIn w session → w.forged ≡ false
      → IfSome session (SharesCommons w)
  commons_shared w None is unforged = tt
  commons_shared w (Some s) is unforged = λ k d low. record {
    server = is.shared unforged k d low;
    client = is.commons k d low (slice_index_or s.commons k d) here;
  }

  requests_few : RoundsAreFew A → (w : WorldState A) (session : Option (SessionState A)) → IsSoundIn w session
      → IfSome session IsSession → IfSome session (AsksSeldom w)
  requests_few law w None is types = tt
  requests_few law w (Some s) is types = λ held parents counts. law w.repo.graph.entries s held parents types is.began
      counts

module _ {A : Type 0} {tools : PackTools A} (laws : WorldLaws tools) where
  -- ---- settling

  settle_fault : HeldIsNotMissing A → (s after : SessionState A) (before new : RepoState A) (fault : ClientFault A)
      (number : ℕ) → s.stage ≡ Settling → All (IsConnected before.graph.entries) (asked_ids s.asks)
      → SettlesSession s before after new (Err fault)
      → number ≡ code_of fault → ((number ≡ 69) × CannotSettle before.refs s.asks) ⊎ (number ≡ 64)
  settle_fault law s after before new (client.Repo (repo.NotConnected missing)) number stage connected settles same =
      absurd (law before.graph.entries (asked_ids s.asks) missing connected settles.2.1)
  settle_fault law s after before new (client.Repo (repo.Refs refs.Refs)) number stage connected settles same =
      inl (same, settles.2.2)
  settle_fault law s after before new (client.Repo (repo.Refs refs.Memory)) number stage connected settles same = inr same
  settle_fault law s after before new (client.Repo (repo.Graph graph.Memory)) number stage connected settles same = inr same
  settle_fault law s after before new (client.Repo _) number stage connected settles same = absurd settles.2
  settle_fault law s after before new client.NoOpenRequest number stage connected settles same = absurd (settles.0 stage)
  settle_fault law s after before new _ number stage connected settles same = absurd settles

  has_settled : (old new : RepoState A) (asks : List (Ask A)) (updates : List RefUpdate)
      → SettlesAsks old asks new (Ok updates) → HasSettled old asks new
  has_settled old new asks updates settles = record {
    connected = subst (λ (g : History A). All (IsConnected g.entries) (asked_ids asks)) (sym settles.0.graph) settles.0.connected;
    moved = settles.1.asked;
  }

  -- a session in the stage `Settling` settles, or fails for one of the allowed reasons, if each requested id is
  -- connected
  settles_connected : HeldIsNotMissing A → (w v : WorldState A) (s : SessionState A) (outcome : Outcome)
      → s.stage ≡ Settling → All (IsConnected w.repo.graph.entries) (asked_ids s.asks) → SettlesRefs w (Some s) outcome v
      → IsSettledOrRefused w.repo (Some s) outcome v.repo
  settles_connected law w v s (Settled moved same not_forward) stage connected settles =
      subst (λ (x : WorldState A). HasSettled w.repo s.asks x.repo) (sym settles.6)
      (has_settled w.repo settles.1 s.asks settles.3 settles.4.3)
  settles_connected law w v s (Fault number) stage connected settles =
      settle_fault law s settles.0 w.repo settles.1 settles.2 number stage connected settles.3 settles.4
  settles_connected law w v s _ stage connected settles = absurd settles

  settles_well : HeldIsNotMissing A → (w v : WorldState A) (session : Option (SessionState A)) (outcome : Outcome)
      → IsUnforgedAndFaithful tools w → IsAnsweredIn tools w session → SettlesRefs w session outcome v
      → IsSettledOrRefused w.repo session outcome v.repo
  settles_well law w v None outcome honest can settles = absurd can
  settles_well law w v (Some s) outcome honest can settles =
      settles_connected law w v s outcome can.stage (can.connected honest) settles

  -- if the session has no wants, each requested id is connected
  none_wanted : (g : List (Entry A)) (s : SessionState A) → s.wants ≡ [] → All (IsWantedOrConnected g s) (asked_ids s.asks)
      → All (IsConnected g) (asked_ids s.asks)
  none_wanted g s none each = All-weaker (IsWantedOrConnected g s) (IsConnected g)
      (λ (a : List ℕ) either.
      either_connected laws g s (subst (All (IsConnected g)) (sym none) (All-nil (IsConnected g))) a either) (asked_ids s.asks) each

  settles_idle : HeldIsNotMissing A → (w v : WorldState A) (session : Option (SessionState A)) (outcome : Outcome)
      → IsSoundIn w session → SettlesRefs w session outcome v
      → IfSome session (λ s. IsUpToDate s → IsSettledOrRefused w.repo session outcome v.repo)
  settles_idle law w v None outcome is settles = tt
  settles_idle law w v (Some s) outcome is settles = λ idle.
      settles_connected law w v s outcome idle.stage (none_wanted w.repo.graph.entries s idle.none is.asked) settles

  settles_up_to_date : HeldIsNotMissing A → (w v : WorldState A) → IsSound tools w → (e : Event A) (outcome : Outcome)
      → Step tools w e outcome v → SettlesUpToDate w e outcome v
  settles_up_to_date law w v sound event.Settle outcome step =
      settles_idle law w v w.session outcome sound.session step
  settles_up_to_date law w v sound e outcome step = tt

  -- steps from a sound world without forged bytes, with a faithful packer and indexer
  module _ {w : WorldState A} (sound : IsSound tools w) (honest : IsUnforgedAndFaithful tools w) where
    -- ---- packs

    module _ (v : WorldState A) {kept : Kept} (count added : ℕ) (is : IsSoundKept tools.packs w kept) where
      -- the reply answers a request for objects, and the client holds the whole history of each want
      abbrev Brought : Type 0
      Brought = (asked : FetchAsked) × (kept.asked ≡ Fetches asked) × All (IsBrought v) asked.wants

      to_complete : (s : SessionState A) (pending : Option Asked) → IsSoundSession w s
          → Delivers tools.indexes tools.index_fails w (Some kept) count (waits_for s pending) (PackTaken added) v
          → Brought
      to_complete s (Some (Fetches asked)) session delivers =
          let bytes = delivers.2 in
          let came = pack_came laws count added bytes.after bytes.repo honest sound is session bytes.takes in (
            came.fetch,
            came.is_asked,
            subst (λ (u : WorldState A). All (IsBrought u) came.fetch.wants) (sym bytes.is) came.completed.all,
          )
      to_complete s None session delivers =
          let wrong : PackTaken added ≡ Fault out_of_turn = delivers.0 in absurd (cc)
      to_complete s (Some asked) session delivers = absurd delivers.2.takes

      kept_complete : (session : Option (SessionState A)) → IsSoundIn w session
          → Delivers tools.indexes tools.index_fails w (Some kept) count (waiting_session session) (PackTaken added) v
          → Brought
      kept_complete None session delivers =
          let wrong : PackTaken added ≡ Fault out_of_turn = delivers.0 in absurd (cc)
      kept_complete (Some s) session delivers = to_complete s s.pending session delivers

    found_complete : (v : WorldState A) (number count added : ℕ) (found : Option Kept) → slice_get w.kept number ≡ found
        → Delivers tools.indexes tools.index_fails w found count (waiting_session w.session) (PackTaken added) v
        → BringsWants w number v
    found_complete v number count added None at delivers =
        let wrong : PackTaken added ≡ Fault no_such = delivers.0 in absurd (cc)
    found_complete v number count added (Some kept) at delivers =
        let brought = kept_complete v count added
        (all_standing (IsSoundKept tools.packs w) w.kept number kept at sound.kept) w.session sound.session delivers
        in record { kept = kept; at = at; asked = brought.0; fetches = brought.1; wants = brought.2 }

    completes : (v : WorldState A) (e : Event A) (outcome : Outcome) → Step tools w e outcome v
        → CompletesWants w e outcome v
    completes v (event.Deliver number count) (PackTaken added) step =
        found_complete v number count added (slice_get w.kept number) refl step
    completes v e outcome step = tt

    -- ---- a complete reply to the open request

    module _ (faults : FaultLaws A) where
      whole_of : (s after : SessionState A) (asked : Asked) (reply : FetchReply) (count : ℕ) (outcome : Outcome)
          (r : RepoState A) → IsSoundSession w s → s.pending ≡ Some asked
          → IsSoundKept tools.packs w (record { asked = asked; reply = Objects reply })
          → length (reply_bytes (Objects reply)) ≤ count
          → TakesBytes tools.indexes tools.index_fails asked s w.repo (take count (reply_bytes (Objects reply))) outcome
          after r → IsTakenOrDeclined tools w.repo reply outcome
      whole_of s after Empty reply count outcome r session waits is all takes = absurd takes
      whole_of s after (Ls asked) reply count outcome r session waits is all takes = absurd is.answers
      whole_of s after (Fetches asked) reply count outcome r session waits is all takes =
          let keeps = laws.keeps is.server.graph.entries w.server.graph.entries is.grown in
          let whole : IsWhole laws faults w s is.server asked reply = record {
            honest = honest;
            agree = λ a m n here there. sound.agree honest a m n (keeps a m here) there;
            is = is.is;
            format = is.format ∙ sym sound.format;
            session_format = session.format;
            limit = session.limit;
            ends = session.ends;
            limits = session.limits;
            request = is.request;
            is_answer = is.answers;
            waits = waits;
          } in
          whole_taken laws faults whole count after outcome r all takes

      takes_answers : (v : WorldState A) (number count : ℕ) (outcome : Outcome)
          → Delivers tools.indexes tools.index_fails w (slice_get w.kept number) count (waiting_session w.session) outcome v
          → (reply : FetchReply) → BringsAnswer w number count reply → IsTakenOrDeclined tools w.repo reply outcome
      takes_answers v number count outcome delivers reply brings =
          let kept = brings.kept in
          let s = brings.session in
          let Comes = Delivers tools.indexes tools.index_fails w in
          let found : Comes (Some kept) count (waiting_session w.session) outcome v =
          subst (λ (o : Option Kept). Comes o count (waiting_session w.session) outcome v) brings.at delivers in
          let to : Comes (Some kept) count (waits_for s s.pending) outcome v =
          subst (λ (o : Option (SessionState A)). Comes (Some kept) count (waiting_session o) outcome v) brings.goes_on found in
          let comes : Comes (Some kept) count (Some (s, kept.asked)) outcome v =
          subst (λ (o : Option Asked). Comes (Some kept) count (waits_for s o) outcome v) brings.waits to in
          let bytes = comes.2 in
          let same = ap (λ (r : Reply). record { asked = kept.asked; reply = r }) brings.objects in
          whole_of s bytes.after kept.asked reply count outcome bytes.repo
          (subst (IsSoundIn w) brings.goes_on sound.session) brings.waits
          (subst (IsSoundKept tools.packs w) same
          (all_standing (IsSoundKept tools.packs w) w.kept number kept brings.at sound.kept))
          (subst (λ (r : Reply). length (reply_bytes r) ≤ count) brings.objects brings.all)
          (subst (λ (r : Reply). TakesBytes tools.indexes tools.index_fails kept.asked s w.repo
          (take count (reply_bytes r)) outcome bytes.after bytes.repo) brings.objects bytes.takes)

      takes_each : (v : WorldState A) (e : Event A) (outcome : Outcome) → Step tools w e outcome v
          → TakesAnswers tools w e outcome
      takes_each v (event.Deliver number count) outcome step = takes_answers v number count outcome step
      takes_each v e outcome step = tt

    -- ---- replies to sent requests

    -- a packer's fault for the objects to send is an allowed reason for the server to reject the request
    pack_refused : (asked : FetchAsked) (why : PackFault) (number : ℕ) (list : List (Entry A))
        → number ≡ (serve_fault_row (serve.Pack why)).code → AreEntries list → tools.pack_fails list why
        → FailsToPack w.server tools.pack_fails asked why → MayRefuse tools w.server (Fetches asked) number
    pack_refused asked pack.Memory number list is entries fails sends = inl (is, inr sends)
    pack_refused asked pack.TooLarge number list is entries fails sends = inl (is, inl sends)
    pack_refused asked pack.Other number list is entries fails sends =
        absurd (honest.faithful.packs_each list entries fails)

    refusal_served : (asked : Asked) (fault : ServeFault) (number : ℕ) → IsServer w.server → IsSoundRequest w asked
        → Refuses w.server tools.pack_fails asked fault → number ≡ (serve_fault_row fault).code
        → MayRefuse tools w.server asked number
    refusal_served Empty fault number is sent refuses same = absurd sent
    refusal_served (Ls asked) fault number is sent refuses same =
        same ∙ ap (λ (f : ServeFault). (serve_fault_row f).code) refuses
    refusal_served (Fetches asked) fault number is sent refuses same =
        elim (laws.serves w.server asked fault is (record { some = sent.some; held = sent.held honest.unforged })
        refuses) [
          | inl memory ↦ inr (same ∙ ap (λ (f : ServeFault). (serve_fault_row f).code) memory)
          | inr failed ↦
              (let here = subst (Refuses w.server tools.pack_fails (Fetches asked)) failed.2 refuses in
              pack_refused asked failed.1 number failed.0
              (same ∙ ap (λ (f : ServeFault). (serve_fault_row f).code) failed.2) failed.3 failed.4 here.2)
        ]

    found_served : (v : WorldState A) (number : ℕ) (found : Option Asked) (outcome : Outcome)
        → slice_get w.sent number ≡ found → IsServer w.server
        → ServesRequest tools.packs tools.pack_fails w found outcome v → IsServedOrRefused tools w.server found outcome
    found_served v number None outcome at is serves = tt
    found_served v number (Some asked) (Served count) at is serves = tt
    found_served v number (Some asked) (Fault code) at is serves =
        refusal_served asked serves.0 code is (all_standing (IsSoundRequest w) w.sent number asked at sound.sent)
        serves.1 serves.2
    found_served v number (Some asked) _ at is serves = absurd serves

    serves_each : (v : WorldState A) (e : Event A) (outcome : Outcome) → IsServer w.server → Step tools w e outcome v
        → ServesSent tools w e outcome
    serves_each v (event.Serve number) outcome is step =
        found_served v number (slice_get w.sent number) outcome refl is step
    serves_each v e outcome is step = tt

    settles_answered : HeldIsNotMissing A → (v : WorldState A) (e : Event A) (outcome : Outcome)
        → Step tools w e outcome v → SettlesAnswered w e outcome v
    settles_answered law v event.Settle outcome step =
        λ answered. settles_well law w v w.session outcome honest (sound.answered answered) step
    settles_answered law v e outcome step = tt

  -- ---- the soundness of the next world, and the promises of a step

  pub promised : FaultLaws A → HeldIsNotMissing A → RoundsAreFew A → (w v : WorldState A) (e : Event A)
      (outcome : Outcome) → AreEndsConnected w → AreEndsConnected v → IsSound tools w → Step tools w e outcome v
      → IsSound tools v × Promises tools w e outcome v
  promised faults settling rounds w v e outcome ends later sound step =
      let after = step_sound laws w v ends later sound e outcome step in (
        after,
        record {
          step = step;
          refs = later.repo.connected_refs;
          few = requests_few rounds v v.session after.session later.session;
          commons = commons_shared v v.session after.session;
          lists = lists_each laws faults sound v e outcome step;
          up_to_date = settles_up_to_date settling w v sound e outcome step;
          ends = later;
          honest = λ honest. record {
            completes = completes sound honest v e outcome step;
            takes = takes_each sound honest faults v e outcome step;
            serves = serves_each sound honest v e outcome ends.server step;
            settles = settles_answered sound honest settling v e outcome step;
          };
        },
      )
