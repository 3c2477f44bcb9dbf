-- A whole fetch over two joined ends is a run of a world.
use Rattle.std.proofs.Common.{All, [], ◌∷◌, ◌++◌, ◌≡◌, ◌⊎◌, ◌∙◌, ◌≤◌, ℕ, false, List, length, map, Option, Some, None, Vec}
use Rattle.std.proofs.Common.{Result, Ok, Err, inl, inr, refl, sym, ap, subst, append-nil, append_assoc}
use Rattle.std.specs.Io.KnownBytes.{Appends}
use Rattle.std.specs.List.{flat_map}
use Rattle.std.specs.Map.{values_of}
use Rattle.std.proofs.lemmas.List.{append_cancel_right}
use Rattle.gname.specs.declared.formats.Format.{Format}
use Rattle.gname.specs.declared.formats.Format.TheVariants.{Sha1, Sha256}
use Rattle.gpkt.specs.Packets.{Packet, SpellsAll, canonical_all}
use Rattle.gpkt.specs.Sending.{Input, Output}
use Rattle.ggrammar.specs.Capabilities.{Capability}
use Rattle.ggrammar.specs.declared.ends.Ends.TheVariants.{Plain}
use Rattle.ghello.specs.Adverts as advert
use Rattle.ghello.specs.Offers.{check_fault}
use Rattle.gfetchreply.specs.Values.{default_limit}
use Rattle.gdag.specs.Graphs.{IsGraph}
use Rattle.grefs.specs.RefLists.{IsRefs}
use Rattle.grefs.specs.Refspecs.{Refspec}
use Rattle.grequest.specs.Asked.{Asked, Empty}
use Rattle.gclientrepo.specs.Repos.{IsConnectedRepo, RepoState}
use Rattle.ganswer.specs.Adverts.{advertisement}
use Rattle.ganswer.specs.Servers.{Server}
use Rattle.gserver.specs.Conversations.{advert_packets}
use Rattle.gsession.proofs.CommonLemmas.{tip_ids}
use Rattle.gsession.proofs.SessionLemmas.{begun}
use Rattle.gsession.specs.Sessions.{IsSession, SessionState, max_specs, new_session, tells_unborn, tips_of}
use Rattle.gsession.specs.declared.fault.ClientFault.TheVariants as client
use Rattle.gfetch.specs.Conversations.{Converses, Fails, FailsToAsk, FetchesOver, HasAsked, HasFetched, IsLeft, cannot_ask}
use Rattle.gfetch.specs.Conversations.{cannot_begin, cannot_hear, cannot_send, cannot_settle, cannot_take, no_buffer}
use Rattle.gfetch.specs.Conversations.{request_bytes, requests_bytes}
use Rattle.gfetch.specs.Starts.{Start, hear_advert, start_of}
use Rattle.gfetch.specs.Turns.{ClientState, Refuses, Turn}
use Rattle.gfetch.specs.declared.fault.FetchFault.{FetchFault}
use Rattle.gfetch.specs.declared.fetched.Fetched.{Fetched}
use Rattle.gscenario.specs.declared.event.Event.{Event}
use Rattle.gscenario.specs.declared.event.Event.TheVariants as event
use Rattle.gworld.specs.Events.{Step, settled_outcome}
use Rattle.gworld.specs.Fetching.{IsDone}
use Rattle.gworld.specs.Laws.{StepsListed}
use Rattle.gworld.specs.Runs.{Run, RunWith}
use Rattle.gworld.specs.Sound.{AreEndsConnected}
use Rattle.gworld.specs.Taking.{code_of}
use Rattle.gworld.specs.Worlds.{Kept, PackTools, WorldState, new_world, reply_bytes}
use Rattle.gworld.specs.declared.outcome.Outcome.{Outcome}
use Rattle.gworld.specs.declared.outcome.Outcome.TheVariants as outcomes
use Rattle.gworld.proofs.Runs.{run_maps}
use Rattle.gjoined.specs.Joined.{AnyFetchIsARun, AreFetchEvents, Carries, FetchesAreRuns, IsSomeRun, IsWorldRun}
use Rattle.gjoined.specs.Joined.{events_from, none, rounds, settled, fetch_events, fetch_outcomes, outcomes_from}
use Rattle.gjoined.proofs.Bytes.{one_front, read_from}
use Rattle.gjoined.proofs.Errors.{error_bytes, no_advert}
use Rattle.gjoined.proofs.Plain.{IsPlain}
use Rattle.gjoined.proofs.Rounds.{GoesOn, IsEnd, goes_on, replies_read, replies_written, settles, settles_none}
use Rattle.gjoined.proofs.Rounds.{stepped, stops, world_at}
use Rattle.gjoined.proofs.Serving.{HasRefused, HasServed, JoinedLaws, carried, serves}
use Rattle.gjoined.proofs.Sources.{AreSources, sources}

-- ---- the advertisement

-- a client accepts the advertisement of a server of its own format only
one_format : (mine theirs : Format) → check_fault mine (advertisement theirs) ≡ None → mine ≡ theirs
one_format Sha1 Sha1 fits = refl
one_format Sha256 Sha256 fits = refl
one_format Sha1 Sha256 fits = absurd (cc)
one_format Sha256 Sha1 fits = absurd (cc)

-- the advertisement that the client reads is that of the server, and the bytes of the replies remain
pub record IsHeard (format : Format) (capabilities : List Capability) (rest after : List ℕ) : Type 0 where
  pub same : capabilities ≡ advertisement format
  pub left : rest ≡ after

-- the session of a plain fetch, after it read the advertisement
abbrev pub heard_session : {A : Type 0} → RepoState A → List Refspec → List Capability → SessionState A
heard_session {A} repo specs capabilities = record
    (new_session {A = A} repo.graph.format specs default_limit Plain (tips_of repo)) {
      offers_unborn = tells_unborn capabilities;
    }

-- a call that writes nothing
appends_same : (old : Option (List ℕ)) → Appends old old []
appends_same None = tt
appends_same (Some bytes) = sym (append-nil bytes)

appends_none : (old new : Option (List ℕ)) → new ≡ old → Appends old new []
appends_none old new same = subst (λ (o : Option (List ℕ)). Appends old o []) (sym same) (appends_same old)

-- steps with listed ends are steps
listed_run : {A : Type 0} (tools : PackTools A) (w v : WorldState A) (events : List (Event A)) (told : List Outcome)
    → RunWith (StepsListed tools) w events told v → Run tools w events told v
listed_run {A} tools w v events told run =
    run_maps (λ (u : WorldState A). u) (StepsListed tools) (Step tools)
    (λ (u : WorldState A) (e : Event A) (outcome : Outcome) (next : WorldState A) step. step.step) w v events told run

module _ {A : Type 0} {tools : PackTools A} (laws : JoinedLaws tools) where
  heard : (format : Format) (packets : List Packet) (capabilities : List Capability) (front rest after : List ℕ)
      → advert.Says packets capabilities → SpellsAll packets front
      → front ++ rest ≡ canonical_all (advert_packets format) ++ after → IsHeard format capabilities rest after
  unfolding advert_packets
  heard format packets capabilities front rest after says spelt same =
      let written = advert.canonical_advert (advertisement format) in
      let well = laws.advert_says written (advertisement format) (laws.welcome format).form refl in
      let one = one_front laws.advert_ends written packets (canonical_all written) front after rest well.0.whole
      says.whole (laws.rounds.requests.spells written well.1) spelt (sym same) in record {
        same = says.says ∙ ap advert.capabilities_of one.0 ∙ sym well.0.says;
        left = one.1;
      }

  -- ---- the beginning

  begun_session : (repo : RepoState A) (specs : List Refspec) (capabilities : List Capability) → IsConnectedRepo repo
      → IsGraph repo.graph → length specs ≤ max_specs → IsSession (heard_session repo specs capabilities)
  begun_session repo specs capabilities whole graph few =
      let sessions = laws.rounds.replies.sessions in
      begun (heard_session repo specs capabilities) few
      (tip_ids sessions.once sessions.places repo.graph (values_of repo.refs) graph whole.connected_refs)
      refl refl refl refl refl refl

  begins_step : (server : Server A) (repo : RepoState A) (specs : Vec Refspec A) (capabilities : List Capability)
      → length specs.items ≤ max_specs → capabilities ≡ advertisement server.graph.format
      → Step tools (new_world server repo) (event.Begin specs) outcomes.Done
      (world_at server (heard_session repo specs.items capabilities) repo [] [] false)
  begins_step server repo specs capabilities few same = (
    new_session {A = A} repo.graph.format specs.items default_limit Plain (tips_of repo),
    heard_session repo specs.items capabilities,
    (few, refl),
    ((refl, refl), ap (λ (c : List Capability). heard_session repo specs.items c) same),
    refl,
  )

  -- ---- the rounds over two joined ends

  module _ (server : Server A) (repo new : RepoState A) (specs : Vec Refspec A) (asked answered : List ℕ) where
    abbrev format : Format
    format = server.graph.format

    abbrev start : Start A
    start = start_of repo specs.items default_limit Plain

    -- the event `Begin`, and all rounds of the turns, with the events `late` after them
    record HasRun (turns : List Turn) (between : Option (List ℕ)) (late : List (Event A)) (told : List Outcome)
        : Type 0 where
      formats : repo.graph.format ≡ format
      session : SessionState A
      left : List ℕ
      missing : List ℕ
      rest : List ℕ
      is : between ≡ Some left
      first : StepsListed tools (new_world server repo) (event.Begin specs) outcomes.Done
          (world_at server session repo [] [] false)
      read : answered ++ missing ≡ canonical_all (advert_packets format) ++ rest
      goes : GoesOn tools server (world_at server session repo [] [] false) 0 (requests_bytes format turns) rest
          (left ++ missing) new late told

    -- the bytes that the client read first, and the bytes after them
    read_parts : (first then left missing front whole rest : List ℕ) → answered ≡ front ++ left → front ≡ first ++ then
        → answered ++ missing ≡ whole ++ rest → first ++ (then ++ (left ++ missing)) ≡ whole ++ rest
    read_parts first then left missing front whole rest parts both same =
        sym (append_assoc first then (left ++ missing)) ∙ ap (λ (l : List ℕ). l ++ (left ++ missing)) (sym both)
        ∙ sym (append_assoc front left missing) ∙ ap (λ (l : List ℕ). l ++ missing) (sym parts) ∙ same

    -- the turns of a client over the bytes of a server
    has_run : (input : Input) (back : Output) (talk : List Turn) (last : ClientState A) (Rest : Input → Type 0)
        (further : List ℕ) (late : List (Event A)) (told : List Outcome) → AreEndsConnected (new_world server repo)
        → AreSources specs.items → Carries back input answered → HasServed tools server asked answered
        → (conversed : Converses tools.indexes tools.index_fails start input talk last Rest)
        → asked ≡ requests_bytes repo.graph.format talk ++ further
        → IsEnd tools server specs.items last new late told → HasRun talk conversed.between late told
    has_run input back talk last Rest further late told ends valid_sources receives served conversed wrote is_end =
        let replies = canonical_all (replies_written served.served) ++ served.tail in
        let read = read_from input.read.old conversed.between answered (conversed.packets ++ replies_read talk)
        receives.read conversed.read in
        let parts = laws.rounds.split conversed.packets (replies_read talk) read.front read.spelt in
        let rest = read.left ++ served.missing in
        let hears : IsHeard format conversed.capabilities (parts.1 ++ rest) replies =
        heard format conversed.packets conversed.capabilities parts.0 (parts.1 ++ rest) replies
        conversed.advertises.says parts.3
        (read_parts parts.0 parts.1 read.left served.missing read.front (canonical_all (advert_packets format)) replies
        read.parts parts.2 served.wrote) in
        let formats : repo.graph.format ≡ format = one_format repo.graph.format format
        (subst (λ (c : List Capability). check_fault repo.graph.format c ≡ None) hears.same
        conversed.advertises.fits) in
        let here : asked ≡ requests_bytes format talk ++ further =
        wrote ∙ ap (λ (f : Format). requests_bytes f talk ++ further) formats in
        let first = hear_advert start conversed.capabilities in
        let valid = begun_session repo specs.items conversed.capabilities ends.repo ends.graph conversed.few in
        let begun_step = stepped tools server laws.rounds ends.server specs.items valid_sources (new_world server repo)
        (event.Begin specs) outcomes.Done first.session repo [] [] false ends ends.refs valid
        (begins_step server repo specs conversed.capabilities conversed.few hears.same) in
        let plain : IsPlain format specs.items first.session = record {
          session = valid;
          format_is = formats;
          ends_are = refl;
          limits_are = refl;
          specs_are = refl;
        } in record {
          formats = formats;
          session = first.session;
          left = read.left;
          missing = served.missing;
          rest = replies;
          is = read.is;
          first = begun_step.0;
          read = served.wrote;
          goes = goes_on tools server laws.rounds ends.server specs.items valid_sources talk served.served first last []
              [] false 0 served.front served.left further parts.1 rest served.tail new late told refl refl begun_step.1
              plain conversed.each served.each served.spelt (sym served.parts ∙ here) parts.4 hears.left served.none
              is_end;
        }

    -- a client accepts no error packet as the advertisement
    refused_none : (input : Input) (back : Output) (talk : List Turn) (last : ClientState A) (Rest : Input → Type 0)
        → Carries back input answered → HasRefused answered
        → Converses tools.indexes tools.index_fails start input talk last Rest → ⊥
    refused_none input back talk last Rest receives refused conversed =
        let replies = replies_read talk in
        let read = read_from input.read.old conversed.between answered (conversed.packets ++ replies) receives.read
        conversed.read in
        let parts = laws.rounds.split conversed.packets replies read.front read.spelt in
        no_advert laws.errors conversed.packets parts.0 (parts.1 ++ (read.left ++ refused.missing)) refused.said
        refused.short conversed.advertises.says.whole parts.3
        (read_parts parts.0 parts.1 read.left refused.missing read.front [] (error_bytes refused.said) read.parts parts.2
        refused.wrote)

    runs : (input : Input) (back : Output) (talk : List Turn) (last : ClientState A) (Rest : Input → Type 0)
        (further : List ℕ) (late : List (Event A)) (told : List Outcome) → AreEndsConnected (new_world server repo)
        → AreSources specs.items → Carries back input answered
        → HasServed tools server asked answered ⊎ HasRefused answered
        → (conversed : Converses tools.indexes tools.index_fails start input talk last Rest)
        → asked ≡ requests_bytes repo.graph.format talk ++ further
        → IsEnd tools server specs.items last new late told → HasRun talk conversed.between late told
    runs input back talk last Rest further late told ends valid_sources receives (inl served) conversed wrote is_end =
        has_run input back talk last Rest further late told ends valid_sources receives served conversed wrote is_end
    runs input back talk last Rest further late told ends valid_sources receives (inr refused) conversed wrote is_end =
        absurd (refused_none input back talk last Rest receives refused conversed)

    -- the replies of a run, as the client read them
    replies_came : (turns : List Turn) (between : Option (List ℕ)) (late : List (Event A)) (told : List Outcome)
        → (has : HasRun turns between late told)
        → answered ≡ canonical_all (advert_packets format)
        ++ flat_map (λ (one : Kept). reply_bytes one.reply) has.goes.more ++ has.left
    replies_came turns between late told has =
        let hello = canonical_all (advert_packets format) in
        let replies = flat_map (λ (one : Kept). reply_bytes one.reply) has.goes.more in
        append_cancel_right answered (hello ++ replies ++ has.left) has.missing
        (has.read ∙ ap (λ (b : List ℕ). hello ++ b) has.goes.read
        ∙ sym (append_assoc hello replies (has.left ++ has.missing))
        ∙ sym (append_assoc (hello ++ replies) has.left has.missing))

    -- the requests of a run, as the client wrote them
    requests_went : (turns : List Turn) (between : Option (List ℕ)) (late : List (Event A)) (told : List Outcome)
        → (has : HasRun turns between late told)
        → requests_bytes repo.graph.format turns
        ≡ flat_map (λ (one : Asked). request_bytes format one) has.goes.last.sent
    requests_went turns between late told has =
        ap (λ (f : Format). requests_bytes f turns) has.formats ∙ has.goes.wrote
        ∙ ap (λ (l : List Asked). flat_map (λ (one : Asked). request_bytes format one) l) (sym has.goes.requests)

    -- ---- a fetch that succeeds

    whole_run : (fetched : Fetched A) (turns : List Turn) (between unread : Option (List ℕ))
        → AreEndsConnected (new_world server repo)
        → asked ≡ requests_bytes repo.graph.format turns ++ request_bytes repo.graph.format Empty → unread ≡ between
        → HasRun turns between (event.Settle ∷ []) (settled_outcome fetched.settled.updates.items ∷ [])
        → IsWorldRun tools server repo specs asked answered unread new fetched
    whole_run fetched turns between unread ends wrote same has =
        let w = new_world server repo in
        let then = has.goes in
        let events = fetch_events specs then.more in
        let told = fetch_outcomes then.taken fetched.settled.updates.items in
        let run : RunWith (StepsListed tools) w events told then.last =
        (world_at server has.session repo [] [] false, has.first, then.run) in record {
          kept = then.more;
          taken = then.taken;
          last = then.last;
          run = listed_run tools w then.last events told run;
          promises = λ can. (laws.keeps w then.last events told ends (laws.sound server repo can) run).0;
          done = then.done;
          repo_after = then.repo_after;
          server_after = then.server_after;
          replies = then.replies;
          requests = then.requests;
          wrote = wrote ∙ ap (λ (f : Format). requests_bytes repo.graph.format turns ++ request_bytes f Empty) has.formats
              ∙ ap (λ (b : List ℕ). b ++ request_bytes format Empty)
              (requests_went turns between (event.Settle ∷ []) (settled_outcome fetched.settled.updates.items ∷ []) has);
          more = has.left;
          read = replies_came turns between (event.Settle ∷ []) (settled_outcome fetched.settled.updates.items ∷ []) has;
          rest = same ∙ has.is;
        }

    -- ---- any fetch

    -- the events and their outcomes, with these last events
    abbrev AreEvents : List (Event A) → List Outcome → Type 0
    AreEvents late told =
        (kept : List Kept) (taken : List Outcome) → All IsDone taken
        → AreFetchEvents specs kept (event.Begin specs ∷ events_from 0 kept late)
        (outcomes.Done ∷ outcomes_from 0 taken told)

    some_run : (turns : List Turn) (between : Option (List ℕ)) (late : List (Event A)) (told : List Outcome)
        (further : List ℕ) → AreEndsConnected (new_world server repo) → AreEvents late told
        → asked ≡ requests_bytes repo.graph.format turns ++ further → HasRun turns between late told
        → IsSomeRun tools server repo specs asked answered new
    some_run turns between late told further ends shape wrote has =
        let w = new_world server repo in
        let then = has.goes in
        let events = event.Begin specs ∷ events_from 0 then.more late in
        let outcomes = outcomes.Done ∷ outcomes_from 0 then.taken told in
        let run : RunWith (StepsListed tools) w events outcomes then.last =
        (world_at server has.session repo [] [] false, has.first, then.run) in record {
          events = events;
          told = outcomes;
          last = then.last;
          run = listed_run tools w then.last events outcomes run;
          promises = λ can. (laws.keeps w then.last events outcomes ends (laws.sound server repo can) run).0;
          of_fetch = subst (λ (l : List Kept). AreFetchEvents specs l events outcomes) (sym then.replies)
              (shape then.more then.taken then.done);
          repo_after = then.repo_after;
          server_after = then.server_after;
          requests = then.requests ∙ ap (λ (l : List Kept). map (λ (one : Kept). one.asked) l) (sym then.replies);
          further = further;
          wrote = wrote ∙ ap (λ (b : List ℕ). b ++ further) (requests_went turns between late told has);
          more = has.left;
          read = inr (replies_came turns between late told has
              ∙ ap (λ (l : List Kept). canonical_all (advert_packets format)
              ++ flat_map (λ (one : Kept). reply_bytes one.reply) l ++ has.left) (sym then.replies));
        }

    -- a run of no events
    no_run : new ≡ repo → IsSomeRun tools server repo specs asked answered new
    no_run same = record {
      events = [];
      told = [];
      last = new_world server repo;
      run = refl;
      promises = λ can. refl;
      of_fetch = none;
      repo_after = sym same;
      server_after = refl;
      requests = refl;
      further = asked;
      wrote = refl;
      more = [];
      read = inl refl;
    }

    -- ---- the bytes that a client wrote before it failed

    has_asked : (f : Format) (turns : List Turn) (output : Output) (to : Input) → Carries output to asked
        → HasAsked f output turns → asked ≡ requests_bytes f turns ++ []
    has_asked f [] output to sends unwritten =
        carried sends [] (appends_none output.written.old output.written.new unwritten.written)
    has_asked f (turn ∷ turns) output to sends passes =
        carried sends (requests_bytes f (turn ∷ turns)) passes.written
        ∙ sym (append-nil (requests_bytes f (turn ∷ turns)))

    -- a part of the next message
    has_sent_part : (f : Format) (turns : List Turn) (due : List ℕ) (output : Output) (to : Input)
        → Carries output to asked → FailsToAsk f output turns due
        → (part : List ℕ) × (asked ≡ requests_bytes f turns ++ part)
    has_sent_part f [] due output to sends fails = (fails.0.front, carried sends fails.0.front fails.0.written)
    has_sent_part f (turn ∷ turns) due output to sends fails =
        (fails.front, carried sends (requests_bytes f (turn ∷ turns) ++ fails.front) fails.written)

    module _ (ends : AreEndsConnected (new_world server repo)) (valid_sources : AreSources specs.items)
        (refs : IsRefs new.refs) (input : Input) (output back : Output) (to : Input) (sends : Carries output to asked)
        (receives : Carries back input answered)
        (either : HasServed tools server asked answered ⊎ HasRefused answered) where
      -- a fetch that stopped after its turns
      stopped : (talk : List Turn) (last : ClientState A) (Rest : Input → Type 0) (further : List ℕ)
          → Converses tools.indexes tools.index_fails start input talk last Rest
          → asked ≡ requests_bytes repo.graph.format talk ++ further → new ≡ last.repo
          → IsSomeRun tools server repo specs asked answered new
      stopped talk last Rest further conversed wrote same =
          some_run talk conversed.between [] [] further ends (λ kept taken done. rounds taken done) wrote
          (runs input back talk last Rest further [] [] ends valid_sources receives either conversed wrote
          (stops tools server laws.rounds ends.server specs.items valid_sources last new same))

      failed : (fault : FetchFault A) → Fails tools.indexes tools.index_fails start input output new fault
          → IsSomeRun tools server repo specs asked answered new
      failed fault (cannot_begin cause begins unread unwritten same) = no_run same
      failed fault (no_buffer few unread unwritten same) = no_run same
      failed fault (cannot_hear cause few refuses unwritten same) = no_run same
      failed fault (cannot_ask talk last after conversed asks wrote same) =
          stopped talk last (λ (rest : Input). IsLeft rest) [] conversed
          (has_asked repo.graph.format talk output to sends wrote) same
      failed fault (cannot_send talk last request conversed due wrote same) =
          let part = has_sent_part repo.graph.format talk (request_bytes repo.graph.format request) output to sends
          wrote in
          stopped talk last (λ (rest : Input). IsLeft rest) part.0 conversed part.1 same
      failed fault (cannot_take talk last request waiting cause asks conversed passes same) =
          stopped talk last (λ (rest : Input). Refuses tools.indexes tools.index_fails waiting request last.repo rest cause)
          (request_bytes repo.graph.format request) conversed
          (carried sends (requests_bytes repo.graph.format talk ++ request_bytes repo.graph.format request)
          passes.written) same
      failed fault (cannot_settle talk last cause conversed stage passes asks) =
          let f = repo.graph.format in
          let wrote = carried sends (requests_bytes f talk ++ request_bytes f Empty) passes.written in
          some_run talk conversed.between (event.Settle ∷ []) (outcomes.Fault (code_of (client.Repo cause)) ∷ [])
          (request_bytes f Empty) ends (λ kept taken done. settled taken _ done) wrote
          (runs input back talk last (λ (rest : Input). IsLeft rest) (request_bytes f Empty) (event.Settle ∷ [])
          (outcomes.Fault (code_of (client.Repo cause)) ∷ []) ends valid_sources receives either conversed wrote
          (settles_none tools server laws.rounds ends.server specs.items valid_sources last new cause stage asks refs))

      -- the run of a fetch that succeeded
      succeeds : (fetched : Fetched A)
          → (h : HasFetched tools.indexes tools.index_fails start input output new fetched)
          → HasRun h.talk h.converses.between (event.Settle ∷ [])
          (settled_outcome fetched.settled.updates.items ∷ [])
      succeeds fetched h =
          let f = repo.graph.format in
          let updates = fetched.settled.updates.items in
          runs input back h.talk h.last (λ (rest : Input). IsLeft rest) (request_bytes f Empty) (event.Settle ∷ [])
          (settled_outcome updates ∷ []) ends valid_sources receives either h.converses
          (carried sends (requests_bytes f h.talk ++ request_bytes f Empty) h.passed.written)
          (settles tools server laws.rounds ends.server specs.items valid_sources h.last new updates h.settles_next
          h.settles refs)

      any : (result : Result (Fetched A) (FetchFault A))
          → FetchesOver tools.indexes tools.index_fails start input output new result → IsSomeRun tools server repo specs asked answered new
      any (Err fault) fails = failed fault fails
      any (Ok fetched) h =
          let f = repo.graph.format in
          some_run h.talk h.converses.between (event.Settle ∷ []) (settled_outcome fetched.settled.updates.items ∷ [])
          (request_bytes f Empty) ends (λ kept taken done. settled taken _ done)
          (carried sends (requests_bytes f h.talk ++ request_bytes f Empty) h.passed.written) (succeeds fetched h)

  pub fetches_are_runs : FetchesAreRuns tools
  fetches_are_runs server repo new specs fetched input asked answered joined =
      let h = joined.fetches in
      let f = repo.graph.format in
      let served = serves laws server joined.heard joined.said joined.output input asked answered joined.asks
      joined.answers joined.count joined.ended joined.serves in
      whole_run server repo new specs asked answered fetched h.talk h.converses.between input.read.new joined.ends
      (carried joined.asks (requests_bytes f h.talk ++ request_bytes f Empty) h.passed.written) h.converses.rest.unread
      (succeeds server repo new specs asked answered joined.ends (sources specs.items joined.specs_are) joined.refs input
      joined.output joined.said joined.heard joined.asks joined.answers served fetched h)

  pub any_fetch_is_a_run : AnyFetchIsARun tools
  any_fetch_is_a_run server repo new specs result input asked answered joined =
      any server repo new specs asked answered joined.ends (sources specs.items joined.specs_are) joined.refs input
      joined.output joined.said joined.heard joined.asks joined.answers
      (serves laws server joined.heard joined.said joined.output input asked answered joined.asks joined.answers
      joined.count joined.ended joined.serves) result joined.fetches
