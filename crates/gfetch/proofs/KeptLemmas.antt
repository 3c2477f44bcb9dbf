-- The properties that the turns of a conversation keep: the refs, the graph, and the ids that were offered.
use Rattle.std.proofs.Common.{◌≡◌, ℕ, All, List, [], ◌∷◌, Result, Ok, Err, IfOk, OnErr, refl, sym, ap, subst, ◌∙◌, append-nil}
use Rattle.std.proofs.lemmas.List.Elements.{All-nil}
use Rattle.gpkt.specs.Packets.{Packet}
use Rattle.gpkt.specs.Sending.{Input, Output}
use Rattle.gfetchreply.specs.FetchReplies.{FetchReply}
use Rattle.gobject.specs.Packs.{Indexes, IndexFails}
use Rattle.gobject.specs.declared.node.Entry.{Entry}
use Rattle.gdag.specs.Graphs.{History, Holds}
use Rattle.gdag.specs.Laws.{DistinctAreOnce}
use Rattle.gdag.specs.Reach.{Grows, IsConnected, SomeReaches}
use Rattle.gdag.proofs.Growing.{grows_none, grows_on, inserts_grows}
use Rattle.grefs.specs.RefLists.{RefList}
use Rattle.gclientrepo.proofs.Refusals.{refusals_change_nothing}
use Rattle.gclientrepo.specs.Repos.{RepoState, IsConnectedRepo}
use Rattle.gclientrepo.specs.Settling.{Settles}
use Rattle.gclientrepo.specs.declared.ask.Ask.{Ask}
use Rattle.grequest.specs.Asked.{Asked, Empty, Ls, Fetches}
use Rattle.gsession.specs.Bounds.{BeganOn, BeganStays}
use Rattle.gsession.specs.Requesting.{Requests, waiting_for}
use Rattle.gsession.specs.Sessions.{SessionState, tips_of}
use Rattle.gsession.specs.TakingReplies.{TakesHead}
use Rattle.gsession.specs.declared.taken.Taken.{Taken}
use Rattle.gsession.specs.declared.taken.Taken.TheVariants.{Round, PackTaken}
use Rattle.gsession.proofs.NextLaws.{tips_are_connected}
use Rattle.gfetch.specs.Conversations.{Converses, Fails, FetchesOver, HasFetched, cannot_ask, cannot_begin, cannot_hear, cannot_send, cannot_settle, cannot_take, no_buffer}
use Rattle.gfetch.specs.Starts.{Start, hear_advert}
use Rattle.gfetch.specs.Turns.{AreTurns, ClientState, IsTurn, Takes, Turn}
use Rattle.gfetch.specs.declared.fault.FetchFault.{FetchFault}
use Rattle.gfetch.specs.declared.fetched.Fetched.{Fetched}

-- turns keep the refs, the object formats and the tips, and the graph only gains objects
pub record IsKept {A : Type 0} (old new : ClientState A) : Type 0 where
  pub refs : new.repo.refs ≡ old.repo.refs
  pub format : new.repo.graph.format ≡ old.repo.graph.format
  pub grows : Grows old.repo.graph.entries new.repo.graph.entries
  pub own : new.session.format ≡ old.session.format
  pub tips : new.session.tips ≡ old.session.tips

module _ {A : Type 0} where
  -- a request changes neither the object format nor the tips
  record IsAsker (old waiting : SessionState A) : Type 0 where
    format : waiting.format ≡ old.format
    tips : waiting.tips ≡ old.tips

  waiting_asker : (old : SessionState A) (asked : Asked) (batch : List (List ℕ))
      → IsAsker old (waiting_for old asked batch)
  waiting_asker old Empty batch = record { format = refl; tips = refl }
  waiting_asker old (Ls asked) batch = record { format = refl; tips = refl }
  waiting_asker old (Fetches asked) batch = record { format = refl; tips = refl }

  asker : (g : List (Entry A)) (old waiting : SessionState A) (asked : Asked) → Requests old g waiting (Ok asked)
      → IsAsker old waiting
  asker g old waiting asked made = subst (IsAsker old) (sym made.1.2) (waiting_asker old asked made.1.0)

  pub kept_still : (client : ClientState A) → IsKept client client
  kept_still client = record {
    refs = refl;
    format = refl;
    grows = grows_none client.repo.graph.entries client.repo.graph.entries refl;
    own = refl;
    tips = refl;
  }

  kept_on : (a b c : ClientState A) → IsKept a b → IsKept b c → IsKept a c
  kept_on a b c first next = record {
    refs = next.refs ∙ first.refs;
    format = next.format ∙ first.format;
    grows = grows_on a.repo.graph.entries b.repo.graph.entries c.repo.graph.entries first.grows next.grows;
    own = next.own ∙ first.own;
    tips = next.tips ∙ first.tips;
  }

module _ {A : Type 0} (indexes : Indexes A) (index_fails : IndexFails) where
  head_kept : (old : ClientState A) (waiting : SessionState A) (reply : FetchReply) (new : ClientState A)
      (taken : Taken)
      → IsAsker old.session waiting → TakesHead indexes index_fails waiting old.repo reply new.session new.repo taken
      → IsKept old new
  head_kept old waiting reply new (Round common) same takes = record {
    refs = ap (λ (r : RepoState A). r.refs) takes.3;
    format = ap (λ (r : RepoState A). r.graph.format) takes.3;
    grows = grows_none old.repo.graph.entries new.repo.graph.entries
        (ap (λ (r : RepoState A). r.graph.entries) takes.3);
    own = ap (λ (s : SessionState A). s.format) takes.1 ∙ same.format;
    tips = ap (λ (s : SessionState A). s.tips) takes.1 ∙ same.tips;
  }
  head_kept old waiting reply new (PackTaken added) same (pack, after, (entries, indexed, inserts)) = record {
    refs = inserts.refs;
    format = inserts.adds.0;
    grows = inserts_grows old.repo.graph.format old.repo.graph.entries entries new.repo.graph.entries inserts.adds.1;
    own = ap (λ (s : SessionState A). s.format) after ∙ same.format;
    tips = ap (λ (s : SessionState A). s.tips) after ∙ same.tips;
  }

  takes_kept : (old : ClientState A) (waiting : SessionState A) (asked : Asked) (reply : List Packet)
      (new : ClientState A)
      → IsAsker old.session waiting → Takes indexes index_fails waiting asked old reply new → IsKept old new
  takes_kept old waiting Empty reply new same takes = absurd takes
  takes_kept old waiting (Ls asked) reply new same takes = record {
    refs = ap (λ (r : RepoState A). r.refs) takes.stays;
    format = ap (λ (r : RepoState A). r.graph.format) takes.stays;
    grows = grows_none old.repo.graph.entries new.repo.graph.entries
        (ap (λ (r : RepoState A). r.graph.entries) takes.stays);
    own = ap (λ (s : SessionState A). s.format) takes.takes.after ∙ same.format;
    tips = ap (λ (s : SessionState A). s.tips) takes.takes.after ∙ same.tips;
  }
  takes_kept old waiting (Fetches asked) reply new same takes =
      head_kept old waiting takes.reply new takes.taken same takes.takes.1

  pub turn_kept : (old : ClientState A) (turn : Turn) (new : ClientState A) → IsTurn indexes index_fails old turn new
      → IsKept old new
  turn_kept old turn new is =
      takes_kept old is.waiting turn.asked turn.reply new
      (asker old.repo.graph.entries old.session is.waiting turn.asked is.asks) is.takes

  pub turns_kept : (first : ClientState A) (talk : List Turn) (last : ClientState A)
      → AreTurns indexes index_fails first talk last → IsKept first last
  turns_kept first [] last is = subst (IsKept first) (sym is) (kept_still first)
  turns_kept first (turn ∷ talk) last (next, is, rest) =
      kept_on first next last (turn_kept first turn next is) (turns_kept next talk last rest)

module _ {A : Type 0} (indexes : Indexes A) (index_fails : IndexFails) where
  -- ---- the graph with which a session began

  head_began : (g : List (Entry A)) (repo : RepoState A) (waiting : SessionState A) (reply : FetchReply)
      (new : ClientState A) (taken : Taken)
      → BeganOn g waiting → TakesHead indexes index_fails waiting repo reply new.session new.repo taken
      → BeganOn g new.session
  head_began g repo waiting reply new (Round common) began takes =
      subst (BeganOn g) (sym takes.1) (record { connected = began.connected; sent = began.sent })
  head_began g repo waiting reply new (PackTaken added) began takes =
      subst (BeganOn g) (sym takes.1) (record { connected = began.connected; sent = began.sent })

  taken_began : (g : List (Entry A)) (old : ClientState A) (waiting : SessionState A) (asked : Asked)
      (reply : List Packet) (new : ClientState A)
      → BeganOn g waiting → Takes indexes index_fails waiting asked old reply new → BeganOn g new.session
  taken_began g old waiting Empty reply new began takes = absurd takes
  taken_began g old waiting (Ls asked) reply new began takes =
      subst (BeganOn g) (sym takes.takes.after) (record { connected = began.connected; sent = began.sent })
  taken_began g old waiting (Fetches asked) reply new began takes =
      head_began g old.repo waiting takes.reply new takes.taken began takes.takes.1

  pub turn_began : BeganStays A → (g : List (Entry A)) (old : ClientState A) (turn : Turn) (new : ClientState A)
      → Grows g old.repo.graph.entries → BeganOn g old.session → IsTurn indexes index_fails old turn new
      → BeganOn g new.session
  turn_began stays g old turn new grows began is =
      taken_began g old is.waiting turn.asked turn.reply new
      (stays g old.repo.graph.entries old.session is.waiting turn.asked grows began is.asks.1) is.takes

  -- the turns of a conversation preserve `BeganOn`
  pub turns_began : BeganStays A → (g : List (Entry A)) (first : ClientState A) (talk : List Turn) (last : ClientState A) → Grows g first.repo.graph.entries
      → BeganOn g first.session → AreTurns indexes index_fails first talk last → BeganOn g last.session
  turns_began stays g first [] last grows began is = subst (λ (c : ClientState A). BeganOn g c.session) (sym is) began
  turns_began stays g first (turn ∷ talk) last grows began (next, is, rest) =
      turns_began stays g next talk last (grows_on g first.repo.graph.entries next.repo.graph.entries grows (turn_kept indexes index_fails first turn next is).grows)
      (turn_began stays g first turn next grows began is) rest

-- a new session satisfies `BeganOn` with the graph of its repository
pub begins_on : {A : Type 0} → DistinctAreOnce → (repo : RepoState A) (s : SessionState A) → IsConnectedRepo repo
    → s.tips ≡ tips_of repo → s.sent ≡ []
    → BeganOn repo.graph.entries s
begins_on once repo s whole tips sent = record {
  connected = subst (All (IsConnected repo.graph.entries)) (sym tips) (tips_are_connected once repo whole);
  sent = subst (All (λ a. Holds repo.graph.entries a × SomeReaches repo.graph.entries s.tips a)) (sym sent)
      (All-nil (λ a. Holds repo.graph.entries a × SomeReaches repo.graph.entries s.tips a));
}

-- ---- the refs and the objects that a conversation keeps

-- the refs are unchanged, and the graph only gained objects
pub record IsKeptRepo {A : Type 0} (old new : RepoState A) : Type 0 where
  pub refs : new.refs ≡ old.refs
  pub grows : Grows old.graph.entries new.graph.entries

module _ {A : Type 0} where
  kept_is : (old mid new : RepoState A) → IsKeptRepo old mid → new ≡ mid → IsKeptRepo old new
  kept_is old mid new kept is = subst (IsKeptRepo old) (sym is) kept

  same_is_kept : (old new : RepoState A) → new ≡ old → IsKeptRepo old new
  same_is_kept old new is =
      kept_is old old new (record { refs = refl; grows = ([], sym (append-nil old.graph.entries)) }) is

module _ {A : Type 0} (indexes : Indexes A) (index_fails : IndexFails) (start : Start A) where
  kept_so_far : (input : Input) (talk : List Turn) (now : ClientState A) (Rest : Input → Type 0)
      → Converses indexes index_fails start input talk now Rest → IsKeptRepo start.repo now.repo
  kept_so_far input talk now Rest converses =
      let kept = turns_kept indexes index_fails (hear_advert start converses.capabilities) talk now converses.each in
      record { refs = kept.refs; grows = kept.grows }

  fails_keep : (input : Input) (output : Output) (new : RepoState A) (cause : FetchFault A)
      → Fails indexes index_fails start input output new cause → IsKeptRepo start.repo new
  fails_keep input output new cause (cannot_begin why begins unread unwritten still) = same_is_kept start.repo new still
  fails_keep input output new cause (no_buffer few unread unwritten still) = same_is_kept start.repo new still
  fails_keep input output new cause (cannot_hear why few refuses unwritten still) = same_is_kept start.repo new still
  fails_keep input output new cause (cannot_ask talk last after converses made so_far still) =
      kept_is start.repo last.repo new (kept_so_far input talk last _ converses) still
  fails_keep input output new cause (cannot_send talk last asked converses due failed still) =
      kept_is start.repo last.repo new (kept_so_far input talk last _ converses) still
  fails_keep input output new cause (cannot_take talk last asked waiting why made converses passed still) =
      kept_is start.repo last.repo new (kept_so_far input talk last _ converses) still
  fails_keep input output new cause (cannot_settle talk last why converses next passed settles) =
      kept_is start.repo last.repo new (kept_so_far input talk last _ converses)
      (refusals_change_nothing.settling last.repo new last.session.asks why settles)

  fetches_grow : (input : Input) (output : Output) (new : RepoState A) (fetched : Fetched A)
      → HasFetched indexes index_fails start input output new fetched → Grows start.repo.graph.entries new.graph.entries
  fetches_grow input output new fetched fetches =
      subst (λ (h : History A). Grows start.repo.graph.entries h.entries) (sym fetches.settles.0.graph)
      (kept_so_far input fetches.talk fetches.last _ fetches.converses).grows

  fetches_settle : (input : Input) (output : Output) (new : RepoState A) (fetched : Fetched A)
      → HasFetched indexes index_fails start input output new fetched
      → Settles new.graph.entries start.repo.refs fetched.settled.asks fetched.settled.updates.items new.refs
  fetches_settle input output new fetched fetches =
      let last = fetches.last.repo in
      let kept = kept_so_far input fetches.talk fetches.last _ fetches.converses in
      let updates = fetched.settled.updates.items in
      let settled : Settles last.graph.entries last.refs fetched.settled.asks updates new.refs =
      subst (λ (asks : List (Ask A)). Settles last.graph.entries last.refs asks updates new.refs)
      (sym fetches.asks) fetches.settles.1 in
      subst (λ (h : History A). Settles h.entries start.repo.refs fetched.settled.asks updates new.refs)
      (sym fetches.settles.0.graph)
      (subst (λ (l : RefList). Settles last.graph.entries l fetched.settled.asks updates new.refs) kept.refs settled)

  -- the effects of a conversation on refs and objects, for each result

  pub over_settles : (input : Input) (output : Output) (new : RepoState A) (result : Result (Fetched A) (FetchFault A))
      → FetchesOver indexes index_fails start input output new result
      → IfOk result (λ fetched. Settles new.graph.entries start.repo.refs fetched.settled.asks
      fetched.settled.updates.items new.refs)
  over_settles input output new (Ok fetched) h = fetches_settle input output new fetched h
  over_settles input output new (Err cause) h = tt

  pub over_keeps_refs : (input : Input) (output : Output) (new : RepoState A)
      (result : Result (Fetched A) (FetchFault A))
      → FetchesOver indexes index_fails start input output new result → OnErr result (new.refs ≡ start.repo.refs)
  over_keeps_refs input output new (Ok fetched) h = tt
  over_keeps_refs input output new (Err cause) h = (fails_keep input output new cause h).refs

  pub over_grows : (input : Input) (output : Output) (new : RepoState A) (result : Result (Fetched A) (FetchFault A))
      → FetchesOver indexes index_fails start input output new result → Grows start.repo.graph.entries new.graph.entries
  over_grows input output new (Ok fetched) h = fetches_grow input output new fetched h
  over_grows input output new (Err cause) h = (fails_keep input output new cause h).grows
