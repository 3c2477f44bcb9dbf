-- The beginning of a session, and its next request: the batch, the options, and the uniqueness of the request.
use Rattle.std.proofs.Common.{◌≡◌, ◌⊎◌, ◌∙◌, ℕ, ◌+◌, true, false, List, [], ◌∷◌, length, All, Contains, bytes_eq}
use Rattle.std.proofs.Common.{nat_le, if◌then◌else◌, inl, inr, Result, Ok, Err, refl, sym, ap, ap₂, get_or}
use Rattle.std.specs.List.{IsDistinct}
use Rattle.std.specs.Map.{values_of}
use Rattle.std.proofs.lemmas.Bool.{false≢true}
use Rattle.std.proofs.lemmas.List.Elements.{All-append, All-contains, All-head, All-nil}
use Rattle.std.proofs.lemmas.List.Elements.{Contains-append_right, Contains-get_or}
use Rattle.ggrammar.specs.declared.ends.Ends.{Ends}
use Rattle.gobject.specs.declared.node.Entry.{Entry}
use Rattle.gdag.specs.Graphs.{Holds}
use Rattle.gdag.specs.Laws.{DistinctAreOnce, ConnectedStaysConnected, GrowingKeeps, OffersAreExact, ReachingGoesOn}
use Rattle.gdag.specs.Levels.{distinct_of}
use Rattle.gdag.specs.Reach.{IsConnected, SomeReaches}
use Rattle.gdag.proofs.IdLists.{contains_head}
use Rattle.grefs.specs.Refspecs.{Refspec}
use Rattle.gclientrepo.specs.Repos.{RepoState, IsConnectedRepo}
use Rattle.grequest.specs.declared.flag.FetchFlag.TheVariants.{Done}
use Rattle.grequest.specs.Asked.{Asked, Empty, Ls, Fetches, FetchAsked, fetch_has, max_haves}
use Rattle.gsession.specs.Bounds.{BeganBegins, BeganStays, OffersAreNew}
use Rattle.gsession.specs.Laws.{HavesAreConnected, HavesAreNew, OneNext, OptionsAreAsked}
use Rattle.gsession.specs.Requesting.{IsBatch, IsNext, batch_of, batch_size, fetch_request, waiting_for}
use Rattle.gsession.specs.Sessions.{SessionState, Begins, BeginsWith, no_options}
use Rattle.gsession.specs.declared.fault.ClientFault.{ClientFault}
use Rattle.gsession.proofs.CommonLemmas.{all_distinct}

module _ {A : Type 0} where
  -- ---- a batch

  -- if each id that the session may offer satisfies `P`, each id of the batch satisfies `P`
  batch_has : OffersAreExact A → (P : List ℕ → Type 0) (g : List (Entry A)) (s : SessionState A)
      (batch : List (List ℕ)) → IsBatch s g batch
      → ((a : List ℕ) → ¬ (Contains s.sent a) → SomeReaches g s.tips a → P a) → All P batch
  batch_has exact P g s batch is each =
      let all : All P is.offer = λ k d low.
      let of = (exact g s.tips s.commons s.sent (batch_size s.options.max_batch s.rounds)).each is.offer (get_or is.offer k d) is.offered
      (Contains-get_or is.offer k d low) in
      each (get_or is.offer k d) of.0.unsent of.1 in
      rw is.is (elim (nat_le (length s.commons + length is.offer) (max_haves s.options.limits))
      as (λ b. All P (if b then is.offer else [])) [ true ↦ all | false ↦ All-nil P ])

  pub batch_unsent : OffersAreExact A → (g : List (Entry A)) (s : SessionState A) (batch : List (List ℕ))
      → IsBatch s g batch → All (λ a. ¬ (Contains s.sent a)) batch
  batch_unsent exact g s batch is =
      batch_has exact (λ a. ¬ (Contains s.sent a)) g s batch is (λ a unsent reached. unsent)

  pub batch_once : OffersAreExact A → (g : List (Entry A)) (s : SessionState A) (batch : List (List ℕ))
      → IsBatch s g batch → IsDistinct bytes_eq batch
  unfolding IsDistinct
  batch_once exact g s batch is =
      rw is.is (elim (nat_le (length s.commons + length is.offer) (max_haves s.options.limits))
      as (λ b. IsDistinct bytes_eq (if b then is.offer else [])) [
        | true ↦ (exact g s.tips s.commons s.sent (batch_size s.options.max_batch s.rounds)).once is.offer is.offered
        | false ↦ tt
      ])

  -- ---- a new id in each request

  new_id : (s : SessionState A) (asked : FetchAsked) (batch : List (List ℕ))
      → asked ≡ fetch_request s.options s.wants s.commons batch → All (λ a. ¬ (Contains s.sent a)) batch
      → fetch_has asked Done ≡ false
      → ((a : List ℕ) × Contains asked.haves a × ¬ (Contains s.sent a))
  new_id s asked [] is fresh goes_on =
      absurd (false≢true (sym goes_on ∙ ap (λ (r : FetchAsked). fetch_has r Done) is))
  new_id s asked (b ∷ rest) is fresh goes_on = (
    b,
    rw is (Contains-append_right s.commons (b ∷ rest) b (contains_head b rest)),
    All-head (λ a. ¬ (Contains s.sent a)) b rest fresh,
  )

  pub offers_are_new : OffersAreExact A → OffersAreNew A
  offers_are_new exact g old new asked made goes_on =
      new_id old asked made.0 made.1.1 (batch_unsent exact g old made.0 made.1.2) goes_on

  pub haves_are_connected : OffersAreExact A → ReachingGoesOn A → HavesAreConnected A
  haves_are_connected exact goes_on g old new asked tips commons made =
      rw made.1.1 (All-append (IsConnected g) old.commons made.0 commons
      (batch_has exact (IsConnected g) g old made.0 made.1.2 (λ a unsent reached b path.
      All-contains (IsConnected g) old.tips reached.0 tips reached.1 b (goes_on g reached.0 a b reached.2 path))))

  pub haves_are_new : OffersAreExact A → HavesAreNew A
  haves_are_new exact g old new asked made =
      rw made.1.1 (All-append (λ a. Contains old.commons a ⊎ ¬ (Contains old.sent a)) old.commons made.0
      (λ k d low. inl (Contains-get_or old.commons k d low))
      (λ k d low. inr (batch_unsent exact g old made.0 made.1.2 k d low)))

  -- ---- the options

  -- beginning a session with the default options is beginning a session without options
  pub begins_plain : (r : RepoState A) (refspecs : List Refspec) (limit : ℕ) (ends : Ends)
      (result : Result (SessionState A) (ClientFault A)) → BeginsWith r refspecs limit ends no_options result
      → Begins r refspecs limit ends result
  begins_plain r refspecs limit ends (Ok session) begins = begins
  begins_plain r refspecs limit ends (Err fault) begins = begins

  pub options_are_asked : OptionsAreAsked A
  options_are_asked g old new asked made = rw made.1.1 (record { ofs_delta = refl; progress = refl })

  -- ---- the uniqueness of the next request

  one_request : OffersAreExact A → (s : SessionState A) (g : List (Entry A)) (asked also : Asked)
      (batch other : List (List ℕ)) → IsNext s g asked batch → IsNext s g also other
      → (asked ≡ also) × (batch ≡ other)
  one_request exact s g Empty also batch other is too = absurd is
  one_request exact s g asked Empty batch other is too = absurd too
  one_request exact s g (Ls asked) (Ls also) batch other is too = (ap Ls (is.1 ∙ sym too.1), is.2 ∙ sym too.2)
  one_request exact s g (Ls asked) (Fetches also) batch other is too = cc
  one_request exact s g (Fetches asked) (Ls also) batch other is too = cc
  one_request exact s g (Fetches asked) (Fetches also) batch other is too =
      let offers = exact g s.tips s.commons s.sent (batch_size s.options.max_batch s.rounds) in
      let offer = offers.one is.2.offer too.2.offer is.2.offered too.2.offered in
      let same : batch ≡ other = is.2.is ∙ ap (batch_of s.options.limits s.commons) offer ∙ sym too.2.is in
      (ap Fetches (is.1 ∙ ap (fetch_request s.options s.wants s.commons) same ∙ sym too.1), same)

  pub one_next : OffersAreExact A → OneNext A
  one_next exact g old new other asked also made too =
      let same = one_request exact old g asked also made.0 too.0 made.1 too.1 in
      (same.0, made.2 ∙ ap₂ (waiting_for old) same.0 same.1 ∙ sym too.2)

  -- ---- the graph with which a session began

  -- each tip is connected, if the repository is connected
  pub tips_are_connected : DistinctAreOnce → (r : RepoState A) → IsConnectedRepo r
      → All (IsConnected r.graph.entries) (distinct_of (values_of r.refs))
  tips_are_connected once r whole = all_distinct once (IsConnected r.graph.entries) (values_of r.refs) whole.connected_refs

  pub began_begins : DistinctAreOnce → BeganBegins A
  began_begins once r refspecs limit ends session whole begins = rw begins.1 (record {
    connected = tips_are_connected once r whole;
    sent = All-nil (λ a. Holds r.graph.entries a × SomeReaches r.graph.entries (distinct_of (values_of r.refs)) a);
  })

  pub began_stays : OffersAreExact A → GrowingKeeps A → ConnectedStaysConnected A → BeganStays A
  began_stays exact keeps connected g h old new Empty grows began made = absurd made.1
  began_stays exact keeps connected g h old new (Ls asked) grows began made =
      rw made.2 (record { connected = began.connected; sent = began.sent })
  began_stays exact keeps connected g h old new (Fetches asked) grows began made =
      let P : List ℕ → Type 0 = λ a. Holds g a × SomeReaches g old.tips a in
      rw made.2 (record {
        connected = began.connected;
        sent = All-append P old.sent made.0 began.sent (batch_has exact P h old made.0 made.1.2 (λ a unsent reached.
            let is_connected = All-contains (IsConnected g) old.tips reached.0 began.connected reached.1 in
            let back = (connected g h reached.0 (keeps g h grows) is_connected).1 a reached.2 in
            (is_connected a back, (reached.0, reached.1, back))));
      })
