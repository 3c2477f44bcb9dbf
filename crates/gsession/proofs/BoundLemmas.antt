-- The number of a session's requests for objects: the graph with which the session began, the offered ids, the last
-- request, and the count of requests.
use Rattle.std.proofs.Common.{◌≡◌, ◌⊎◌, ℕ, ◌+◌, ◌≤◌, ◌==◌, true, List, [], ◌∷◌, ◌++◌, length, All, Contains}
use Rattle.std.proofs.Common.{bytes_eq, Some, None, Ok, Err, inl, inr, refl, sym, ap, ap₂, ◌∙◌, arith, length-append}
use Rattle.std.specs.List.{IsDistinct}
use Rattle.std.proofs.lemmas.List.Elements.{All-append, All-contains, All-nil, Contains-append_cases}
use Rattle.std.proofs.lemmas.List.Elements.{Contains-append_left, Contains-append_right, Contains-get_or}
use Rattle.std.proofs.lemmas.Option.{none-some}
use Rattle.gfetchreply.specs.FetchReplies.{FetchReply}
use Rattle.gfetchreply.specs.FetchHeads.{acknowledged_by}
use Rattle.gobject.specs.declared.node.Entry.{Entry}
use Rattle.gobject.specs.Packs.{Indexes, IndexFails}
use Rattle.gdag.specs.declared.fault.GraphFault.TheVariants as graph
use Rattle.gdag.specs.Laws.{DistinctAreOnce, OffersAreExact, ReachedAreCounted}
use Rattle.gdag.specs.Levels.{distinct_of}
use Rattle.gclientrepo.specs.Repos.{RepoState}
use Rattle.gclientrepo.specs.declared.fault.RepoFault.TheVariants as repo
use Rattle.grequest.specs.declared.flag.FetchFlag.TheVariants.{Done}
use Rattle.grequest.specs.Asked.{Asked, Empty, Ls, Fetches, FetchAsked, LsRefsAsked, fetch_has}
use Rattle.gsession.specs.Bounds.{AreOffered, BeganStays, BeganStaysOn, BeginsCounted, BeginsOffered}
use Rattle.gsession.specs.Bounds.{CountedAreFew, CountedStays, DoneAsksLast, HasAskedLast, IsCounted, IsPast, LastStays}
use Rattle.gsession.specs.Bounds.{NoneFollows, OfferedStays, RoundsAreFew}
use Rattle.gsession.specs.Calls.{Does, does_nothing, does_end, does_hear, does_ask, does_list, does_take, does_settle}
use Rattle.gsession.specs.Calls.{IsOpenHave}
use Rattle.gsession.specs.Laws.{CommonsAreHaves, RepliesAddCommons}
use Rattle.gsession.specs.Requesting.{IsNext, MakesNext, is_due, waiting_for}
use Rattle.gsession.specs.Sessions.{SessionState, over}
use Rattle.gsession.specs.TakingRefs.{with_refs}
use Rattle.gsession.specs.TakingReplies.{Awaits, TakesHead, after_acks}
use Rattle.gsession.specs.declared.fault.ClientFault.TheVariants.{NoOpenRequest, Repo}
use Rattle.gsession.specs.declared.stage.Stage.{Stage}
use Rattle.gsession.specs.declared.stage.Stage.TheVariants.{Listing, Fetching, Settling, Over}
use Rattle.gsession.specs.declared.taken.Taken.{Taken}
use Rattle.gsession.specs.declared.taken.Taken.TheVariants.{Round, PackTaken}
use Rattle.gsession.proofs.CallLemmas.{does, due_idle, kept}
use Rattle.gsession.proofs.CommonLemmas.{all_distinct, all_of_members, joined_once}
use Rattle.gsession.proofs.NextLaws.{batch_once, batch_unsent}

-- ---- requests, stages and empty lists

same_fetch : (one other : FetchAsked) → Some (Fetches one) ≡ Some (Fetches other) → one ≡ other
same_fetch one other same = cc

past_due : (stage : Stage) → (stage ≡ Settling) ⊎ (stage ≡ Over) → (stage ≡ Listing) ⊎ (stage ≡ Fetching) → ⊥
past_due stage (inl settling) (inl listing) = cc
past_due stage (inl settling) (inr fetching) = cc
past_due stage (inr ended) (inl listing) = cc
past_due stage (inr ended) (inr fetching) = cc

none_once : IsDistinct bytes_eq []
unfolding IsDistinct
none_once = tt

module _ {A : Type 0} where
  -- ---- the graph with which a session began

  pub began_stays_on : BeganStays A → (indexes : Indexes A) (index_fails : IndexFails)
      → BeganStaysOn indexes index_fails
  began_stays_on still indexes index_fails g r old new grows began called =
      elim (kept r.graph.entries old new (does indexes index_fails r old new called)) [
        | inl k ↦ record { connected = rw k.tips began.connected; sent = rw (k.tips, k.sent) began.sent }
        | inr (asked, none, made) ↦ still g r.graph.entries old new (Fetches asked) grows began made
      ]

  -- ---- the last request

  last_listing : (s : SessionState A) (asked : LsRefsAsked) → HasAskedLast s → s.pending ≡ Some (Ls asked) → ⊥
  last_listing s asked (inl (also, awaits, done)) waits = cc
  last_listing s asked (inr past) waits = cc

  past_next : (g : List (Entry A)) (s : SessionState A) (asked : Asked) (batch : List (List ℕ)) → IsPast s
      → IsNext s g asked batch → ⊥
  past_next g s Empty batch past next = next
  past_next g s (Ls asked) batch past next = past_due s.stage past.1 (inl next.0)
  past_next g s (Fetches asked) batch past next = past_due s.stage past.1 (inr next.0)

  last_next : (g : List (Entry A)) (old new : SessionState A) (asked : Asked) → HasAskedLast old → old.pending ≡ None
      → MakesNext old g new asked → ⊥
  last_next g old new asked (inl (also, waits, done)) none made = cc
  last_next g old new asked (inr past) none made = past_next g old asked made.0 past made.1

  last_due : (s : SessionState A) → HasAskedLast s → is_due s.stage s.pending ≡ true → ⊥
  last_due s (inl (asked, waits, done)) due =
      none-some (Fetches asked) (sym (due_idle s.stage s.pending due).0 ∙ waits)
  last_due s (inr past) due = past_due s.stage past.1 (due_idle s.stage s.pending due).1

  settles_last : (s : SessionState A) (asked : FetchAsked) (stage : Stage) → HasAskedLast s → Awaits s asked
      → (fetch_has asked Done ≡ true → stage ≡ Settling) → stage ≡ Settling
  settles_last s asked stage (inl (also, awaits, done)) waits settles =
      settles (rw (same_fetch also asked (sym awaits ∙ waits)) at done)
  settles_last s asked stage (inr past) waits settles = cc

  last_does : (g : List (Entry A)) (old new : SessionState A) → HasAskedLast old → Does g old new → HasAskedLast new
  last_does g old new last (does_nothing is) = rw is last
  last_does g old new last (does_end is) = rw is (inr (refl, inr refl))
  last_does g old new last (does_hear offers begun is) =
      absurd (last_due old last (ap₂ is_due begun.0 begun.1))
  last_does g old new last (does_ask asked none made) = absurd (last_next g old new asked last none made)
  last_does g old new last (does_list asked reply wants waits is) = absurd (last_listing old asked last waits)
  last_does g old new last (does_take asked stage acks waits named settles is) =
      rw is (inr (refl, inl (settles_last old asked stage last waits settles)))
  last_does g old new last (does_settle stage is) = rw is (inr (refl, inr refl))

  pub done_asks_last : DoneAsksLast A
  done_asks_last g old new asked made done = inl (asked, ap (λ (s : SessionState A). s.pending) made.2, done)

  pub last_stays : (indexes : Indexes A) (index_fails : IndexFails) → LastStays indexes index_fails
  last_stays indexes index_fails r old new last called =
      last_does r.graph.entries old new last (does indexes index_fails r old new called)

  pub none_follows : NoneFollows A
  none_follows g old new (Ok asked) last is = absurd (last_due old last is.0)
  none_follows g old new (Err NoOpenRequest) last is = record { refused = refl; same = is.1 }
  none_follows g old new (Err (Repo (repo.Graph graph.Memory))) last is = absurd (last_due old last is.0)
  none_follows g old new (Err _) last is = absurd is

  -- ---- the count of requests

  pub begins_counted : BeginsCounted A
  begins_counted r refspecs limit ends session is =
      rw is.1 (record { once = none_once; few = omega arith; due = inr (omega arith) })

  counted_due : (asked : FetchAsked) (old : SessionState A) (batch : List (List ℕ)) → old.rounds ≤ length old.sent
      → (length batch ≡ 0 → fetch_has asked Done ≡ true)
      → HasAskedLast (waiting_for old (Fetches asked) batch) ⊎ (old.rounds + 1 ≤ length (old.sent ++ batch))
  counted_due asked old [] few last = inl (inl (asked, refl, last refl))
  counted_due asked old (a ∷ more) few last = inr (omega (arith, few, length-append old.sent (a ∷ more)))

  one_more : OffersAreExact A → (g : List (Entry A)) (old : SessionState A) (asked : FetchAsked) (batch : List (List ℕ))
      → IsCounted old → old.rounds ≤ length old.sent
      → IsNext old g (Fetches asked) batch → IsCounted (waiting_for old (Fetches asked) batch)
  one_more exact g old asked batch was few next =
      let more : old.rounds + 1 ≤ length (old.sent ++ batch) + 1 = omega (arith, few, length-append old.sent batch) in
      record {
        once = joined_once old.sent batch was.once (batch_once exact g old batch next.2)
            (λ a there.
            All-contains (λ b. ¬ (Contains old.sent b)) batch a (batch_unsent exact g old batch next.2) there);
        few = more;
        due = counted_due asked old batch few
            (λ none. ap (λ (r : FetchAsked). fetch_has r Done) next.1 ∙ ap (λ (n : ℕ). n == 0) none);
      }

  counted_does : OffersAreExact A → (g : List (Entry A)) (old new : SessionState A) → IsCounted old → Does g old new
      → IsCounted new
  counted_does exact g old new was did = elim (kept g old new did) [
    | inl k ↦ record {
      once = rw k.sent was.once;
      few = rw (k.sent, k.rounds) was.few;
      due = elim was.due [
        | inl last ↦ inl (last_does g old new last did)
        | inr few ↦ inr (rw (k.sent, k.rounds) few)
      ];
    }
    | inr (asked, none, made) ↦ elim was.due [
      | inl last ↦ absurd (last_next g old new (Fetches asked) last none made)
      | inr few ↦ rw made.2 (one_more exact g old asked made.0 was few made.1)
    ]
  ]

  pub counted_stays : OffersAreExact A → (indexes : Indexes A) (index_fails : IndexFails)
      → CountedStays indexes index_fails
  counted_stays exact indexes index_fails r old new was called =
      counted_does exact r.graph.entries old new was (does indexes index_fails r old new called)

  pub rounds_are_few : ReachedAreCounted A → RoundsAreFew A
  rounds_are_few counted g s held parents is began counts =
      let few : length s.sent ≤ held = counted g s.tips s.sent held parents counts is.sent began.sent in
      omega (arith, is.rounds)

  pub counted_are_few : ReachedAreCounted A → CountedAreFew A
  counted_are_few counted g s held parents is began counts =
      let few : length s.sent ≤ held = counted g s.tips s.sent held parents counts is.once began.sent in
      omega (arith, is.few)

  -- ---- the offered ids

  idle_offered : (s : SessionState A) → s.pending ≡ None → All (Contains s.sent) s.commons → AreOffered s
  idle_offered s none commons =
      record { commons = commons; haves = λ asked waits. absurd (none-some (Fetches asked) (sym none ∙ waits)) }

  pub begins_offered : BeginsOffered A
  begins_offered r refspecs limit ends session is =
      rw is.1 (record { commons = All-nil (Contains []); haves = λ asked waits. cc })

  asked_offered : (g : List (Entry A)) (old : SessionState A) (asked : Asked) (batch : List (List ℕ)) → AreOffered old
      → IsNext old g asked batch → AreOffered (waiting_for old asked batch)
  asked_offered g old Empty batch was next = absurd next
  asked_offered g old (Ls asked) batch was next = record { commons = was.commons; haves = λ also waits. absurd (cc) }
  asked_offered g old (Fetches asked) batch was next =
      let commons : All (Contains (old.sent ++ batch)) old.commons =
      λ k d low. Contains-append_left old.sent batch _ (was.commons k d low) in
      record {
        commons = commons;
        haves = λ also waits. rw (← same_fetch asked also waits, next.1)
            (All-append (Contains (old.sent ++ batch)) old.commons batch commons
            (λ k d low. Contains-append_right old.sent batch _ (Contains-get_or batch k d low)));
      }

  offered_does : DistinctAreOnce → (g : List (Entry A)) (old new : SessionState A) → AreOffered old → Does g old new
      → AreOffered new
  offered_does law g old new was (does_nothing is) = rw is was
  offered_does law g old new was (does_end is) = rw is (idle_offered (over old) refl was.commons)
  offered_does law g old new was (does_hear offers begun is) =
      rw is (record { commons = was.commons; haves = was.haves })
  offered_does law g old new was (does_ask asked none made) = rw made.2 (asked_offered g old asked made.0 was made.1)
  offered_does law g old new was (does_list asked reply wants waits is) =
      rw is (idle_offered (with_refs old reply wants) refl was.commons)
  offered_does law g old new was (does_take asked stage acks waits named settles is) =
      rw is (idle_offered (after_acks old stage acks) refl
      (all_distinct law (Contains old.sent) (old.commons ++ acks)
      (All-append (Contains old.sent) old.commons acks was.commons
      (all_of_members (Contains old.sent) asked.haves acks (was.haves asked waits) named))))
  offered_does law g old new was (does_settle stage is) =
      rw is (idle_offered (record (over old) { asks = [] }) refl was.commons)

  pub offered_stays : DistinctAreOnce → (indexes : Indexes A) (index_fails : IndexFails)
      → OfferedStays indexes index_fails
  offered_stays law indexes index_fails r old new was called =
      offered_does law r.graph.entries old new was (does indexes index_fails r old new called)

  -- ---- the common ids

  head_commons : (indexes : Indexes A) (index_fails : IndexFails)
      → (old new : SessionState A) (r after : RepoState A) (reply : FetchReply) (taken : Taken)
      → TakesHead indexes index_fails old r reply new after taken
      → new.commons ≡ distinct_of (old.commons ++ acknowledged_by reply)
  head_commons indexes index_fails old new r after reply (Round common) took =
      ap (λ (s : SessionState A). s.commons) took.1
  head_commons indexes index_fails old new r after reply (PackTaken added) took =
      ap (λ (s : SessionState A). s.commons) took.1

  pub replies_add : DistinctAreOnce → (indexes : Indexes A) (index_fails : IndexFails)
      → RepliesAddCommons indexes index_fails
  replies_add law indexes index_fails haves old new r after reply taken took =
      let acks = acknowledged_by reply in
      let same = (law (old.commons ++ acks)).same in
      rw (head_commons indexes index_fails old new r after reply taken took.1) (record {
        stay = λ k d low. (same _).1 (Contains-append_left old.commons acks _ (Contains-get_or old.commons k d low));
        come = λ k d low. (same _).1 (Contains-append_right old.commons acks _ (Contains-get_or acks k d low));
        others = λ k d low. Contains-append_cases old.commons acks _
            ((same _).0 (Contains-get_or (distinct_of (old.commons ++ acks)) k d low));
        named = took.0;
      })

  abbrev IsKnownHave : SessionState A → List ℕ → Type 0
  IsKnownHave s a = Contains s.commons a ⊎ IsOpenHave s a

  known_haves : (s : SessionState A) → All (IsKnownHave s) s.commons
  known_haves s = λ k d low. inl (Contains-get_or s.commons k d low)

  commons_do : DistinctAreOnce → (g : List (Entry A)) (old new : SessionState A) → Does g old new
      → All (IsKnownHave old) new.commons
  commons_do law g old new (does_nothing is) = rw is (known_haves old)
  commons_do law g old new (does_end is) = rw is (known_haves old)
  commons_do law g old new (does_hear offers begun is) = rw is (known_haves old)
  commons_do law g old new (does_ask Empty none made) = absurd made.1
  commons_do law g old new (does_ask (Ls asked) none made) = rw made.2 (known_haves old)
  commons_do law g old new (does_ask (Fetches asked) none made) = rw made.2 (known_haves old)
  commons_do law g old new (does_list asked reply wants waits is) = rw is (known_haves old)
  commons_do law g old new (does_take asked stage acks waits named settles is) =
      rw is (all_distinct law (IsKnownHave old) (old.commons ++ acks)
      (All-append (IsKnownHave old) old.commons acks (known_haves old) (λ k d low. inr (asked, waits, named k d low))))
  commons_do law g old new (does_settle stage is) = rw is (known_haves old)

  pub commons_are_haves : DistinctAreOnce → (indexes : Indexes A) (index_fails : IndexFails)
      → CommonsAreHaves indexes index_fails
  commons_are_haves law indexes index_fails r old new called =
      commons_do law r.graph.entries old new (does indexes index_fails r old new called)

pub ruleset done_laws = (done_asks_last, last_stays, none_follows)
