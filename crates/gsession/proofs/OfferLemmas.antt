-- The walk of a session after its next request, and after a reply with only acknowledgments.
use Rattle.std.proofs.Common.{◌≡◌, ◌∙◌, ℕ, List, [], ◌∷◌, ◌++◌, Contains, Option, None, Some, IfSome, Result, Ok, Err}
use Rattle.std.proofs.Common.{MatchResult, OnOk, inl, inr, refl, sym}
use Rattle.std.proofs.Common.{ap, subst, append-nil, append_assoc, bytes_eq}
use Rattle.std.specs.List.{IsDistinct}
use Rattle.std.proofs.lemmas.List.Elements.{Contains-append_right}
use Rattle.std.proofs.lemmas.Map.Keys.{IsDistinct-tail}
use Rattle.gobject.specs.declared.node.Entry.{Entry}
use Rattle.gobject.specs.Packs.{Indexes, IndexFails}
use Rattle.gdag.specs.Laws.{DistinctAreOnce}
use Rattle.gdag.specs.Levels.{distinct_of, is_in, new_ids}
use Rattle.gdag.proofs.IdLists.{contains_cases, contains_from_in, contains_head, either_way, new_ids-new, nothing_in_nil}
use Rattle.gwalk.specs.Offers.{AreOffers}
use Rattle.gwalk.specs.declared.offer.Offers.{Offers}
use Rattle.gfetchreply.specs.FetchHeads.{acknowledged_by}
use Rattle.grequest.specs.Asked.{Asked, Empty, Ls, Fetches, FetchAsked}
use Rattle.grequest.specs.RequestValues.{asked_by_request}
use Rattle.grequest.specs.declared.request.Request.{Request}
use Rattle.gsession.specs.Offering.{AreOffersOf, OffersStay}
use Rattle.gsession.specs.Requesting.{MakesNext, waiting_for}
use Rattle.gsession.specs.TakingReplies.{after_acks}
use Rattle.gsession.specs.Sessions.{IsSession, SessionState, no_memory}
use Rattle.gsession.specs.declared.fault.ClientFault.{ClientFault}
use Rattle.gsession.specs.declared.stage.Stage.TheVariants.{Fetching, Listing}
use Rattle.gsession.proofs.CommonLemmas.{apart_head}
use Rattle.gsession.proofs.SessionLemmas.{listing_fetches}

-- ---- lists of distinct ids

apart : (xs ys : List (List ℕ)) (a : List ℕ) → IsDistinct bytes_eq (xs ++ a ∷ ys) → Contains xs a → ⊥
apart [] ys a once there = nothing_in_nil a there
apart (x ∷ xs) ys a once there =
    elim (contains_cases x xs a there) [
      | inl same ↦ apart_head x (xs ++ a ∷ ys) a once
          (Contains-append_right xs (a ∷ ys) a (contains_head a ys)) same
      | inr later ↦ apart xs ys a (IsDistinct-tail bytes_eq x (xs ++ a ∷ ys) once) later
    ]

own_ids : (before ids : List (List ℕ)) → IsDistinct bytes_eq (before ++ ids) → new_ids before ids ≡ ids
own_ids before [] once = refl
own_ids before (a ∷ ids) once =
    either_way (is_in before a)
    (λ e. absurd (apart before ids a once (contains_from_in before a e)))
    (λ e. new_ids-new before a ids e ∙ ap (λ (l : List (List ℕ)). a ∷ l) (own_ids (before ++ a ∷ []) ids
    (subst (IsDistinct bytes_eq) (sym (append_assoc before (a ∷ []) ids)) once)))

module _ {A : Type 0} where
  -- ---- after a request

  pub asked_refs : (s new : SessionState A) (g : List (Entry A)) (asked : Asked) (offers : Option (Offers A))
      → s.stage ≡ Listing → MakesNext s g new asked → IfSome offers (AreOffersOf s g) → IfSome offers (AreOffersOf new g)
  asked_refs s new g asked None stage made are = tt
  asked_refs s new g Empty (Some offers) stage made are = absurd made.1
  asked_refs s new g (Ls asked) (Some offers) stage made are =
      subst (λ (t : SessionState A). AreOffersOf t g offers) (sym made.2)
      (record { heard = are.heard; rest = are.rest; commons = are.commons; are = are.are })
  asked_refs s new g (Fetches asked) (Some offers) stage made are =
      absurd (listing_fetches (sym stage ∙ made.1.0))

  -- the walk also remains valid after the call that makes the request for refs
  pub listing_offers : (s new : SessionState A) (g : List (Entry A)) (result : Result (Request A) (ClientFault A))
      (offers : Option (Offers A)) → s.stage ≡ Listing
      → MatchResult result (λ request. MakesNext s g new (asked_by_request request))
      (λ fault. (new ≡ s) × (fault ≡ no_memory))
      → IfSome offers (AreOffersOf s g) → OnOk result (IfSome offers (AreOffersOf new g))
  listing_offers s new g (Ok request) offers stage made are =
      asked_refs s new g (asked_by_request request) offers stage made are
  listing_offers s new g (Err fault) offers stage made are = tt

  pub asked_objects : (s new : SessionState A) (g : List (Entry A)) (asked : Asked) (fetch : FetchAsked)
      (batch : List (List ℕ)) (offers : Option (Offers A)) → asked ≡ Fetches fetch → new ≡ waiting_for s asked batch
      → IfSome offers (AreOffers g s.tips s.commons (s.sent ++ batch)) → IfSome offers (AreOffersOf new g)
  asked_objects s new g asked fetch batch None same is are = tt
  asked_objects s new g asked fetch batch (Some offers) same is are =
      subst (λ (t : SessionState A). AreOffersOf t g offers)
      (sym (is ∙ ap (λ (a : Asked). waiting_for s a batch) same))
      (record { heard = s.commons; rest = []; commons = sym (append-nil s.commons); are = are })

  -- ---- after a reply

  -- the walk remains valid if the session's common ids only grow
  pub offers_grow : DistinctAreOnce → (old new : SessionState A) (acks : List (List ℕ)) (g : List (Entry A))
      (offers : Option (Offers A)) → IsSession old → new ≡ after_acks old Fetching acks
      → IfSome offers (AreOffersOf old g) → IfSome offers (AreOffersOf new g)
  offers_grow law old new acks g None is same are = tt
  offers_grow law old new acks g (Some offers) is same are =
      let order = (law (old.commons ++ acks)).order old.commons acks refl in
      let more : distinct_of (old.commons ++ acks) ≡ are.heard ++ (are.rest ++ order.0) =
      order.1 ∙ ap (λ (l : List (List ℕ)). l ++ order.0) (own_ids [] old.commons is.commons.once ∙ are.commons)
      ∙ append_assoc are.heard are.rest order.0 in
      subst (λ (t : SessionState A). AreOffersOf t g offers) (sym same)
      (record { heard = are.heard; rest = are.rest ++ order.0; commons = more; are = are.are })

  pub offers_stay : DistinctAreOnce → (indexes : Indexes A) (index_fails : IndexFails)
      → OffersStay indexes index_fails
  offers_stay law indexes index_fails haves old new repo after reply common g offers is takes are =
      offers_grow law old new (acknowledged_by reply) g offers is takes.1.1 are
