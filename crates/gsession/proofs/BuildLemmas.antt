-- Making a request: the ids and prefixes that are added to it, and the conditions for making it.
use Rattle.std.proofs.Common.{◌≡◌, ℕ, ◌+◌, ◌<◌, ◌≤◌, true, false, cond, List, [], ◌∷◌, ◌++◌, length, length-append}
use Rattle.std.proofs.Common.{Option, Some, None, Result, Ok, Err, MatchResult, map, take, get_or}
use Rattle.std.proofs.Common.{nat_lt, All, refl, sym, ap, subst, ◌∙◌, arith}
use Rattle.std.specs.Option.{is_some, option_map}
use Rattle.std.proofs.lemmas.Bool.{eq-eqb, false≢true, lt-ltb}
use Rattle.std.proofs.lemmas.List.{append-nil, length-take-le, map-append, take_more}
use Rattle.gname.specs.Formats.{id_length}
use Rattle.gname.specs.Ids.{IsIdOf}
use Rattle.gname.specs.declared.formats.Format.{Format}
use Rattle.gdag.specs.Levels.{distinct_of, is_in}
use Rattle.gdag.proofs.IdLists.{new_ids-append}
use Rattle.grefs.specs.Refspecs.{Refspec}
use Rattle.gobject.specs.declared.node.Entry.{Entry}
use Rattle.gname.specs.Ids.{has_format}
use Rattle.grequest.specs.Asked.{Asked, Fetches}
use Rattle.grequest.specs.RequestValues.{asked_by_request}
use Rattle.grequest.specs.declared.request.Request.{Request}
use Rattle.gsession.specs.Requesting.{IsBatch, IsNext, MakesNext, Requests, fetch_request, is_due, waiting_for}
use Rattle.gsession.specs.Sessions.{SessionState, after_fault, no_memory}
use Rattle.gsession.specs.declared.fault.ClientFault.{ClientFault}
use Rattle.gsession.specs.declared.stage.Stage.{Stage}
use Rattle.gsession.specs.declared.stage.Stage.TheVariants.{Listing, Fetching, Settling, Over}
use Rattle.gsession.specs.steps.Calls.{with_prefix}

-- each of the ids has the object format
pub fits : (format other : Format) (ids : List (List ℕ)) (i : ℕ) (id : List ℕ) → All (IsIdOf format) ids
    → i < length ids → id ≡ get_or ids i id
    → other ≡ format → has_format other id ≡ true
fits format other ids i id are low at same =
    let is : IsIdOf format id = subst (IsIdOf format) (sym at) (are i id low) in
    eq-eqb (length id) (id_length other) (is.long ∙ ap id_length (sym same))

-- a request with room for all the ids still has room for one more after the first `i` ids are added
pub has_room : (old now ids : List (List ℕ)) (i max : ℕ) → now ≡ old ++ take i ids → i < length ids
    → length old + length ids ≤ max → nat_lt (length now) max ≡ true
has_room old now ids i max is low few =
    let long : length now ≡ length old + length (take i ids) = ap length is ∙ length-append old (take i ids) in
    let short : length (take i ids) ≡ i = length-take-le i ids (omega arith) in
    lt-ltb (length now) max (omega arith)

-- ---- prefixes

-- the distinct ids of a list with one more id
distinct_more : (xs : List (List ℕ)) (a : List ℕ) → distinct_of (xs ++ a ∷ []) ≡ with_prefix (distinct_of xs) a
distinct_more xs a =
    new_ids-append [] xs (a ∷ [])
    ∙ elim (is_in (distinct_of xs) a) as (λ b. distinct_of xs ++ cond b [] (a ∷ [])
    ≡ cond b (distinct_of xs) (distinct_of xs ++ a ∷ [])) [ true ↦ append-nil (distinct_of xs) | false ↦ refl ]

-- adding a prefix increases the number of prefixes by at most one
pub with_prefix_few : (prefixes : List (List ℕ)) (prefix : List ℕ)
    → length (with_prefix prefixes prefix) ≤ length prefixes + 1
with_prefix_few prefixes prefix =
    elim (is_in prefixes prefix) as (λ b. length (cond b prefixes (prefixes ++ prefix ∷ [])) ≤ length prefixes + 1) [
      | true ↦ omega arith
      | false ↦ omega (arith, length-append prefixes (prefix ∷ []))
    ]

-- the distinct prefixes of the first `i` refspecs and of the next refspec
pub prefixes_more : (specs : List Refspec) (i : ℕ) (spec : Refspec) → i < length specs → get_or specs i spec ≡ spec
    → distinct_of (map (λ s. s.source) (take (i + 1) specs))
    ≡ with_prefix (distinct_of (map (λ s. s.source) (take i specs))) spec.source
prefixes_more specs i spec low at =
    ap (λ (l : List Refspec). distinct_of (map (λ s. s.source) l))
    (take_more specs i spec low ∙ ap (λ (s : Refspec). take i specs ++ s ∷ []) at)
    ∙ ap distinct_of (map-append (λ (s : Refspec). s.source) (take i specs) (spec ∷ []))
    ∙ distinct_more (map (λ s. s.source) (take i specs)) spec.source

module _ {A : Type 0} where
  -- ---- the next request

  pub none_waits : (p : Option (Request A)) → is_some p ≡ false → option_map asked_by_request p ≡ None
  none_waits None none = refl
  none_waits (Some request) none = absurd (false≢true (sym none))

  -- no request can be made while a request is open
  pub one_waits : (stage : Stage) (p : Option (Request A)) → is_some p ≡ true
      → is_due stage (option_map asked_by_request p) ≡ false
  one_waits stage None some = absurd (false≢true some)
  one_waits Listing (Some request) some = refl
  one_waits Fetching (Some request) some = refl
  one_waits Settling (Some request) some = refl
  one_waits Over (Some request) some = refl

  -- in the stage `Fetching`, the next request is the request for objects with this batch
  pub fetches_next : (s new : SessionState A) (g : List (Entry A)) (asked : Asked) (batch : List (List ℕ))
      → s.stage ≡ Fetching → IsBatch s g batch → asked ≡ Fetches (fetch_request s.options s.wants s.commons batch)
      → new ≡ waiting_for s asked batch → MakesNext s g new asked
  fetches_next s new g asked batch stage batched is after =
      (batch, subst (λ (a : Asked). IsNext s g a batch) (sym is) (stage, refl, batched), after)

  -- if a request can be made, the result is the next request or out of memory
  pub made_next : (old new : SessionState A) (g : List (Entry A)) (result : Result (Request A) (ClientFault A))
      → is_due old.stage old.pending ≡ true
      → MatchResult result (λ request. MakesNext old g new (asked_by_request request))
      (λ fault. (new ≡ old) × (fault ≡ no_memory))
      → MatchResult result
      (λ request. Requests old g new (Ok (asked_by_request request)))
      (λ fault. Requests old g (after_fault old fault) (Err fault) × (new ≡ old))
  made_next old new g (Ok request) due made = (due, made)
  made_next old new g (Err fault) due made =
      (subst (λ f. Requests old g (after_fault old f) (Err f)) (sym made.1) (due, refl), made.0)
