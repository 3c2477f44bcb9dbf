-- The invariants of a session, which every call preserves.
use Rattle.std.proofs.Common.{◌≡◌, ◌≢◌, ℕ, ◌+◌, ◌≤◌, ◌==◌, false, List, [], ◌∷◌, ◌++◌, length}
use Rattle.std.proofs.Common.{All, Option, Some, None, refl, sym, ap, subst, arith, length-append, ◌∙◌}
use Rattle.std.specs.List.{IsDistinct}
use Rattle.std.specs.Option.{IfSome, option_map}
use Rattle.std.proofs.lemmas.List.Elements.{All-append, All-nil, Contains-append_left, Contains-get_or}
use Rattle.std.proofs.lemmas.Bool.{ne_eqb}
use Rattle.gname.specs.Ids.{IsIdOf}
use Rattle.gclientrepo.specs.declared.ask.Ask.{Ask}
use Rattle.grequest.specs.Asked.{Asked, Ls, Fetches, FetchAsked, LsRefsAsked, is_direct, max_wants}
use Rattle.grequest.specs.RequestValues.{IsOfFormat, asked_by_request}
use Rattle.grequest.specs.declared.request.Request.{Request}
use Rattle.gsession.specs.Requesting.{HasLimitsFor, fetch_request}
use Rattle.gsession.specs.Sessions.{SessionState, AreCommons, FitsStage, IsOpenFetch, IsSession, max_specs}
use Rattle.gsession.specs.steps.Calls.{FitsBatch}
use Rattle.gsession.specs.TakingRefs.{AwaitsRefs, stage_for}
use Rattle.gsession.specs.declared.options.PackOptions.{PackOptions}
use Rattle.gsession.specs.declared.stage.Stage.{Stage}
use Rattle.gsession.specs.declared.stage.Stage.TheVariants.{Listing, Fetching, Settling}

-- ---- the stage and the open request

pub listing_fetches : Listing ≡ Fetching → ⊥
listing_fetches same = cc

pub settling_fetches : Settling ≡ Fetching → ⊥
settling_fetches same = cc

-- if a request for refs is open, the session has made no request for objects
ls_waits : {A : Type 0} (s : SessionState A) (st : Stage) (asked : LsRefsAsked) → FitsStage s st (Some (Ls asked))
    → s.rounds ≡ 0
ls_waits s Listing asked fits = fits
ls_waits s _ asked fits = absurd fits

-- an open request for objects satisfies `IsOpenFetch`, and the stage is `Fetching`
fetch_waits : {A : Type 0} (s : SessionState A) (st : Stage) (asked : FetchAsked)
    → FitsStage s st (Some (Fetches asked)) → (st ≡ Fetching) × IsOpenFetch s asked
fetch_waits s Fetching asked fits = (refl, fits)
fetch_waits s _ asked fits = absurd fits

pub open_fetch : {A : Type 0} (s : SessionState A) (asked : FetchAsked) → IsSession s → s.pending ≡ Some (Fetches asked)
    → IsOpenFetch s asked
open_fetch s asked is waits = (fetch_waits s s.stage asked (subst (FitsStage s s.stage) waits is.stage)).1

-- ---- the beginning of a session

-- a new session, which has no wants, no common ids and no offered ids, satisfies the invariants
pub begun : {A : Type 0} (s : SessionState A) → length s.refspecs ≤ max_specs → All (IsIdOf s.format) s.tips
    → s.wants ≡ [] → s.commons ≡ [] → s.sent ≡ []
    → s.stage ≡ Listing → s.pending ≡ None → s.rounds ≡ 0 → IsSession s
unfolding IsDistinct
begun s few ids wants commons sent stage pending rounds = record {
  few_specs = few;
  some = λ fetching. absurd (listing_fetches (sym stage ∙ fetching));
  tips = ids;
  wants = rw wants (All-nil (IsIdOf s.format));
  few_wants = omega (arith, ap length wants);
  commons = rw commons (record { ids = All-nil (IsIdOf s.format); few = omega arith; once = tt });
  sent = rw sent tt;
  rounds = omega (arith, rounds);
  stage = rw (stage, pending) rounds;
}

-- ---- the open request

-- replacing the open request by an equal one preserves the invariants
pub waits : {A : Type 0} (s : SessionState A) (now next : Option (Request A)) → now ≡ next
    → IsSession (record s { pending = option_map asked_by_request next }) → IfSome next (IsOfFormat s.format)
    → IfSome next (HasLimitsFor s.options.limits)
    → IsSession (record s { pending = option_map asked_by_request now }) × IfSome now (IsOfFormat s.format)
    × IfSome now (HasLimitsFor s.options.limits)
waits s now next same is format limits = rw same (is, format, limits)

-- ---- requests

-- a batch that is not empty increases the number of offered ids
more_sent : (n : ℕ) (sent batch : List (List ℕ)) → length batch == 0 ≡ false → n ≤ length sent
    → n + 1 ≤ length (sent ++ batch)
more_sent n sent [] some few = absurd (cc)
more_sent n sent (id ∷ batch) some few = omega (arith, few, length-append sent (id ∷ batch))

-- a request with haves and without `done` has a batch that is not empty
has_batch : (options : PackOptions) (wants commons batch : List (List ℕ))
    → is_direct (fetch_request options wants commons batch) ≡ false → length batch == 0 ≡ false
has_batch options wants commons [] direct = direct
has_batch options wants commons (id ∷ batch) direct = ne_eqb (length (id ∷ batch)) 0 (λ same. omega arith)

pub objects_asked : {A : Type 0} (s : SessionState A) (batch sent : List (List ℕ)) (p : Option Asked) → IsSession s
    → s.stage ≡ Fetching → s.pending ≡ None
    → FitsBatch s batch → p ≡ Some (Fetches (fetch_request s.options s.wants s.commons batch)) → sent ≡ s.sent ++ batch
    → IsSession (record s { pending = p; sent = sent; rounds = s.rounds + 1 })
objects_asked s batch sent p is stage pending fits waits more =
    let few : s.rounds ≤ length s.sent = rw (stage, pending) at is.stage in
    let long = length-append s.sent batch in
    let haves = length-append s.commons batch in
    rw (waits, more) (record {
      few_specs = is.few_specs;
      tips = is.tips;
      wants = is.wants;
      few_wants = is.few_wants;
      commons = is.commons;
      sent = fits.fresh;
      rounds = omega (arith, few, long);
      some = is.some;
      stage = rw stage (record {
        wants = refl;
        commons = λ k d low. Contains-append_left s.commons batch _ (Contains-get_or s.commons k d low);
        ids = All-append (IsIdOf s.format) s.commons batch is.commons.ids fits.ids;
        few = omega (arith, haves, fits.room);
        goes_on = λ direct. more_sent s.rounds s.sent batch (has_batch s.options s.wants s.commons batch direct) few;
      });
    })

-- ---- replies

-- the stage after an ls-refs reply fits a session that has made no request for objects
fits_wants : {A : Type 0} (s : SessionState A) (wants : List (List ℕ)) → s.rounds ≡ 0
    → FitsStage s (stage_for wants) None
fits_wants s [] none = tt
fits_wants s (want ∷ wants) none = omega (arith, none)

-- if the stage after an ls-refs reply is `Fetching`, there are wants
some_wants : (wants : List (List ℕ)) → stage_for wants ≡ Fetching → wants ≢ []
some_wants [] fetching = absurd (settling_fetches fetching)
some_wants (want ∷ wants) fetching = λ none. cc

pub refs_taken : {A : Type 0} (s : SessionState A) (asks : List (Ask A)) (wants : List (List ℕ)) (st : Stage)
    → IsSession s → AwaitsRefs s
    → All (IsIdOf s.format) wants → length wants ≤ max_wants s.options.limits → st ≡ stage_for wants
    → IsSession (record s { stage = st; pending = None; asks = asks; wants = wants })
refs_taken s asks wants st is waits ids few same =
    let none = ls_waits s s.stage waits.0 (subst (FitsStage s s.stage) waits.1 is.stage) in
    record {
      few_specs = is.few_specs;
      tips = is.tips;
      wants = ids;
      few_wants = few;
      commons = is.commons;
      sent = is.sent;
      rounds = is.rounds;
      some = λ fetching. some_wants wants (sym same ∙ fetching);
      stage = rw same
          (fits_wants (record s { stage = stage_for wants; pending = None; asks = asks; wants = wants }) wants none);
    }

pub acks_taken : {A : Type 0} (s : SessionState A) (asked : FetchAsked) (commons : List (List ℕ)) → IsSession s
    → s.pending ≡ Some (Fetches asked)
    → is_direct asked ≡ false → AreCommons s.options.limits s.format commons
    → IsSession (record s { stage = Fetching; pending = None; commons = commons })
acks_taken s asked commons is waits direct are = record {
  few_specs = is.few_specs;
  tips = is.tips;
  wants = is.wants;
  few_wants = is.few_wants;
  commons = are;
  sent = is.sent;
  rounds = is.rounds;
  some = λ _. is.some (fetch_waits s s.stage asked (subst (FitsStage s s.stage) waits is.stage)).0;
  stage = (open_fetch s asked is waits).goes_on direct;
}

pub pack_taken : {A : Type 0} (s : SessionState A) (commons : List (List ℕ)) → IsSession s
    → AreCommons s.options.limits s.format commons → IsSession (record s { stage = Settling; pending = None; commons = commons })
pack_taken s commons is are = record {
  few_specs = is.few_specs;
  tips = is.tips;
  wants = is.wants;
  few_wants = is.few_wants;
  commons = are;
  sent = is.sent;
  rounds = is.rounds;
  some = λ fetching. absurd (settling_fetches fetching);
  stage = tt;
}
