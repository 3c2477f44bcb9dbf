-- The next request of a session. The manual defines the form of a request (gitprotocol-v2(5), "ls-refs" and "fetch").
-- The manual does not say which haves a client sends, nor when the client sends `done`. The first batch of this client
-- has at most 16 ids. This bound doubles with each batch, up to the maximum of the options and at most to 16,384.
use Rattle.std.specs.Prelude.{◌≡◌, ℕ, ◌+◌, ◌*◌, ◌^◌, min, Bool, true, false, List, [], ◌++◌, length, map, nat_le, ◌==◌}
use Rattle.std.specs.Prelude.{if◌then◌else◌, not, Option, Some, None, Result, Ok, Err}
use Rattle.gname.specs.Ids.{Id}
use Rattle.ggrammar.specs.Limits.{profile}
use Rattle.ggrammar.specs.declared.limits.Limits.{Limits}
use Rattle.gobject.specs.declared.node.Entry.{Entry}
use Rattle.gdag.specs.Levels.{distinct_of}
use Rattle.gdag.specs.Offer.{IsOffer}
use Rattle.gdag.specs.declared.fault.GraphFault.TheVariants as graph
use Rattle.grefs.specs.Refspecs.{Refspec}
use Rattle.gclientrepo.specs.declared.fault.RepoFault.TheVariants as repo
use Rattle.grequest.specs.declared.flag.LsRefsFlag.TheVariants.{Unborn}
use Rattle.grequest.specs.declared.flag.FetchFlag.TheVariants.{NoProgress, IncludeTag, OfsDelta, Done}
use Rattle.grequest.specs.Building.{no_ls_refs, no_fetch}
use Rattle.grequest.specs.declared.request.Request.{Request}
use Rattle.grequest.specs.RequestValues.{asked_by_request, limits_of}
use Rattle.grequest.specs.Asked.{Asked, Empty, Ls, Fetches, LsRefsAsked, FetchAsked, max_haves, ls_with, fetch_with}
use Rattle.gsession.specs.Sessions.{SessionState, over}
use Rattle.gsession.specs.declared.options.PackOptions.{PackOptions}
use Rattle.gsession.specs.declared.stage.Stage.{Stage}
use Rattle.gsession.specs.declared.stage.Stage.TheVariants.{Listing, Fetching}
use Rattle.gsession.specs.declared.fault.ClientFault.{ClientFault}
use Rattle.gsession.specs.declared.fault.ClientFault.TheVariants.{NoOpenRequest, Repo}

-- the request for refs, with the source of each refspec as a prefix, and with `unborn` if the server offers it
abbrev pub ls_request : List Refspec → Bool → LsRefsAsked
ls_request specs unborn =
    record (ls_with no_ls_refs Unborn unborn) { prefixes = distinct_of (map (λ spec. spec.source) specs) }

-- the maximum number of new ids that a request offers after `rounds` rounds, if no request may offer more than `most`:
-- 16 doubled in each round, but at most 10 times
abbrev pub batch_size : ℕ → ℕ → ℕ
batch_size most rounds = min most (16 * 2 ^ min rounds 10)

-- the batch: the new ids to offer, or an empty list if the new ids and the common ids do not fit into one request with
-- these limits
abbrev pub batch_of : Limits → List Id → List Id → List Id
batch_of limits commons offer = if nat_le (length commons + length offer) (max_haves limits) then offer else []

-- the limits of a request, given the limits of the session: a request for refs has the default limits, and a request
-- for objects has the limits of the session
abbrev pub limits_for : Limits → Asked → Option Limits
limits_for limits Empty = None
limits_for limits (Ls asked) = Some profile
limits_for limits (Fetches asked) = Some limits

-- the request has the limits that `limits_for` determines from the limits of the session
abbrev pub HasLimitsFor : {A : Type 0} → Limits → Request A → Type 0
HasLimitsFor limits request = limits_of request ≡ limits_for limits (asked_by_request request)

-- the ids that the next request offers, level by level from the tips
pub record IsBatch {A : Type 0} (s : SessionState A) (g : List (Entry A)) (batch : List Id) : Type 0 where
  pub offer : List Id
  pub offered : IsOffer g s.tips s.commons s.sent (batch_size s.options.max_batch s.rounds) offer
  pub is : batch ≡ batch_of s.options.limits s.commons offer

-- a request for objects without ids: it has `include-tag`, and `no-progress` and `ofs-delta` as the options require
abbrev pub blank_request : PackOptions → FetchAsked
blank_request options =
    let quiet = fetch_with no_fetch NoProgress (not options.progress) in
    let tagged = fetch_with quiet IncludeTag true in
    fetch_with tagged OfsDelta options.ofs_delta

-- the request with the wants, and with the common ids and the batch as haves; if the batch is empty, the request has
-- `done`
abbrev pub with_ids : FetchAsked → List Id → List Id → List Id → FetchAsked
with_ids blank wants commons batch =
    record (fetch_with blank Done (length batch == 0)) { wants = wants; haves = commons ++ batch }

-- the request for the wanted objects
abbrev pub fetch_request : PackOptions → List Id → List Id → List Id → FetchAsked
fetch_request options wants commons batch = with_ids (blank_request options) wants commons batch

-- the next request, with its batch: a request for refs in the first stage, and a request for objects in the second
abbrev pub IsNext : {A : Type 0} → SessionState A → List (Entry A) → Asked → List Id → Type 0
IsNext s g Empty batch = ⊥
IsNext s g (Ls asked) batch = (s.stage ≡ Listing) × (asked ≡ ls_request s.refspecs s.offers_unborn) × (batch ≡ [])
IsNext s g (Fetches asked) batch =
    (s.stage ≡ Fetching) × (asked ≡ fetch_request s.options s.wants s.commons batch) × IsBatch s g batch

-- the session after it made this request, which is now open; a request for objects counts as a round
abbrev pub waiting_for : {A : Type 0} → SessionState A → Asked → List Id → SessionState A
waiting_for s (Fetches asked) batch =
    record s { pending = Some (Fetches asked); sent = s.sent ++ batch; rounds = s.rounds + 1 }
waiting_for s asked batch = record s { pending = Some asked }

-- the session makes the next request, which becomes the open request
abbrev pub MakesNext : {A : Type 0} → SessionState A → List (Entry A) → SessionState A → Asked → Type 0
MakesNext old g new asked = (batch : List Id) × IsNext old g asked batch × (new ≡ waiting_for old asked batch)

-- whether the session can make its next request: no request is open, and refs or objects are still needed
abbrev pub is_due : Stage → Option Asked → Bool
is_due Listing None = true
is_due Fetching None = true
is_due _ _ = false

-- the result of making the next request: the request, no request to make, or out of memory, which ends the session
abbrev pub Requests : {A : Type 0} → SessionState A → List (Entry A) → SessionState A
    → Result Asked (ClientFault A) → Type 0
Requests old g new (Ok asked) = (is_due old.stage old.pending ≡ true) × MakesNext old g new asked
Requests old g new (Err NoOpenRequest) = (is_due old.stage old.pending ≡ false) × (new ≡ old)
Requests old g new (Err (Repo (repo.Graph graph.Memory))) = (is_due old.stage old.pending ≡ true) × (new ≡ over old)
Requests old g new (Err _) = ⊥
