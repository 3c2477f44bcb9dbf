-- The number of requests for objects that a session makes. Git's manuals set no limit on this number. In this project
-- each request for objects except the last offers a new id.
use Rattle.std.specs.Prelude.{◌≡◌, ◌⊎◌, ℕ, ◌+◌, ◌≤◌, true, false, List, length, All, Contains, None, Result, Ok}
use Rattle.std.specs.List.{IsDistinct}
use Rattle.std.specs.Str.{bytes_eq}
use Rattle.gname.specs.Ids.{Id}
use Rattle.ggrammar.specs.declared.ends.Ends.{Ends}
use Rattle.gobject.specs.declared.node.Entry.{Entry}
use Rattle.gobject.specs.Packs.{Indexes, IndexFails}
use Rattle.gdag.specs.Graphs.{Holds}
use Rattle.gdag.specs.Reach.{Grows, IsConnected, SomeReaches}
use Rattle.gdag.specs.Walks.{CountsReached}
use Rattle.grefs.specs.Refspecs.{Refspec}
use Rattle.gclientrepo.specs.Repos.{IsConnectedRepo, RepoState}
use Rattle.grequest.specs.declared.flag.FetchFlag.TheVariants.{Done}
use Rattle.grequest.specs.Asked.{Asked, Fetches, FetchAsked, fetch_has}
use Rattle.gsession.specs.Calls.{HasCalled, IsOutOfTurn}
use Rattle.gsession.specs.Requesting.{MakesNext, Requests}
use Rattle.gsession.specs.Sessions.{SessionState, Begins, IsSession}
use Rattle.gsession.specs.TakingReplies.{Awaits}
use Rattle.gsession.specs.declared.stage.Stage.TheVariants.{Over, Settling}
use Rattle.gsession.specs.declared.fault.ClientFault.{ClientFault}

-- ---- the graph with which a session began

-- the session's tips are connected in the graph, and the session offered only ids that the tips reach in the graph
pub record BeganOn {A : Type 0} (g : List (Entry A)) (s : SessionState A) : Type 0 where
  pub connected : All (IsConnected g) s.tips
  pub sent : All (λ a. Holds g a × SomeReaches g s.tips a) s.sent

-- `BeganOn` holds for a new session on a connected repository, with the graph of that repository
abbrev pub BeganBegins : Type 0 → Type 0
BeganBegins A =
    (r : RepoState A) (refspecs : List Refspec) (limit : ℕ) (ends : Ends) (session : SessionState A)
    → IsConnectedRepo r → Begins r refspecs limit ends (Ok session) → BeganOn r.graph.entries session

-- `BeganOn` still holds after the session's next request, if the graph only gained objects
abbrev pub BeganStays : Type 0 → Type 0
BeganStays A =
    (g h : List (Entry A)) (old new : SessionState A) (asked : Asked)
    → Grows g h → BeganOn g old → MakesNext old h new asked → BeganOn g new

-- `BeganOn` still holds after every call, if the graph only gained objects
abbrev pub BeganStaysOn : {A : Type 0} → Indexes A → IndexFails → Type 0
BeganStaysOn {A} indexes index_fails =
    (g : List (Entry A)) (repo : RepoState A) (old new : SessionState A)
    → Grows g repo.graph.entries → BeganOn g old → HasCalled indexes index_fails repo old new → BeganOn g new

-- ---- the ids that were offered

-- the session has offered each common id and each have of the open request in one of its batches
pub record AreOffered {A : Type 0} (s : SessionState A) : Type 0 where
  pub commons : All (Contains s.sent) s.commons
  pub haves : (asked : FetchAsked) → Awaits s asked → All (Contains s.sent) asked.haves

-- `AreOffered` holds for a new session
abbrev pub BeginsOffered : Type 0 → Type 0
BeginsOffered A =
    (repo : RepoState A) (refspecs : List Refspec) (limit : ℕ) (ends : Ends) (session : SessionState A)
    → Begins repo refspecs limit ends (Ok session) → AreOffered session

-- `AreOffered` still holds after every call, if it held before the call
abbrev pub OfferedStays : {A : Type 0} → Indexes A → IndexFails → Type 0
OfferedStays {A} indexes index_fails =
    (repo : RepoState A) (old new : SessionState A)
    → AreOffered old → HasCalled indexes index_fails repo old new → AreOffered new

-- each request for objects that lacks `done` has a have that the session did not offer before
abbrev pub OffersAreNew : Type 0 → Type 0
OffersAreNew A =
    (g : List (Entry A)) (old new : SessionState A) (asked : FetchAsked)
    → MakesNext old g new (Fetches asked) → fetch_has asked Done ≡ false
    → ((a : Id) × Contains asked.haves a × ¬ (Contains old.sent a))

-- ---- the last request

-- the session makes no more requests: it can update the refs, or it is over
abbrev pub IsPast : {A : Type 0} → SessionState A → Type 0
IsPast s = (s.pending ≡ None) × ((s.stage ≡ Settling) ⊎ (s.stage ≡ Over))

-- the session made its last request: the open request has `done`, or the session makes no more requests
abbrev pub HasAskedLast : {A : Type 0} → SessionState A → Type 0
HasAskedLast s = ((asked : FetchAsked) × Awaits s asked × (fetch_has asked Done ≡ true)) ⊎ IsPast s

-- a request with `done` is the last request of the session
abbrev pub DoneAsksLast : Type 0 → Type 0
DoneAsksLast A =
    (g : List (Entry A)) (old new : SessionState A) (asked : FetchAsked)
    → MakesNext old g new (Fetches asked) → fetch_has asked Done ≡ true → HasAskedLast new

-- `HasAskedLast` still holds after every call, if it held before the call
abbrev pub LastStays : {A : Type 0} → Indexes A → IndexFails → Type 0
LastStays {A} indexes index_fails =
    (repo : RepoState A) (old new : SessionState A)
    → HasAskedLast old → HasCalled indexes index_fails repo old new → HasAskedLast new

-- no request follows the last request
abbrev pub NoneFollows : Type 0 → Type 0
NoneFollows A =
    (g : List (Entry A)) (old new : SessionState A) (result : Result Asked (ClientFault A))
    → HasAskedLast old → Requests old g new result → IsOutOfTurn old new result

-- ---- the bound

-- the offered ids are distinct, and the session has made at most as many requests for objects as it has offered ids, or
-- one more if it has made its last request
pub record IsCounted {A : Type 0} (s : SessionState A) : Type 0 where
  pub once : IsDistinct bytes_eq s.sent
  pub few : s.rounds ≤ length s.sent + 1
  pub due : HasAskedLast s ⊎ (s.rounds ≤ length s.sent)

-- the bound on the number of requests (`IsCounted`) holds for a new session
abbrev pub BeginsCounted : Type 0 → Type 0
BeginsCounted A =
    (repo : RepoState A) (refspecs : List Refspec) (limit : ℕ) (ends : Ends) (session : SessionState A)
    → Begins repo refspecs limit ends (Ok session) → IsCounted session

-- the bound on the number of requests (`IsCounted`) still holds after every call, if it held before the call
abbrev pub CountedStays : {A : Type 0} → Indexes A → IndexFails → Type 0
CountedStays {A} indexes index_fails =
    (repo : RepoState A) (old new : SessionState A)
    → IsCounted old → HasCalled indexes index_fails repo old new → IsCounted new

-- a session that satisfies `IsCounted` makes at most N + 1 requests for objects, if its tips reach N ids in the graph
-- with which it began
abbrev pub CountedAreFew : Type 0 → Type 0
CountedAreFew A =
    (g : List (Entry A)) (s : SessionState A) (held parents : ℕ)
    → IsCounted s → BeganOn g s → CountsReached g s.tips held parents → s.rounds ≤ held + 1

-- every session makes at most N + 1 requests for objects, if its tips reach N ids in the graph with which it began
abbrev pub RoundsAreFew : Type 0 → Type 0
RoundsAreFew A =
    (g : List (Entry A)) (s : SessionState A) (held parents : ℕ)
    → IsSession s → BeganOn g s → CountsReached g s.tips held parents → s.rounds ≤ held + 1
