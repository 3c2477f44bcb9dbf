-- A session: a client's conversation with one server, from the request for refs to the update of the local refs. The
-- order of the requests follows gitprotocol-v2(5), "Command Request". The manual does not define the state of a
-- session.
use Rattle.std.specs.Prelude.{◌≡◌, ◌≢◌, ℕ, ◌+◌, ◌≤◌, ◌<◌, Bool, true, false, List, [], length, All, Contains, codes}
use Rattle.std.specs.Prelude.{if◌then◌else◌, Option, Some, None, Result, Ok, Err}
use Rattle.std.specs.List.{IsDistinct}
use Rattle.std.specs.Map.{values_of}
use Rattle.std.specs.Str.{bytes_eq}
use Rattle.gname.specs.Ids.{Id, IsIdOf}
use Rattle.gname.specs.declared.formats.Format.{Format}
use Rattle.ggrammar.specs.declared.ends.Ends.{Ends}
use Rattle.ggrammar.specs.declared.limits.Limits.{Limits}
use Rattle.ggrammar.specs.Limits.{profile}
use Rattle.gpkt.specs.PacketReading.{Reader}
use Rattle.ggrammar.specs.Capabilities.{Capability}
use Rattle.ggrammar.specs.MessageReading.{LeavesReader}
use Rattle.ghello.specs.Offers.{has_feature}
use Rattle.gdag.specs.Levels.{distinct_of}
use Rattle.gdag.specs.declared.fault.GraphFault.TheVariants as graph
use Rattle.grefs.specs.Refspecs.{Refspec}
use Rattle.gclientrepo.specs.declared.ask.Ask.{Ask}
use Rattle.gclientrepo.specs.declared.fault.RepoFault.TheVariants as repo
use Rattle.gclientrepo.specs.Repos.{RepoState}
use Rattle.grequest.specs.Asked.{Asked, Ls, Fetches, FetchAsked, is_direct, max_haves, max_wants}
use Rattle.gsession.specs.declared.options.PackOptions.{PackOptions}
use Rattle.gsession.specs.declared.stage.Stage.{Stage}
use Rattle.gsession.specs.declared.stage.Stage.TheVariants.{Listing, Fetching, Settling, Over}
use Rattle.gsession.specs.declared.fault.ClientFault.{ClientFault}
use Rattle.gsession.specs.declared.fault.ClientFault.TheVariants.{Message, NoOpenRequest, TooManySpecs, Repo}

-- The state of a session. `tips` are the distinct ids of the local refs at the beginning. `pending` is the open
-- request, which waits for its reply. `commons` are the acknowledged ids, `sent` the offered ids, and `rounds` counts
-- the requests for objects.
pub record SessionState (A : Type 0) : Type 0 where
  pub format : Format
  pub refspecs : List Refspec
  pub limit : ℕ
  pub ends : Ends
  pub options : PackOptions
  pub tips : List Id
  pub offers_unborn : Bool
  pub stage : Stage
  pub pending : Option Asked
  pub asks : List (Ask A)
  pub wants : List Id
  pub commons : List Id
  pub sent : List Id
  pub rounds : ℕ

-- the maximum number of refspecs of a session, a limit of this project
abbrev pub max_specs : ℕ
max_specs = 16

-- An open request for objects has the session's wants, and its haves include each common id. If the request has haves
-- and no `done`, the session has made at most as many requests for objects as it has offered ids.
pub record IsOpenFetch {A : Type 0} (s : SessionState A) (asked : FetchAsked) : Type 0 where
  pub wants : asked.wants ≡ s.wants
  pub commons : All (Contains asked.haves) s.commons
  pub ids : All (IsIdOf s.format) asked.haves
  pub few : length asked.haves ≤ max_haves s.options.limits
  pub goes_on : is_direct asked ≡ false → s.rounds ≤ length s.sent

-- the open request fits the stage of the session, and no objects were requested before the session received the refs
abbrev pub FitsStage : {A : Type 0} → SessionState A → Stage → Option Asked → Type 0
FitsStage s Listing None = s.rounds ≡ 0
FitsStage s Listing (Some (Ls asked)) = s.rounds ≡ 0
FitsStage s Fetching None = s.rounds ≤ length s.sent
FitsStage s Fetching (Some (Fetches asked)) = IsOpenFetch s asked
FitsStage s Settling None = Unit {0}
FitsStage s Over None = Unit {0}
FitsStage s _ _ = ⊥

-- the common ids are distinct ids of this object format, and fit into one request with these limits
pub record AreCommons (limits : Limits) (format : Format) (commons : List Id) : Type 0 where
  pub ids : All (IsIdOf format) commons
  pub few : length commons ≤ max_haves limits
  pub once : IsDistinct bytes_eq commons

-- the invariants of a session: its lists are within limits, no id is offered twice, and the open request fits the stage
pub record IsSession {A : Type 0} (s : SessionState A) : Type 0 where
  pub few_specs : length s.refspecs ≤ max_specs
  pub tips : All (IsIdOf s.format) s.tips
  pub wants : All (IsIdOf s.format) s.wants
  pub few_wants : length s.wants ≤ max_wants s.options.limits
  pub commons : AreCommons s.options.limits s.format s.commons
  pub sent : IsDistinct bytes_eq s.sent
  pub rounds : s.rounds ≤ length s.sent + 1
  pub some : s.stage ≡ Fetching → s.wants ≢ []
  pub stage : FitsStage s s.stage s.pending

-- the ended session, which rejects every further call
abbrev pub over : {A : Type 0} → SessionState A → SessionState A
over s = record s { stage = Over; pending = None }

-- whether the fault ends the session; every fault except `NoOpenRequest` ends the session
abbrev pub ends_session : {A : Type 0} → ClientFault A → Bool
ends_session NoOpenRequest = false
ends_session _ = true

-- the session after a fault
abbrev pub after_fault : {A : Type 0} → SessionState A → ClientFault A → SessionState A
after_fault s fault = if ends_session fault then over s else s

-- The state of the reader after a call that reads a reply. If no reply was awaited, the reader is unchanged. Otherwise
-- the reader has reached the end of the reply, or remains where the reading stopped.
abbrev pub LeavesReplies : {A S T : Type 0} → (S → Bool) → Reader S → Reader S → Result T (ClientFault A) → Type 0
LeavesReplies is_down old new (Err NoOpenRequest) = new ≡ old
LeavesReplies is_down old new (Err (Message fault)) = LeavesReader {M = Unit {0}} is_down old new (Err fault)
LeavesReplies is_down old new _ = LeavesReader {M = Unit {0}} is_down old new (Ok tt)

-- the fault of a session that is out of memory
abbrev pub no_memory : {A : Type 0} → ClientFault A
no_memory = Repo (repo.Graph graph.Memory)

-- ---- beginning

-- the tips: the distinct ids of the local refs
abbrev pub tips_of : {A : Type 0} → RepoState A → List Id
tips_of repo = distinct_of (values_of repo.refs)

-- the default pack options: no deltas by offset, no progress, the default limits, and at most 256 new ids in a request
abbrev pub no_options : PackOptions
no_options = record { ofs_delta = false; progress = false; limits = profile; max_batch = 256 }

-- a session that has just begun
abbrev pub new_session : {A : Type 0} → Format → List Refspec → ℕ → Ends → List Id → SessionState A
new_session format refspecs limit ends tips = record {
  format = format;
  refspecs = refspecs;
  limit = limit;
  ends = ends;
  options = no_options;
  tips = tips;
  offers_unborn = false;
  stage = Listing;
  pending = None;
  asks = [];
  wants = [];
  commons = [];
  sent = [];
  rounds = 0;
}

-- the result of beginning a session: the session, too many refspecs, or out of memory
abbrev pub Begins : {A : Type 0} → RepoState A → List Refspec → ℕ → Ends
    → Result (SessionState A) (ClientFault A) → Type 0
Begins r refspecs limit ends (Ok session) =
    (length refspecs ≤ max_specs)
    × (session ≡ new_session r.graph.format refspecs limit ends (tips_of r))
Begins r refspecs limit ends (Err TooManySpecs) = max_specs < length refspecs
Begins r refspecs limit ends (Err (Repo (repo.Graph graph.Memory))) = length refspecs ≤ max_specs
Begins r refspecs limit ends (Err _) = ⊥

-- the result of beginning a session with pack options
abbrev pub BeginsWith : {A : Type 0} → RepoState A → List Refspec → ℕ → Ends → PackOptions
    → Result (SessionState A) (ClientFault A) → Type 0
BeginsWith r refspecs limit ends options (Ok session) =
    (length refspecs ≤ max_specs)
    × (session ≡ record (new_session r.graph.format refspecs limit ends (tips_of r)) { options = options })
BeginsWith r refspecs limit ends options (Err fault) = Begins r refspecs limit ends (Err fault)

-- ---- the advertisement

-- the session has just begun: it has made no request yet
abbrev pub IsBegun : {A : Type 0} → SessionState A → Type 0
IsBegun s = (s.stage ≡ Listing) × (s.pending ≡ None)

-- whether a server can report an unborn HEAD (gitprotocol-v2(5), "ls-refs": `unborn`)
abbrev pub tells_unborn : List Capability → Bool
tells_unborn capabilities = has_feature (codes "ls-refs") (codes "unborn") capabilities

-- the result of reading the advertisement: the session stores whether the server can report an unborn HEAD, or fails
-- because the session has already made a request or is over
abbrev pub Hears : {A : Type 0} → SessionState A → List Capability → SessionState A → Result Unit (ClientFault A)
    → Type 0
Hears old capabilities new (Ok _) = IsBegun old × (new ≡ record old { offers_unborn = tells_unborn capabilities })
Hears old capabilities new (Err NoOpenRequest) = ¬ (IsBegun old) × (new ≡ old)
Hears old capabilities new (Err _) = ⊥
