-- Consequences of the definitions of a session's calls.
use Rattle.std.specs.Prelude.{◌≡◌, ◌≢◌, ◌⊎◌, true, not, List, ◌∷◌, ◌++◌, All, Contains, Result}
use Rattle.gname.specs.Ids.{Id}
use Rattle.gname.specs.Names.{Name}
use Rattle.gpkt.specs.Change.{Change}
use Rattle.gpkt.specs.Packets.{Bytes}
use Rattle.ggrammar.specs.Capabilities.{Capability}
use Rattle.ggrammar.specs.MessageBytes.{known_bytes}
use Rattle.glsreply.specs.RefTexts.{RefLine}
use Rattle.gfetchreply.specs.FetchReplies.{FetchReply}
use Rattle.gobject.specs.declared.node.Entry.{Entry}
use Rattle.gobject.specs.Packs.{Indexes, IndexFails}
use Rattle.gdag.specs.Reach.{Grows, IsConnected}
use Rattle.grefs.specs.Refspecs.{Refspec, destination_of, matches}
use Rattle.gclientrepo.specs.declared.ask.Ask.{Ask}
use Rattle.gclientrepo.specs.declared.ask.RefUpdate.{RefUpdate}
use Rattle.gclientrepo.specs.Asks.{NamesDiffer, asked_ids}
use Rattle.gclientrepo.specs.Repos.{RepoState}
use Rattle.grequest.specs.Asked.{Asked, Fetches, FetchAsked, fetch_has}
use Rattle.grequest.specs.declared.flag.FetchFlag.TheVariants.{NoProgress, OfsDelta}
use Rattle.gsession.specs.Asking.{AreWants, ask_of, asked_of}
use Rattle.gsession.specs.Calls.{Does, GoesOn, HasCalled, IsOpenHave, IsOutOfTurn, IsOver}
use Rattle.gsession.specs.Requesting.{MakesNext, Requests}
use Rattle.gsession.specs.Sessions.{SessionState, Hears, IsOpenFetch, IsSession}
use Rattle.gsession.specs.SettlingRefs.{SettlesSession}
use Rattle.gsession.specs.TakingRefs.{TakesLs}
use Rattle.gsession.specs.TakingReplies.{Awaits, TakesRead, TakesReply}
use Rattle.gfetchreply.specs.FetchHeads.{acknowledged_by}
use Rattle.gsession.specs.declared.options.PackOptions.{PackOptions}
use Rattle.gsession.specs.declared.fault.ClientFault.{ClientFault}
use Rattle.gsession.specs.declared.taken.LsTaken.{LsTaken}
use Rattle.gsession.specs.declared.taken.Taken.{Taken}

-- every call keeps the parameters, the tips and the offered ids of the session
abbrev pub EachGoesOn : {A : Type 0} → Indexes A → IndexFails → Type 0
EachGoesOn {A} indexes index_fails =
    (repo : RepoState A) (old new : SessionState A) → HasCalled indexes index_fails repo old new → GoesOn old new

-- every call has one of the effects that `Does` lists
abbrev pub EachDoes : {A : Type 0} → Indexes A → IndexFails → Type 0
EachDoes {A} indexes index_fails =
    (repo : RepoState A) (old new : SessionState A) → HasCalled indexes index_fails repo old new
    → Does repo.graph.entries old new

-- an open request for objects has the wants and the common ids of the session
abbrev pub OpenIsTheSessions : Type 0 → Type 0
OpenIsTheSessions A =
    (s : SessionState A) (asked : FetchAsked) → IsSession s → Awaits s asked → IsOpenFetch s asked

-- ---- requested updates

-- this requested update comes from applying one refspec to one line
pub record IsAskOf {A : Type 0} (specs : List Refspec) (lines : List RefLine) (ask : Ask A) : Type 0 where
  pub spec : Refspec
  pub line : RefLine
  pub among : Contains specs spec
  pub told : Contains lines line
  pub matched : matches spec line.name ≡ true
  pub is : ask ≡ ask_of spec line

-- each requested update comes from applying one refspec to one line of the reply
abbrev pub AsksAreOfLines : Type 0 → Type 0
AsksAreOfLines A =
    (specs : List Refspec) (lines : List RefLine) → All (IsAskOf {A = A} specs lines) (asked_of specs lines)

-- the refspec does not map the line to this ref
abbrev pub LeadsElsewhere : Name → Refspec → RefLine → Type 0
LeadsElsewhere name spec line = matches spec line.name ≡ true → destination_of spec line.name ≢ name

-- this refspec and this line are the first that lead to their destination ref: no earlier refspec maps any line to that
-- ref, and this refspec maps no earlier line to it
pub record IsFirstFor (specs : List Refspec) (lines : List RefLine) (spec : Refspec) (line : RefLine) : Type 0 where
  pub before : List Refspec
  pub after : List Refspec
  pub specs_are : specs ≡ before ++ spec ∷ after
  pub above : List RefLine
  pub below : List RefLine
  pub lines_are : lines ≡ above ++ line ∷ below
  pub matched : matches spec line.name ≡ true
  pub no_spec : All (λ other. All (LeadsElsewhere (destination_of spec line.name) other) lines) before
  pub no_line : All (LeadsElsewhere (destination_of spec line.name) spec) above

-- each destination ref has exactly one requested update; the first refspec that maps a line to the ref, and its first
-- such line, determine the update
pub record FirstIsAsked (A : Type 0) : Type 0 where
  pub each : (specs : List Refspec) (lines : List RefLine) (spec : Refspec) (line : RefLine) →
      Contains specs spec → Contains lines line → matches spec line.name ≡ true →
      (ask : Ask A) × Contains (asked_of specs lines) ask × (ask.name ≡ destination_of spec line.name)
  pub once : (specs : List Refspec) (lines : List RefLine) → NamesDiffer {A = A} (asked_of specs lines)
  pub first : (specs : List Refspec) (lines : List RefLine) (spec : Refspec) (line : RefLine) →
      IsFirstFor specs lines spec line → Contains {X = Ask A} (asked_of specs lines) (ask_of spec line)

-- each want is a requested id that is not connected, and each requested id that is not wanted is connected
pub record AreExactWants {A : Type 0} (g : List (Entry A)) (asks : List (Ask A)) (wants : List Id) : Type 0 where
  pub asked : All (Contains (asked_ids asks)) wants
  pub missing : All (λ a. ¬ (IsConnected g a)) wants
  pub others : All (λ a. Contains wants a ⊎ IsConnected g a) (asked_ids asks)

-- after a reply, the wants are exactly the requested ids that are not connected
abbrev pub WantsAreExact : Type 0 → Type 0
WantsAreExact A =
    (g : List (Entry A)) (asks : List (Ask A)) (wants : List Id) → AreWants g asks wants
    → AreExactWants g asks wants

-- the bytes of an ls-refs reply, and the result of reading the reply, determine the next state of the session
abbrev pub ListingIsDecided : Type 0 → Type 0
ListingIsDecided A =
    (old one other : SessionState A) (g : List (Entry A)) (bytes left also : Bytes)
    (result : Result (LsTaken A) (ClientFault A)) → TakesLs old g (known_bytes bytes left) one result
    → TakesLs old g (known_bytes bytes also) other result → one ≡ other

-- the session and the graph determine the next request, and the state of the session after it
abbrev pub OneNext : Type 0 → Type 0
OneNext A =
    (g : List (Entry A)) (old new other : SessionState A) (asked also : Asked) → MakesNext old g new asked
    → MakesNext old g other also → (asked ≡ also) × (new ≡ other)

-- the request has `ofs-delta` exactly if the option `ofs_delta` is true, and `no-progress` exactly if the option
-- `progress` is false
pub record AsksAsOptioned (options : PackOptions) (asked : FetchAsked) : Type 0 where
  pub ofs_delta : fetch_has asked OfsDelta ≡ options.ofs_delta
  pub progress : fetch_has asked NoProgress ≡ not options.progress

abbrev pub OptionsAreAsked : Type 0 → Type 0
OptionsAreAsked A =
    (g : List (Entry A)) (old new : SessionState A) (asked : FetchAsked) → MakesNext old g new (Fetches asked)
    → AsksAsOptioned old.options asked

-- ---- haves

-- each have of a request is connected, if the tips and the common ids are connected
abbrev pub HavesAreConnected : Type 0 → Type 0
HavesAreConnected A =
    (g : List (Entry A)) (old new : SessionState A) (asked : FetchAsked) → All (IsConnected g) old.tips
    → All (IsConnected g) old.commons → MakesNext old g new (Fetches asked) → All (IsConnected g) asked.haves

-- each have of a request is a common id, or was not offered before
abbrev pub HavesAreNew : Type 0 → Type 0
HavesAreNew A =
    (g : List (Entry A)) (old new : SessionState A) (asked : FetchAsked) → MakesNext old g new (Fetches asked)
    → All (λ a. Contains old.commons a ⊎ ¬ (Contains old.sent a)) asked.haves

-- ---- common ids

-- the common ids after a reply are the old common ids and the acknowledged ids, which are haves of the request
pub record AreCommonsAfter (haves acks old new : List Id) : Type 0 where
  pub stay : All (Contains new) old
  pub come : All (Contains new) acks
  pub others : All (λ a. Contains old a ⊎ Contains acks a) new
  pub named : All (Contains haves) acks

-- each accepted reply adds exactly its acknowledged ids to the common ids
abbrev pub RepliesAddCommons : {A : Type 0} → Indexes A → IndexFails → Type 0
RepliesAddCommons {A} indexes index_fails =
    (haves : List Id) (old new : SessionState A) (repo after : RepoState A) (reply : FetchReply) (taken : Taken)
    → TakesRead indexes index_fails haves old repo reply new after taken
    → AreCommonsAfter haves (acknowledged_by reply) old.commons new.commons

-- after every call each common id was common before the call, or was a have of the open request
abbrev pub CommonsAreHaves : {A : Type 0} → Indexes A → IndexFails → Type 0
CommonsAreHaves {A} indexes index_fails =
    (repo : RepoState A) (old new : SessionState A) → HasCalled indexes index_fails repo old new
    → All (λ a. Contains old.commons a ⊎ IsOpenHave old a) new.commons

-- ---- the repository

-- the graph only gained objects, and the format, the refs and the marks are unchanged
pub record OnlyGrows {A : Type 0} (old new : RepoState A) : Type 0 where
  pub grows : Grows old.graph.entries new.graph.entries
  pub format : new.graph.format ≡ old.graph.format
  pub refs : new.refs ≡ old.refs
  pub marks : new.known ≡ old.known

-- a reply, accepted or rejected, only adds objects to the repository
abbrev pub TakingOnlyGrows : {A : Type 0} → Indexes A → IndexFails → Type 0
TakingOnlyGrows {A} indexes index_fails =
    (old new : SessionState A) (repo after : RepoState A) (change : Change) (result : Result Taken (ClientFault A))
    → TakesReply indexes index_fails old repo change new after result → OnlyGrows repo after

-- ---- a session that is over

-- a session that is over rejects an advertisement and does not change
abbrev pub OverHearsNone : Type 0 → Type 0
OverHearsNone A =
    (old new : SessionState A) (capabilities : List Capability) (result : Result (Unit {0}) (ClientFault A))
    → IsOver old → Hears old capabilities new result → IsOutOfTurn old new result

-- a session that is over makes no request
abbrev pub OverRequestsNone : Type 0 → Type 0
OverRequestsNone A =
    (g : List (Entry A)) (old new : SessionState A) (result : Result Asked (ClientFault A))
    → IsOver old → Requests old g new result → IsOutOfTurn old new result

-- a session that is over reads no ls-refs reply
abbrev pub OverTakesNoRefs : Type 0 → Type 0
OverTakesNoRefs A =
    (g : List (Entry A)) (old new : SessionState A) (change : Change) (result : Result (LsTaken A) (ClientFault A))
    → IsOver old → TakesLs old g change new result → IsOutOfTurn old new result × (change.new ≡ change.old)

-- a session that is over reads no fetch reply
abbrev pub OverTakesNoReply : {A : Type 0} → Indexes A → IndexFails → Type 0
OverTakesNoReply {A} indexes index_fails =
    (old new : SessionState A) (repo after : RepoState A) (change : Change) (result : Result Taken (ClientFault A))
    → IsOver old → TakesReply indexes index_fails old repo change new after result
    → IsOutOfTurn old new result × (change.new ≡ change.old) × (after ≡ repo)

-- a session that is over updates no refs
abbrev pub OverSettlesNone : Type 0 → Type 0
OverSettlesNone A =
    (old new : SessionState A) (repo after : RepoState A)
    (result : Result (List (Ask A) × List RefUpdate) (ClientFault A))
    → IsOver old → SettlesSession old repo new after result → IsOutOfTurn old new result × (after ≡ repo)
