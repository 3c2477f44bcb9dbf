-- Properties that all calls of a session share.
use Rattle.std.specs.Prelude.{◌≡◌, Bool, true, List, [], ◌++◌, All, Contains, None, Some, Result, Err}
use Rattle.gname.specs.Ids.{Id}
use Rattle.ggrammar.specs.Capabilities.{Capability}
use Rattle.gpkt.specs.Change.{Change}
use Rattle.gobject.specs.Packs.{Indexes, IndexFails}
use Rattle.gclientrepo.specs.declared.ask.Ask.{Ask}
use Rattle.gclientrepo.specs.declared.ask.RefUpdate.{RefUpdate}
use Rattle.gclientrepo.specs.Repos.{RepoState}
use Rattle.glsreply.specs.LsReplies.{LsReply}
use Rattle.gobject.specs.declared.node.Entry.{Entry}
use Rattle.grequest.specs.declared.flag.FetchFlag.TheVariants.{Done}
use Rattle.grequest.specs.Asked.{Asked, Ls, LsRefsAsked, FetchAsked, fetch_has}
use Rattle.gsession.specs.Requesting.{MakesNext, Requests}
use Rattle.gsession.specs.Sessions.{SessionState, Hears, IsBegun, over}
use Rattle.gsession.specs.SettlingRefs.{SettlesSession}
use Rattle.gsession.specs.TakingRefs.{TakesLs, with_refs}
use Rattle.gsession.specs.TakingReplies.{Awaits, TakesReply, after_acks}
use Rattle.gsession.specs.declared.stage.Stage.{Stage}
use Rattle.gsession.specs.declared.stage.Stage.TheVariants.{Over, Settling}
use Rattle.gsession.specs.declared.fault.ClientFault.{ClientFault}
use Rattle.gsession.specs.declared.fault.ClientFault.TheVariants.{NoOpenRequest}
use Rattle.gsession.specs.declared.taken.LsTaken.{LsTaken}
use Rattle.gsession.specs.declared.taken.Taken.{Taken}

-- `new` is the session after one call, successful or not; `repo` is the repository before the call
pub data HasCalled {A : Type 0} (indexes : Indexes A) (index_fails : IndexFails) (repo : RepoState A)
    (old new : SessionState A) : Type 0 where
  heard : (capabilities : List Capability) (result : Result (Unit {0}) (ClientFault A)) →
      Hears old capabilities new result → HasCalled indexes index_fails repo old new
  requested : (result : Result Asked (ClientFault A)) → Requests old repo.graph.entries new result →
      HasCalled indexes index_fails repo old new
  took_refs : (change : Change) (result : Result (LsTaken A) (ClientFault A)) →
      TakesLs old repo.graph.entries change new result → HasCalled indexes index_fails repo old new
  took_reply : (after : RepoState A) (change : Change) (result : Result Taken (ClientFault A)) →
      TakesReply indexes index_fails old repo change new after result → HasCalled indexes index_fails repo old new
  settled : (after : RepoState A) (result : Result (List (Ask A) × List RefUpdate) (ClientFault A)) →
      SettlesSession old repo new after result → HasCalled indexes index_fails repo old new

-- the possible effects of a successful or failed call on a session
pub data Does {A : Type 0} (g : List (Entry A)) (old new : SessionState A) : Type 0 where
  does_nothing : new ≡ old → Does g old new
  does_end : new ≡ over old → Does g old new
  does_hear : (offers : Bool) → IsBegun old → new ≡ record old { offers_unborn = offers } → Does g old new
  does_ask : (asked : Asked) → old.pending ≡ None → MakesNext old g new asked → Does g old new
  does_list : (asked : LsRefsAsked) (reply : LsReply) (wants : List Id) → old.pending ≡ Some (Ls asked)
      → new ≡ with_refs old reply wants → Does g old new
  does_take : (asked : FetchAsked) (stage : Stage) (acks : List Id) → Awaits old asked
      → All (Contains asked.haves) acks
      → (fetch_has asked Done ≡ true → stage ≡ Settling) → new ≡ after_acks old stage acks → Does g old new
  does_settle : old.stage ≡ Settling → new ≡ record (over old) { asks = [] } → Does g old new

-- a call leaves the parameters, the options and the tips of the session unchanged, and keeps all offered ids
pub record GoesOn {A : Type 0} (old new : SessionState A) : Type 0 where
  pub format : new.format ≡ old.format
  pub refspecs : new.refspecs ≡ old.refspecs
  pub limit : new.limit ≡ old.limit
  pub ends : new.ends ≡ old.ends
  pub options : new.options ≡ old.options
  pub tips : new.tips ≡ old.tips
  pub sent : (more : List Id) × (new.sent ≡ old.sent ++ more)

-- the id is a have of the open request
abbrev pub IsOpenHave : {A : Type 0} → SessionState A → Id → Type 0
IsOpenHave s a = (asked : FetchAsked) × Awaits s asked × Contains asked.haves a

-- the session is over
pub record IsOver {A : Type 0} (s : SessionState A) : Type 0 where
  pub stage : s.stage ≡ Over
  pub pending : s.pending ≡ None

-- the call did not fit the stage of the session, failed with `NoOpenRequest` and changed nothing
pub record IsOutOfTurn {A T : Type 0} (old new : SessionState A) (result : Result T (ClientFault A)) : Type 0 where
  pub refused : result ≡ Err NoOpenRequest
  pub same : new ≡ old
