-- Consequences of the definitions of a repository and of settling.
use Rattle.std.specs.Prelude.{◌≡◌, Bool, List, All, Some, Ok, Err}
use Rattle.gname.specs.Ids.{Id}
use Rattle.gname.specs.Names.{Name}
use Rattle.gobject.specs.Objects.{IdsDiffer}
use Rattle.gobject.specs.declared.node.Entry.{Entry}
use Rattle.gdag.specs.Graphs.{History}
use Rattle.gdag.specs.Reach.{Grows, IsConnected}
use Rattle.gdag.specs.Walks.{Misses}
use Rattle.grefs.specs.RefLists.{RefList, IsRefs}
use Rattle.gclientrepo.specs.Changes.{AddsLocal, SetsLocal, SettlesAsks}
use Rattle.gclientrepo.specs.Repos.{IsConnectedRepo, RepoState}
use Rattle.gclientrepo.specs.Settling.{Settles}
use Rattle.gclientrepo.specs.declared.ask.Ask.{Ask}
use Rattle.gclientrepo.specs.declared.ask.RefUpdate.{RefUpdate}
use Rattle.gclientrepo.specs.declared.fault.RepoFault.{RepoFault}

-- a repository stays connected when its graph gains objects
abbrev pub ConnectedRepoStays : Type 0 → Type 0
ConnectedRepoStays A =
    (g h : History A) (refs : RefList) (known : List Bool) → Grows g.entries h.entries → IdsDiffer h.entries
    → IsConnectedRepo (record { graph = g; refs = refs; known = known })
    → IsConnectedRepo (record { graph = h; refs = refs; known = known })

-- a repository stays connected when requested ref updates are settled
abbrev pub SettlingStaysConnected : Type 0 → Type 0
SettlingStaysConnected A =
    (old new : RepoState A) (asks : List (Ask A)) (updates : List RefUpdate)
    → IsRefs new.refs → IsConnectedRepo old → SettlesAsks old asks new (Ok updates) → IsConnectedRepo new

-- a repository stays connected when a ref is set
abbrev pub SettingStaysConnected : Type 0 → Type 0
SettingStaysConnected A =
    (old new : RepoState A) (name : Name) (id : Id) → IsConnectedRepo old → SetsLocal old name id new (Ok tt) → IsConnectedRepo new

-- a call that fails leaves the repository unchanged
pub record RefusalsChangeNothing (A : Type 0) : Type 0 where
  pub adding : (old new : RepoState A) (entry : Entry A) (fault : RepoFault A) →
      AddsLocal old entry new (Err fault) → new ≡ old
  pub setting : (old new : RepoState A) (name : Name) (id : Id) (fault : RepoFault A) →
      SetsLocal old name id new (Err fault) → new ≡ old
  pub settling : (old new : RepoState A) (asks : List (Ask A)) (fault : RepoFault A) →
      SettlesAsks old asks new (Err fault) → new ≡ old

-- no id is missing in the ancestries of connected ids
abbrev pub HeldIsNotMissing : Type 0 → Type 0
HeldIsNotMissing A =
    (g : List (Entry A)) (ids : List Id) (missing : Id)
    → All (IsConnected g) ids → ¬ (Misses g ids (Some missing))

-- the graph, the old refs and the requested updates determine the outcomes of settling, and the refs after settling
abbrev pub SettlingIsDecided : Type 0 → Type 0
SettlingIsDecided A =
    (g : List (Entry A)) (old : RefList) (asks : List (Ask A)) (updates others : List RefUpdate) (new other : RefList)
    → IsRefs new → IsRefs other → Settles g old asks updates new → Settles g old asks others other
    → (updates ≡ others) × (new ≡ other)
