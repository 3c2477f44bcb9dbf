-- The results and the effects of the calls on a client's repository.
use Rattle.std.specs.Map.{values_of}
use Rattle.std.specs.Prelude.{◌≡◌, ◌⊎◌, Bool, List, [], ◌∷◌, All, Some, Result, Ok, Err}
use Rattle.gname.specs.Ids.{Id}
use Rattle.gname.specs.Names.{Name}
use Rattle.gobject.specs.declared.node.Entry.{Entry}
use Rattle.ggraph.specs.ConnectedRefs.{HasConnectedRefs}
use Rattle.gdag.specs.Graphs.{History, Holds, IsFirstAbsent, IsOrdered}
use Rattle.gdag.specs.Insert.{AddsOne, IsCause}
use Rattle.gdag.specs.Reach.{IsConnected}
use Rattle.gdag.specs.Walks.{Misses}
use Rattle.gdag.specs.declared.fault.GraphFault.TheVariants as graph
use Rattle.grefs.specs.RefLists.{RefList, CannotSet, SetsRef}
use Rattle.grefs.specs.declared.fault.RefsFault.TheVariants as refs
use Rattle.gwalk.specs.Marks.{MarksReached}
use Rattle.gclientrepo.specs.declared.fault.RepoFault.TheVariants.{UnconnectedRef, UnconnectedId, NotConnected, MissingParent, Graph, Refs}
use Rattle.gclientrepo.specs.Repos.{RepoState, IsFirstUnconnected}
use Rattle.gclientrepo.specs.Settling.{CannotSettle, Settles, asked_ids}
use Rattle.gclientrepo.specs.declared.ask.Ask.{Ask}
use Rattle.gclientrepo.specs.declared.ask.RefUpdate.{RefUpdate}
use Rattle.gclientrepo.specs.declared.fault.RepoFault.{RepoFault}

-- the result of making a repository: the repository, the first ref that is not connected, or out of memory
abbrev pub Opens : {A : Type 0} → History A → RefList → Result (RepoState A) (RepoFault A) → Type 0
Opens given given_refs (Ok repo) =
    (repo.graph ≡ given) × (repo.refs ≡ given_refs) × MarksReached given.entries (values_of given_refs) [] repo.known
Opens given given_refs (Err (UnconnectedRef name)) = IsFirstUnconnected given.entries given_refs name
Opens given given_refs (Err (Graph graph.Memory)) = HasConnectedRefs given.entries given_refs ⊎ ¬ (IsOrdered given.entries)
Opens given given_refs (Err _) = ⊥

-- the result of adding an object: whether its id is new, the first missing parent, or the fault of the graph
abbrev pub AddsLocal : {A : Type 0} → RepoState A → Entry A → RepoState A → Result Bool (RepoFault A) → Type 0
AddsLocal old entry new (Ok is_new) =
    All (Holds old.graph.entries) entry.node.parents × AddsOne old.graph entry new.graph (Ok is_new)
    × (new.refs ≡ old.refs) × (new.known ≡ old.known)
AddsLocal old entry new (Err (MissingParent id)) =
    (new ≡ old) × IsFirstAbsent old.graph.entries entry.node.parents id
AddsLocal old entry new (Err (Graph fault)) =
    (new ≡ old) × All (Holds old.graph.entries) entry.node.parents
    × IsCause old.graph.format old.graph.entries entry fault
AddsLocal old entry new (Err _) = ⊥

-- the ids are connected, the graph is unchanged, and every object that the ids reach is now marked
pub record Marks {A : Type 0} (old : RepoState A) (ids : List Id) (new : RepoState A) : Type 0 where
  pub graph : new.graph ≡ old.graph
  pub connected : All (IsConnected old.graph.entries) ids
  pub known : MarksReached old.graph.entries ids old.known new.known

-- only a walk can decide whether the ids are connected, because the graph holds each id, but stores some object before
-- one of its parents
pub record NeedsWalk {A : Type 0} (g : List (Entry A)) (ids : List Id) : Type 0 where
  pub held : All (Holds g) ids
  pub unordered : ¬ (IsOrdered g)

-- the result of setting a ref: success, an id that is missing in the new id's ancestry, a ref that can't be set, or out
-- of memory
abbrev pub SetsLocal : {A : Type 0} → RepoState A → Name → Id → RepoState A → Result (Unit {0}) (RepoFault A) → Type 0
SetsLocal old name id new (Ok _) = Marks old (id ∷ []) new × SetsRef old.refs new.refs name id
SetsLocal old name id new (Err (UnconnectedId missing)) = (new ≡ old) × Misses old.graph.entries (id ∷ []) (Some missing)
SetsLocal old name id new (Err (Refs refs.Refs)) =
    (new ≡ old) × IsConnected old.graph.entries id × CannotSet old.refs name
SetsLocal old name id new (Err (Refs refs.Memory)) =
    (new ≡ old) × IsConnected old.graph.entries id × ¬ (CannotSet old.refs name)
SetsLocal old name id new (Err (Graph graph.Memory)) = (new ≡ old) × NeedsWalk old.graph.entries (id ∷ [])
SetsLocal old name id new (Err _) = ⊥

-- the result of settling: the outcome of each requested update, an id that is missing in the ancestries of the new ids,
-- refs that can't be set, or out of memory
abbrev pub SettlesAsks : {A : Type 0} → RepoState A → List (Ask A) → RepoState A
    → Result (List RefUpdate) (RepoFault A) → Type 0
SettlesAsks old asks new (Ok updates) =
    Marks old (asked_ids asks) new × Settles old.graph.entries old.refs asks updates new.refs
SettlesAsks old asks new (Err (NotConnected missing)) =
    (new ≡ old) × Misses old.graph.entries (asked_ids asks) (Some missing)
SettlesAsks old asks new (Err (Refs refs.Refs)) =
    (new ≡ old) × All (IsConnected old.graph.entries) (asked_ids asks) × CannotSettle old.refs asks
SettlesAsks old asks new (Err (Refs refs.Memory)) =
    (new ≡ old) × All (IsConnected old.graph.entries) (asked_ids asks) × ¬ (CannotSettle old.refs asks)
SettlesAsks old asks new (Err (Graph graph.Memory)) = (new ≡ old) × NeedsWalk old.graph.entries (asked_ids asks)
SettlesAsks old asks new (Err _) = ⊥
