-- The results of walks over the ancestry of some ids.
use Rattle.std.specs.Prelude.{◌≡◌, ◌≢◌, ℕ, List, [], length, filter, is_some, sum_by, All, Option, None, Some}
use Rattle.std.specs.List.{Any}
use Rattle.gname.specs.Ids.{Id}
use Rattle.gobject.specs.declared.node.Entry.{Entry}
use Rattle.gobject.specs.Objects.{node_at}
use Rattle.gdag.specs.Reach.{Reaches, SomeReaches, IsConnected}
use Rattle.gdag.specs.Levels.{distinct_of}
use Rattle.gdag.specs.Selecting.{Selects}

-- the result of a search for a missing ancestor: `None` if all ids are connected, otherwise a reachable id that the
-- graph lacks
abbrev pub Misses : {A : Type 0} → List (Entry A) → List Id → Option Id → Type 0
Misses g ids None = All (IsConnected g) ids
Misses g ids (Some b) = SomeReaches g ids b × (node_at g b ≡ None)

-- the number of ids in the graph that the given ids reach, and the total number of parents of the reached ids
pub record CountsReached {A : Type 0} (g : List (Entry A)) (ids : List Id) (held parents : ℕ) : Type 0 where
  pub list : List (Entry A)
  pub reached : Selects (λ entry. SomeReaches g ids entry.id) g list
  pub held_are : held ≡ length list
  pub parents_are : parents ≡ sum_by (λ entry. length entry.node.parents) list

-- the common ids (gitprotocol-v2(5), "fetch": `ACK`): the distinct haves that the graph contains, in the order of first
-- occurrence
abbrev pub common_of : {A : Type 0} → List (Entry A) → List Id → List Id
common_of g haves = filter (λ a. is_some (node_at g a)) (distinct_of haves)

-- the server is ready to send a pack (gitprotocol-v2(5), "fetch": `ready`): there are common ids, and each want reaches
-- one of them
pub record IsReady {A : Type 0} (g : List (Entry A)) (wants commons : List Id) : Type 0 where
  pub some : commons ≢ []
  pub each : All (λ want. Any (Reaches g want) commons) wants
