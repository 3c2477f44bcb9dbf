-- Definitions for the proofs of making a client's repository and of settling: the first unconnected id, and the origin
-- of each new ref.
use Rattle.std.specs.Prelude.{◌⊎◌, List, ℕ, ◌+◌, ◌<◌, All, Contains, length, take}
use Rattle.gname.specs.Ids.{Id}
use Rattle.gobject.specs.declared.node.Entry.{Entry}
use Rattle.gdag.specs.Reach.{IsConnected}
use Rattle.grefs.specs.RefLists.{RefList}

-- the ids before the position are connected, and the id at the position is not connected
pub record IsFirstLost {A : Type 0} (g : List (Entry A)) (ids : List Id) (place : ℕ) : Type 0 where
  pub inside : place < length ids
  pub held : All (IsConnected g) (take place ids)
  pub lost : ¬ (All (IsConnected g) (take (place + 1) ids))

-- each new ref is one of the old refs, or points at one of the ids
abbrev pub ComeFrom : RefList → List Id → RefList → Type 0
ComeFrom others ids refs = All (λ ref. Contains others ref ⊎ Contains ids ref.1) refs
