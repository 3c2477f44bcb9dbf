-- Definitions for the proofs of the search for the tags to send.
use Rattle.std.specs.Prelude.{◌≡◌, ◌⊎◌, ◌↔◌, ℕ, Bool, true, false, Some, List, length, Contains, slice_index_or}
use Rattle.gname.specs.Ids.{Id}
use Rattle.gobject.specs.declared.node.Entry.{Entry}
use Rattle.gobject.specs.Objects.{position_of}
use Rattle.gdag.specs.Peeling.{IsTagOf, Tags, PeelsTo}

-- the id is a tag in the chain of tags that begins at the tip
pub record IsTagFrom {A : Type 0} (g : List (Entry A)) (tip a : Id) : Type 0 where
  pub steps : ℕ
  pub leads : Tags g steps tip a
  pub next : Id
  pub tag : IsTagOf g a next

-- a chain of tags leads from the id to a commit whose position is marked
pub record LeadsToMarked {A : Type 0} (g : List (Entry A)) (marks : List Bool) (a : Id) : Type 0 where
  pub commit : Id
  pub peels : PeelsTo g a commit
  pub position : ℕ
  pub is_at : position_of g commit ≡ Some position
  pub marked : slice_index_or marks position false ≡ true

-- the id is a tag in the chain of tags from one of the tips to a marked commit
pub record IsTagAmong {A : Type 0} (g : List (Entry A)) (marks : List Bool) (tips : List Id) (a : Id) : Type 0 where
  pub tip : Id
  pub among : Contains tips tip
  pub lead : LeadsToMarked g marks tip
  pub from : IsTagFrom g tip a

-- the marks `new`, with additional marks for the tags in the chains from tips to marked commits
pub record AreTagged {A : Type 0} (g : List (Entry A)) (new : List Bool) (tips : List Id)
    (marks : List Bool) : Type 0 where
  pub long : length marks ≡ length g
  pub each : (position : ℕ) (a : Id) → position_of g a ≡ Some position →
      (slice_index_or marks position false ≡ true) ↔
      ((slice_index_or new position false ≡ true) ⊎ IsTagAmong g new tips a)
