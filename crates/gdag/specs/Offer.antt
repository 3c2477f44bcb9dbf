-- The ids that a client offers as haves (gitprotocol-v2(5), "fetch": `have`).
use Rattle.std.specs.Prelude.{◌≡◌, ℕ, ◌<◌, ◌≤◌, List, length, take, Contains}
use Rattle.std.specs.List.{IsDistinct}
use Rattle.std.specs.Str.{bytes_eq}
use Rattle.gname.specs.Ids.{Id}
use Rattle.gobject.specs.declared.node.Entry.{Entry}
use Rattle.gdag.specs.Graphs.{Holds}
use Rattle.gdag.specs.Reach.{SomeReaches}
use Rattle.gdag.specs.Levels.{AreLevels}
use Rattle.gdag.specs.Selecting.{Selects}

-- an id that may be offered: the graph contains it, no common id reaches it, and it was not sent before
pub record MayBeOffered {A : Type 0} (g : List (Entry A)) (commons sent : List Id) (a : Id) : Type 0 where
  pub held : Holds g a
  pub unknown : ¬ (SomeReaches g commons a)
  pub unsent : ¬ (Contains sent a)

-- the offer: the first n ids that may be offered, in a search from the tips level by level
pub record IsOffer {A : Type 0} (g : List (Entry A)) (tips commons sent : List Id) (n : ℕ)
    (list : List Id) : Type 0 where
  pub ids : List Id
  pub levels : AreLevels g tips ids
  pub choice : List Id
  pub chosen : Selects (MayBeOffered g commons sent) ids choice
  pub first : list ≡ take n choice

-- ---- the properties of an offer

-- The offer is unique. The offer has at most n distinct ids. Each of these ids may be offered, and some tip reaches it.
-- An offer of fewer than n ids contains every id that may be offered and that a tip reaches.
pub record IsExact {A : Type 0} (g : List (Entry A)) (tips commons sent : List Id) (n : ℕ) : Type 0 where
  pub one : (xs ys : List Id) → IsOffer g tips commons sent n xs → IsOffer g tips commons sent n ys → xs ≡ ys
  pub few : (xs : List Id) → IsOffer g tips commons sent n xs → length xs ≤ n
  pub once : (xs : List Id) → IsOffer g tips commons sent n xs → IsDistinct bytes_eq xs
  pub each : (xs : List Id) (a : Id) → IsOffer g tips commons sent n xs → Contains xs a →
      MayBeOffered g commons sent a × SomeReaches g tips a
  pub all : (xs : List Id) (a : Id) → IsOffer g tips commons sent n xs → length xs < n →
      MayBeOffered g commons sent a → SomeReaches g tips a → Contains xs a
