-- Definitions for the proofs of the search for common ids.
use Rattle.std.specs.Prelude.{◌≡◌, ◌↔◌, ℕ, Bool, true, false, List, length, slice_get, slice_index_or}
use Rattle.std.specs.Prelude.{Contains, None, Some}
use Rattle.std.specs.List.{filter_map}
use Rattle.std.specs.Option.{option_map}
use Rattle.gname.specs.Ids.{Id}
use Rattle.gobject.specs.declared.node.Entry.{Entry}
use Rattle.gobject.specs.Objects.{node_at, position_of}

-- the ids at the given positions, in order
abbrev pub ids_at : {A : Type 0} → List (Entry A) → List ℕ → List Id
ids_at g numbers = filter_map (λ position. option_map (λ entry. entry.id) (slice_get g position)) numbers

-- the ids that a walk searches for: marks at the positions of those ids that the graph contains, and a list of the
-- other ids
pub record AreGoals {A : Type 0} (g : List (Entry A)) (ids : List Id) (marks : List Bool)
    (absent : List Id) : Type 0 where
  pub long : length marks ≡ length g
  pub marked : (a : Id) (p : ℕ) → position_of g a ≡ Some p →
      (slice_index_or marks p false ≡ true) ↔ Contains ids a
  pub others : (a : Id) → Contains absent a ↔ (Contains ids a × (node_at g a ≡ None))
