-- The state of a walk and its final result. Positions are in insertion order.
use Rattle.std.specs.Prelude.{◌≡◌, ◌≤◌, ◌<◌, ◌↔◌, ℕ, Bool, true, false, List, [], ◌∷◌, length, slice_get}
use Rattle.std.specs.Prelude.{slice_index_or, sum_by, All, Contains, Option, None, Some}
use Rattle.std.specs.List.{filter_map}
use Rattle.gname.specs.Ids.{Id}
use Rattle.gobject.specs.declared.node.Entry.{Entry}
use Rattle.gobject.specs.Objects.{node_at, position_of}
use Rattle.gdag.specs.Graphs.{Holds}
use Rattle.gdag.specs.Levels.{AreLevels}

-- the positions of the ids that the graph contains, in order
abbrev pub places : {A : Type 0} → List (Entry A) → List Id → List ℕ
places g ids = filter_map (position_of g) ids

-- the total number of parents of the entries
abbrev pub parents_in : {A : Type 0} → List (Entry A) → ℕ
parents_in list = sum_by (λ entry. length entry.node.parents) list

-- the entries at marked positions
abbrev pub marked_entries : {A : Type 0} → List (Entry A) → List Bool → List (Entry A)
marked_entries [] marks = []
marked_entries (entry ∷ g) [] = []
marked_entries (entry ∷ g) (true ∷ marks) = entry ∷ marked_entries g marks
marked_entries (entry ∷ g) (false ∷ marks) = marked_entries g marks

-- the marked ids are exactly those that satisfy P
pub record AreMarked {A : Type 0} (P : Id → Type 0) (g : List (Entry A)) (marks : List Bool) : Type 0 where
  pub long : length marks ≡ length g
  pub each : (position : ℕ) (entry : Entry A) → slice_get g position ≡ Some entry →
      (slice_index_or marks position false ≡ true) ↔ P entry.id

-- one of the ids that is not in the graph, or `None` if the graph contains all of the ids
abbrev pub IsLost : {A : Type 0} → List (Entry A) → List Id → Option Id → Type 0
IsLost g ids None = (a : Id) → Contains ids a → Holds g a
IsLost g ids (Some b) = Contains ids b × (node_at g b ≡ None)

-- the state of a walk that has met these ids: marks and distinct positions of those in the graph, an id that is not in
-- the graph, and the total number of parents
pub record HasMet {A : Type 0} (g : List (Entry A)) (ids : List Id) (marks : List Bool) (met : List ℕ)
    (lost : Option Id) (parents : ℕ) : Type 0 where
  pub long : length marks ≡ length g
  pub met_are : met ≡ places g ids
  pub once : length met ≡ length (marked_entries g marks)
  pub few : length met ≤ length g
  pub inside : All (λ position. position < length g) met
  pub lost_is : IsLost g ids lost
  pub parents_are : parents ≡ parents_in (marked_entries g marks)
  pub marked : (a : Id) (p : ℕ) → position_of g a ≡ Some p → (slice_index_or marks p false ≡ true) ↔ Contains ids a

-- the final state of a walk: the walk has met all ids that the starting ids reach
pub record IsWalk {A : Type 0} (g : List (Entry A)) (starts : List Id) (marks : List Bool) (met : List ℕ)
    (lost : Option Id) (parents : ℕ) : Type 0 where
  pub ids : List Id
  pub levels : AreLevels g starts ids
  pub has_met : HasMet g ids marks met lost parents
