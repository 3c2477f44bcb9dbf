-- Marks of ids, stored by the positions of the ids in insertion order. A position past the end is unmarked.
use Rattle.std.specs.Prelude.{◌≡◌, ◌≤◌, ◌⊎◌, ◌↔◌, ℕ, Bool, true, false, cond, List, [], ◌∷◌, length, slice_get, All}
use Rattle.std.specs.Prelude.{slice_index_or, sum_by, Contains, Some}
use Rattle.gname.specs.Ids.{Id}
use Rattle.gobject.specs.declared.node.Entry.{Entry}
use Rattle.gobject.specs.Objects.{entry_of, node_of, position_of, IdsDiffer}
use Rattle.gdag.specs.Graphs.{HasParent}
use Rattle.gdag.specs.Reach.{Reaches, IsConnected, SomeReaches, Grows}
use Rattle.gdag.specs.Selecting.{Selects}
use Rattle.gdag.specs.Walks.{CountsReached}

-- each marked position is the position of a connected id
abbrev pub AreConnected : {A : Type 0} → List (Entry A) → List Bool → Type 0
AreConnected {A} g marks =
    (position : ℕ) → slice_index_or marks position false ≡ true →
    (entry : Entry A) × (slice_get g position ≡ Some entry) × IsConnected g entry.id

-- the graph in which marked objects have no parents
abbrev pub stop_at : {A : Type 0} → List Bool → List (Entry A) → List (Entry A)
stop_at [] g = g
stop_at (mark ∷ marks) [] = []
stop_at (mark ∷ marks) (entry ∷ g) =
    cond mark (entry_of entry.id (node_of entry.node.kind [])) entry ∷ stop_at marks g

-- the graph contains the id, and the id's position is unmarked
abbrev pub IsUnmarked : {A : Type 0} → List (Entry A) → List Bool → Id → Type 0
IsUnmarked g marks a = (position : ℕ) × (position_of g a ≡ Some position) × (slice_index_or marks position false ≡ false)

-- reachability that does not continue past marked ids: an id reaches itself, and an unmarked id in the graph reaches
-- all that its parents reach
pub data ReachesPast {A : Type 0} (g : List (Entry A)) (marks : List Bool) : Id → Id → Type 0 where
  there : {a : Id} → ReachesPast g marks a a
  further : {a b c : Id} → IsUnmarked g marks a → HasParent g a b →
      ReachesPast g marks b c → ReachesPast g marks a c

-- one of the ids reaches `b` by a path that does not continue past marked ids
abbrev pub SomeReachesPast : {A : Type 0} → List (Entry A) → List Bool → List Id → Id → Type 0
SomeReachesPast g marks ids b = (a : Id) × Contains ids a × ReachesPast g marks a b

-- the number of ids of the graph that the given ids reach without continuing past marked ids, and the number of parents
-- of the unmarked ids among them
pub record CountsPast {A : Type 0} (g : List (Entry A)) (marks : List Bool) (ids : List Id)
    (held parents : ℕ) : Type 0 where
  pub list : List (Entry A)
  pub reached : Selects (λ entry. SomeReachesPast g marks ids entry.id) g list
  pub held_are : held ≡ length list
  pub left : List (Entry A)
  pub unmarked : Selects (λ entry. IsUnmarked g marks entry.id) list left
  pub parents_are : parents ≡ sum_by (λ entry. length entry.node.parents) left

-- a walk that does not continue past marked objects is equivalent to a walk in the graph in which marked objects have
-- no parents
abbrev pub StopsAtMarks : Type 0 → Type 0
StopsAtMarks A =
    (g : List (Entry A)) (marks : List Bool)
    → ((a b : Id) → Reaches (stop_at marks g) a b ↔ ReachesPast g marks a b)
    × ((ids : List Id) (held parents : ℕ) → IdsDiffer g
    → CountsReached (stop_at marks g) ids held parents → CountsPast g marks ids held parents)

-- every id of the graph that one of the given ids reaches is now marked, and the other marks are unchanged
pub record MarksReached {A : Type 0} (g : List (Entry A)) (ids : List Id) (old new : List Bool) : Type 0 where
  pub each : (position : ℕ) (entry : Entry A) → slice_get g position ≡ Some entry →
      (slice_index_or new position false ≡ true) ↔ ((slice_index_or old position false ≡ true) ⊎ SomeReaches g ids entry.id)
  pub others : (position : ℕ) → length g ≤ position → slice_index_or new position false ≡ slice_index_or old position false

-- connected marked ids stay connected when the graph grows
abbrev pub MarksStayConnected : Type 0 → Type 0
MarksStayConnected A = (g h : List (Entry A)) (marks : List Bool) → Grows g h → AreConnected g marks → AreConnected h marks

-- the marks cover the ids: every id of the graph that one of the given ids reaches is marked
abbrev pub Covers : {A : Type 0} → List (Entry A) → List Id → List Bool → Type 0
Covers {A} g ids marks =
    (position : ℕ) (entry : Entry A) → slice_get g position ≡ Some entry → SomeReaches g ids entry.id
    → slice_index_or marks position false ≡ true

-- marks still cover the same connected ids when the graph grows
abbrev pub CoveringStays : Type 0 → Type 0
CoveringStays A =
    (g h : List (Entry A)) (ids : List Id) (marks : List Bool)
    → Grows g h → IdsDiffer h → All (IsConnected g) ids → Covers g ids marks → Covers h ids marks
