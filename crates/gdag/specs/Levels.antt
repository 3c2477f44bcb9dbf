-- The ids that the given tips reach, level by level: first the tips, then the parents of the tips, and so on.
use Rattle.std.specs.Prelude.{◌≡◌, ◌↔◌, ℕ, ◌+◌, ◌<◌, ◌≤◌, zero, suc, Bool, cond, List, [], ◌∷◌, ◌++◌, length}
use Rattle.std.specs.Prelude.{Contains, unwrap_or}
use Rattle.std.specs.List.{flat_map, list_any, IsDistinct}
use Rattle.std.specs.Option.{option_map}
use Rattle.std.specs.Str.{bytes_eq}
use Rattle.gname.specs.Ids.{Id}
use Rattle.gobject.specs.declared.node.Entry.{Entry}
use Rattle.gobject.specs.Objects.{node_at}
use Rattle.gdag.specs.Graphs.{HasParent}

-- whether the list contains the id
abbrev pub is_in : List Id → Id → Bool
is_in ids a = list_any (λ b. bytes_eq b a) ids

-- the distinct ids in the order of first occurrence, without the ids of `earlier`
abbrev pub new_ids : List Id → List Id → List Id
new_ids earlier [] = []
new_ids earlier (a ∷ ids) = cond (is_in earlier a) (new_ids earlier ids) (a ∷ new_ids (earlier ++ a ∷ []) ids)

-- the distinct ids of a list, in the order of first occurrence
abbrev pub distinct_of : List Id → List Id
distinct_of ids = new_ids [] ids

-- the parents of an id, in order; an id that the graph does not contain has no parents
abbrev pub parents_of : {A : Type 0} → List (Entry A) → Id → List Id
parents_of g a = unwrap_or (option_map (λ node. node.parents) (node_at g a)) []

-- the parents of all ids in the list: first the parents of the first id, then the parents of the second, and so on
abbrev pub parents_of_each : {A : Type 0} → List (Entry A) → List Id → List Id
parents_of_each g ids = flat_map (parents_of g) ids

-- one level of the search: the ids of all earlier levels, and the ids of this level
pub record Depth : Type 0 where
  pub before : List Id
  pub ids : List Id

-- all ids of the earlier levels and of this level
abbrev pub down_to : Depth → List Id
down_to depth = depth.before ++ depth.ids

-- the next level: the parents of this level's ids, each once, without the ids of this level and of earlier levels
abbrev pub next_depth : {A : Type 0} → List (Entry A) → Depth → Depth
next_depth g depth = record { before = down_to depth; ids = new_ids (down_to depth) (parents_of_each g depth.ids) }

-- level k with the ids of all earlier levels; level 0 has the tips in order, each once
abbrev pub depth_at : {A : Type 0} → List (Entry A) → List Id → ℕ → Depth
depth_at g tips zero = record { before = []; ids = distinct_of tips }
depth_at g tips (suc k) = next_depth g (depth_at g tips k)

-- the ids in level k
abbrev pub level : {A : Type 0} → List (Entry A) → List Id → ℕ → List Id
level g tips k = (depth_at g tips k).ids

-- the ids of the first k levels, in order
abbrev pub levels_below : {A : Type 0} → List (Entry A) → List Id → ℕ → List Id
levels_below g tips k = (depth_at g tips k).before

-- `ids` is the list of the ids of all nonempty levels, in order
pub record AreLevels {A : Type 0} (g : List (Entry A)) (tips ids : List Id) : Type 0 where
  pub count : ℕ
  pub joined : ids ≡ levels_below g tips count
  pub last : level g tips count ≡ []

-- ---- the distance of an id from the tips

-- a path of k steps leads from some tip to the id, where each step leads from an id in the graph to a parent
abbrev pub Steps : {A : Type 0} → List (Entry A) → List Id → ℕ → Id → Type 0
Steps g tips zero a = Contains tips a
Steps g tips (suc k) a = (b : Id) × Steps g tips k b × HasParent g b a

-- the shortest path from the tips to the id has k steps
pub record IsAtDistance {A : Type 0} (g : List (Entry A)) (tips : List Id) (k : ℕ) (a : Id) : Type 0 where
  pub path : Steps g tips k a
  pub least : (j : ℕ) → j < k → ¬ (Steps g tips j a)

-- Level k has exactly the ids at distance k. No id occurs twice, either in one level or in two levels. All levels
-- together have at most as many ids as there are tips and parents in the graph. From some level on, all levels are
-- empty.
pub record AreDistances {A : Type 0} (g : List (Entry A)) (tips : List Id) : Type 0 where
  pub exact : (k : ℕ) (a : Id) → Contains (level g tips k) a ↔ IsAtDistance g tips k a
  pub once : (k : ℕ) → IsDistinct bytes_eq (levels_below g tips k)
  pub few : (k : ℕ) → length (levels_below g tips k) ≤ length tips + length (flat_map (λ entry. entry.node.parents) g)
  pub ends : (k : ℕ) × (level g tips k ≡ [])
  pub stays : (j k : ℕ) → j ≤ k → level g tips j ≡ [] → level g tips k ≡ []
