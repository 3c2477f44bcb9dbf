-- The ids of all levels are the ids that a tip reaches.
use Rattle.std.proofs.Common.{◌≡◌, ◌↔◌, ℕ, zero, suc, ◌≤◌, List, [], Contains, subst, inl, inr, eq-or-lt_of_le, arith}
use Rattle.std.proofs.lemmas.List.Elements.{Contains-append_right, Contains-append_cases}
use Rattle.gobject.specs.declared.node.Entry.{Entry}
use Rattle.gdag.specs.Reach.{Reaches, here, onward, SomeReaches}
use Rattle.gdag.specs.Levels.{level, levels_below, Steps}
use Rattle.gdag.proofs.IdLists.{nothing_in_nil, in_or_not}
use Rattle.gdag.proofs.Reaching.{reaches_parent}
use Rattle.gdag.proofs.LevelLaws.{exact_at, levels_end}

-- ---- the ids of all levels

module _ {A : Type 0} (g : List (Entry A)) (tips : List (List ℕ)) where
  steps_on : (b a : List ℕ) → Reaches g b a → (j : ℕ) → Steps g tips j b → (i : ℕ) × Steps g tips i a
  steps_on b a here j path = (j, path)
  steps_on b a (onward {b = c} parent more) j path = steps_on c a more (suc j) (b, path, parent)

  -- an id that some path of at most `count` steps reaches is in a level before the empty level `count`
  settled : (count : ℕ) → level g tips count ≡ [] → (j : ℕ) (a : List ℕ) → j ≤ count → Steps g tips j a → Contains (levels_below g tips count) a
  settled count last j a h path =
      let exact = exact_at g tips count in
      elim (eq-or-lt_of_le h) [
        | inr less ↦ exact.near_back a (j, less, path)
        | inl same ↦ elim (in_or_not (levels_below g tips count) a) [
          | inl before ↦ before
          | inr out ↦ nothing_in_nil a (subst (λ (l : List (List ℕ)). Contains l a) last (exact.at_back a record {
            path = subst (λ (i : ℕ). Steps g tips i a) same path;
            least = λ i less steps. out (exact.near_back a (i, less, steps));
          }))
        ]
      ]

  steps_in : (count : ℕ) → level g tips count ≡ [] → (j : ℕ) (a : List ℕ) → Steps g tips j a → Contains (levels_below g tips count) a
  steps_in count last zero a path = settled count last zero a (omega arith) path
  steps_in count last (suc j) a path =
      let near = (exact_at g tips count).near path.0 (steps_in count last j path.0 path.1) in
      settled count last (suc near.0) a (omega (arith, near.1)) (path.0, near.2, path.2)

  pub reached_in : (count : ℕ) → level g tips count ≡ [] → (a : List ℕ) → SomeReaches g tips a → Contains (levels_below g tips count) a
  reached_in count last a reach =
      let path = steps_on reach.0 a reach.2 zero reach.1 in steps_in count last path.0 a path.1

  steps_reach : (j : ℕ) (a : List ℕ) → Steps g tips j a → SomeReaches g tips a
  steps_reach zero a path = (a, path, here)
  steps_reach (suc j) a path =
      let before = steps_reach j path.0 path.1 in (before.0, before.1, reaches_parent g before.0 path.0 a before.2 path.2)

  pub in_reached : (count : ℕ) (a : List ℕ) → Contains (levels_below g tips count) a → SomeReaches g tips a
  in_reached count a h = let near = (exact_at g tips count).near a h in steps_reach near.0 a near.2

  -- an id of the first `k` levels is in one of these levels
  at_level : (k : ℕ) (a : List ℕ) → Contains (levels_below g tips k) a → (j : ℕ) × Contains (level g tips j) a
  at_level zero a h = nothing_in_nil a h
  at_level (suc k) a h =
      elim (Contains-append_cases (levels_below g tips k) (level g tips k) a h) [
        | inl before ↦ at_level k a before
        | inr at ↦ (k, at)
      ]

  pub levels_are_reached : (a : List ℕ) → ((k : ℕ) × Contains (level g tips k) a) ↔ SomeReaches g tips a
  levels_are_reached a = (
    λ at. in_reached (suc at.0) a (Contains-append_right (levels_below g tips at.0) (level g tips at.0) a at.1),
    λ reach. at_level (levels_end g tips).0 a (reached_in (levels_end g tips).0 (levels_end g tips).1 a reach),
  )
