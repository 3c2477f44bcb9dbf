-- Selection of the elements of a list that satisfy a property.
use Rattle.std.specs.Prelude.{List, [], ◌∷◌}

-- the second list has exactly the elements of the first that satisfy P, in order
pub data Selects {X : Type 0} (P : X → Type 0) : List X → List X → Type 0 where
  none : Selects P [] []
  keep : {x : X} {xs ys : List X} → P x → Selects P xs ys → Selects P (x ∷ xs) (x ∷ ys)
  skip : {x : X} {xs ys : List X} → ¬ (P x) → Selects P xs ys → Selects P (x ∷ xs) ys
