-- Objects that are read again.
use Rattle.std.specs.Prelude.{◌≡◌, ◌⊎◌, Some}
use Rattle.gname.specs.Ids.{Id}
use Rattle.gcomplete.specs.Stores.{GitObject, Store, Types}
use Rattle.gcomplete.specs.Naming.{IsCollision, text_of}
use Rattle.gcomplete.specs.Batches.{AreJudged}

-- the object is the one that the store has under the id, or the texts of the two objects are a collision
pub record IsSame (objects : Store) (a : Id) (o : GitObject) : Type 0 where
  pub judged : GitObject
  pub held : objects a ≡ Some judged
  pub same : (judged ≡ o) ⊎ IsCollision (text_of judged) (text_of o)

-- the same for each closed store with these ids and types
abbrev pub IsReadAgain : Types → Id → GitObject → Type 0
IsReadAgain types a o = (objects : Store) → AreJudged types objects → IsSame objects a o
