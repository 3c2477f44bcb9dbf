-- Installing the files of a pack (gitrepository-layout(5), "objects/pack").
use Rattle.std.specs.Prelude.{◌≡◌, ◌⊎◌, ⊤, ℕ, List, [], ◌∷◌, ◌++◌, Option, None, Some, Result, Ok, Err}

abbrev pub Bytes : Type 0
Bytes = List ℕ

-- the arrival of a pack or of its index in a folder, under the final name
pub data Arrival : Type 0 where
  PackComes : Bytes → Arrival
  IndexComes : Bytes → Arrival

-- the files that arrived in a folder so far, and the bytes of the temporary files
pub record Folder : Type 0 where
  pub arrivals : List Arrival
  pub pack : Bytes
  pub index : Bytes

-- If the first folder is known, the second is also known, and the relation holds between them. If the first folder is
-- unknown, the second is also unknown.
abbrev pub WhereKnown : Option Folder → Option Folder → (Folder → Folder → Type 0) → Type 0
WhereKnown (Some before) (Some after) P = P before after
WhereKnown None None P = ⊤
WhereKnown _ _ P = ⊥

-- between the two states exactly these files arrive in the folder, in this order
abbrev pub Comes : Folder → Folder → List Arrival → Type 0
Comes before after files = after.arrivals ≡ before.arrivals ++ files

-- between the two states no file arrives in the folder, or only this file
abbrev pub MayCome : Folder → Folder → Arrival → Type 0
MayCome before after file = (after.arrivals ≡ before.arrivals) ⊎ Comes before after (file ∷ [])

-- No file gets its final name. If the call succeeds, the temporary pack and the temporary index have the given bytes.
abbrev pub Writes : {E : Type 0} → Bytes → Bytes → Folder → Folder → Result (Unit {0}) E → Type 0
Writes p i before after (Ok done) =
    (after.arrivals ≡ before.arrivals) × (after.pack ≡ p) × (after.index ≡ i)
Writes p i before after (Err fault) = after.arrivals ≡ before.arrivals

-- If the call succeeds, the pack arrives in the folder, and then its index. If the call fails, neither file arrives, or
-- only the pack, or both.
abbrev pub Installs : {E : Type 0} → Bytes → Bytes → Folder → Folder → Result (Unit {0}) E → Type 0
Installs p i before after (Ok done) = Comes before after (PackComes p ∷ IndexComes i ∷ [])
Installs p i before after (Err fault) =
    (after.arrivals ≡ before.arrivals)
    ⊎ (Comes before after (PackComes p ∷ []) ⊎ Comes before after (PackComes p ∷ IndexComes i ∷ []))
