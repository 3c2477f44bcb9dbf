-- Requests to update refs (git-fetch(1), "<refspec>"). Each `Ask` has the name of a ref, its new id, and whether the
-- update is forced.
use Rattle.std.specs.List.{list_any}
use Rattle.std.specs.Prelude.{◌≡◌, ◌≢◌, ℕ, Bool, List, [], ◌∷◌, ◌++◌, map, slice_get, AllPairs, Some, if◌then◌else◌}
use Rattle.std.specs.Str.{bytes_eq}
use Rattle.gname.specs.Ids.{Id}
use Rattle.gname.specs.Names.{Name}
use Rattle.gclientrepo.specs.declared.ask.Ask.{Ask}
use Rattle.gclientrepo.specs.declared.asks.Aim.{Aim}

-- no two requested updates are for the same ref
abbrev pub NamesDiffer : {A : Type 0} → List (Ask A) → Type 0
NamesDiffer asks = AllPairs (λ ask other. ask.name ≢ other.name) asks

-- the new ids of the requested updates
abbrev pub asked_ids : {A : Type 0} → List (Ask A) → List Id
asked_ids asks = map (λ ask. ask.id) asks

-- whether an update of the ref with this name is requested
abbrev pub is_asked : {A : Type 0} → List (Ask A) → Name → Bool
is_asked asks name = list_any (λ ask. bytes_eq ask.name name) asks

-- the list of requested updates, with the given update appended unless the list already has an update of the same ref
abbrev pub with_ask : {A : Type 0} → List (Ask A) → Ask A → List (Ask A)
with_ask asks ask = if is_asked asks ask.name then asks else asks ++ ask ∷ []

-- the requested update at a position has this ref name and this new id
abbrev pub IsAskAt : {A : Type 0} → List (Ask A) → ℕ → (name : Name) (id : Id) → Type 0
IsAskAt {A} asks place name id =
    (ask : Ask A) × (slice_get asks place ≡ Some ask) × (ask.name ≡ name) × (ask.id ≡ id)

-- the requested update at a position has this force flag
abbrev pub IsForcedAt : {A : Type 0} → List (Ask A) → ℕ → Bool → Type 0
IsForcedAt {A} asks place forced = (ask : Ask A) × (slice_get asks place ≡ Some ask) × (ask.forced ≡ forced)

-- the requested update of the ref with this name, to this new id and with this force flag
abbrev pub ask_of_aim : {A : Type 0} → Name × Aim → Ask A
ask_of_aim pair = record { name = pair.0; id = pair.1.id; forced = pair.1.forced }

-- the requested updates for the entries of a map from ref names to new ids and force flags
abbrev pub asks_of : {A : Type 0} → List (Name × Aim) → List (Ask A)
asks_of pairs = map ask_of_aim pairs
