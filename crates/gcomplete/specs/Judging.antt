-- Ids that a list of ids and types has.
use Rattle.std.specs.Prelude.{List, All, IsSome}
use Rattle.gname.specs.Ids.{Id}
use Rattle.gcomplete.specs.Stores.{Types, kind_at}

-- the list has the id
abbrev pub IsKept : Types → Id → Type 0
IsKept types a = IsSome (kind_at types a)

-- the list has each of these ids
abbrev pub AreKept : Types → List Id → Type 0
AreKept types ids = All (IsKept types) ids
