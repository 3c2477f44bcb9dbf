-- The objects of a pack that is read.
use Rattle.std.specs.Prelude.{◌≡◌, ℕ, List, [], ◌++◌, All, Option, MatchOption}
use Rattle.std.specs.Option.{option_to_list}
use Rattle.gcomplete.specs.Batches.{Noted, nothing}
use Rattle.gcomplete.specs.Judging.{IsKept}
use Rattle.gcomplete.specs.Stores.{Types}
use Rattle.gitobject.specs.declared.types.ObjectType.{ObjectType}
use Rattle.gobject.specs.declared.node.Entry.{Entry}
use Rattle.gitmemory.specs.Entries.{HasNoNode, IsEntryOf, IsOfObject}

-- the objects so far, and the entries of the commits and tags
pub record Taken (A : Type 0) : Type 0 where
  pub noted : Noted
  pub entries : List (Entry A)

-- no objects and no entries
abbrev pub nothing_taken : {A : Type 0} → Taken A
nothing_taken = record { noted = nothing; entries = [] }

-- the entry describes an object, and the object is among these ids and types
pub record IsTaken {A : Type 0} (types : Types) (entry : Entry A) : Type 0 where
  pub object : IsOfObject entry
  pub kept : IsKept types entry.id

abbrev pub AreTaken : {A : Type 0} → Types → List (Entry A) → Type 0
AreTaken types entries = All (IsTaken types) entries

-- the entry of an object, or none if the object has no entry
abbrev pub IsFound : {A : Type 0} → ObjectType → List ℕ → Option (Entry A) → Type 0
IsFound kind body found = MatchOption found (HasNoNode kind body) (IsEntryOf kind body)

-- the entry of an object is appended, if the object has an entry
abbrev pub AddsEntryOf : {A : Type 0} → ObjectType → List ℕ → List (Entry A) → List (Entry A) → Type 0
AddsEntryOf {A} kind body old new =
    (found : Option (Entry A)) × IsFound kind body found × (new ≡ old ++ option_to_list found)
