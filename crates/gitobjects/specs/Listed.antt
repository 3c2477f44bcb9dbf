-- The number of times that a folder was listed.
use Rattle.std.specs.Prelude.{◌≡◌, ◌⊎◌, Option}
use Rattle.gitobjects.specs.declared.files.FolderTime.{FolderTime}
use Rattle.gitobjects.specs.declared.listed.Listed.{Listed}
use Rattle.gitobjects.specs.declared.listed.Listed.TheVariants as listed

-- the state of a folder that was listed at least twice since this time, when the names in it last changed
abbrev pub Twice : Option FolderTime → Listed
Twice time = listed.Twice time

-- the names in the folder last changed at this time, and the folder was listed at least once since then
abbrev pub IsListedAt : Option FolderTime → Listed → Type 0
IsListedAt time listed.Never = ⊥
IsListedAt time (listed.Once earlier) = earlier ≡ time
IsListedAt time (listed.Twice earlier) = earlier ≡ time

-- the state `new` after another listing: `Twice` if the names have not changed since an earlier listing, and `Once`
-- otherwise
abbrev pub ListsAgain : Option FolderTime → Listed → Listed → Type 0
ListsAgain time old new =
    (IsListedAt time old × (new ≡ listed.Twice time)) ⊎ (¬ (IsListedAt time old) × (new ≡ listed.Once time))
