-- The paths of the files in a Git directory.
use Rattle.std.specs.Prelude.{◌≡◌, ◌≢◌, ℕ, List, [], ◌∷◌, ◌++◌, codes}
use Rattle.gname.specs.Components.{IsComponent}
use Rattle.gname.specs.Names.{IsRefName}

-- a path that consists of the directory, a slash and the name
abbrev pub PathIsBelow : List ℕ → List ℕ → List ℕ → Type 0
PathIsBelow directory path name = path ≡ directory ++ 47 ∷ name

-- a component of a path; it is neither empty nor `.` nor `..`
pub record Descends (part : List ℕ) : Type 0 where
  pub named : part ≢ []
  pub goes : part ≢ codes "."
  pub below : part ≢ codes ".."

-- no component of a ref name is empty, `.` or `..`
abbrev pub NamesDescend : Type 0
NamesDescend = (name : List ℕ) → IsRefName name →
    (place : ℕ) (part : List ℕ) → IsComponent name place part → Descends part
