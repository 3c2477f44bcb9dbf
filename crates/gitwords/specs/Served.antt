-- The directories that the path of a request may name (git-daemon(1), "--base-path").
use Rattle.std.specs.Prelude.{◌≡◌, ◌⊎◌, ℕ, Bool, ◌==◌, ◌&&◌, IsTrue, List, ◌∷◌, [], ◌++◌, length, codes, nat_eq, not}
use Rattle.std.specs.List.{list_all, slice_split, starts_with}
use Rattle.std.specs.Str.{bytes_eq}
use Rattle.gitwords.specs.declared.served.Ending.{Ending}
use Rattle.gitwords.specs.declared.served.Ending.TheVariants.{DotGit, Itself, BareDotGit, Bare}

abbrev pub is_slash : ℕ → Bool
is_slash b = b == 47

-- the components of a path: the parts between its slashes
abbrev pub components : List ℕ → List (List ℕ)
components path = slice_split is_slash path

-- a component that a request may name: it is not empty and does not begin with a dot
abbrev pub is_name : List ℕ → Bool
is_name part = not (length part == 0) && not (starts_with nat_eq part (codes "."))

-- A path of a request: a slash, and components that a request may name, with slashes between them. The path may end
-- with one more slash.
pub record IsServedPath (path rest : List ℕ) : Type 0 where
  pub parts : (path ≡ 47 ∷ rest) ⊎ (path ≡ 47 ∷ (rest ++ 47 ∷ []))
  pub names : IsTrue (list_all is_name (components rest))

-- a path of a request names at most one directory
abbrev pub PathsHaveOneReading : Type 0
PathsHaveOneReading = (path rest other : List ℕ) → IsServedPath path rest → IsServedPath path other → rest ≡ other

-- The directory names that Git tries for a path, in order: the path's `.git` subdirectory, the path itself, and then
-- both with `.git` appended to the path.
abbrev pub ending_text : Ending → List ℕ
ending_text DotGit = codes "/.git"
ending_text Itself = []
ending_text BareDotGit = codes ".git/.git"
ending_text Bare = codes ".git"

abbrev pub endings : List Ending
endings = DotGit ∷ Itself ∷ BareDotGit ∷ Bare ∷ []

-- a component that leads to a subdirectory: it is not empty, `.` or `..`
abbrev pub leads_down : List ℕ → Bool
leads_down part = not (length part == 0) && not (bytes_eq part (codes ".")) && not (bytes_eq part (codes ".."))

-- each component of a relative path leads to a subdirectory, so the path can't leave the base directory
abbrev pub StaysBelow : List ℕ → Type 0
StaysBelow path = IsTrue (list_all leads_down (components path))
