-- Alternates (gitrepository-layout(5), "objects/info/alternates"): one path per line. Git skips empty lines and lines
-- that begin with `#`.
use Rattle.std.specs.Prelude.{◌≡◌, ℕ, ◌==◌, Bool, false, not, List, [], ◌∷◌, ◌++◌, filter}
use Rattle.gitobjects.specs.Parts.{IsOfParts}

-- whether the line names a folder: an empty line and a comment do not
abbrev pub names_folder : List ℕ → Bool
names_folder [] = false
names_folder (b ∷ line) = not (b == 35)

-- the paths that the alternates file lists, in order
pub record NamesFolders (text : List ℕ) (paths : List (List ℕ)) : Type 0 where
  pub lines : List (List ℕ)
  pub last : List ℕ
  pub parts : IsOfParts 10 text lines last
  pub named : paths ≡ filter names_folder (lines ++ last ∷ [])
