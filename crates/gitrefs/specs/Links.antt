-- Files that name another directory (gitrepository-layout(5), "commondir"; git-worktree(1), "DETAILS").
use Rattle.std.specs.Prelude.{◌≡◌, ℕ, Bool, List, [], ◌∷◌, ◌++◌, ◌||◌, ◌==◌, All, codes, true, false}

-- whether a byte is a line feed or a carriage return
abbrev pub is_line_end : ℕ → Bool
is_line_end b = (b == 10) || (b == 13)

-- the text is a path that is not empty, followed by any number of line feeds and carriage returns; the path itself does
-- not end with these bytes
pub record IsPathFile (text path : List ℕ) : Type 0 where
  pub front : List ℕ
  pub last : ℕ
  pub ends : List ℕ
  pub is_path : path ≡ front ++ last ∷ []
  pub not_end : is_line_end last ≡ false
  pub all_ends : All (λ b. is_line_end b ≡ true) ends
  pub parts : text ≡ path ++ ends

-- the text of a `.git` file: `gitdir: ` and a path
abbrev pub IsGitFile : List ℕ → List ℕ → Type 0
IsGitFile text path = (rest : List ℕ) × (text ≡ codes "gitdir: " ++ rest) × IsPathFile rest path
