-- The names in a folder of packs, each followed by a NUL.
use Rattle.std.specs.Prelude.{◌≡◌, ◌≢◌, ◌⊎◌, ℕ, List, [], ◌∷◌, ◌++◌, All, codes}
use Rattle.std.specs.List.Sorted.{IsPermutation}
use Rattle.std.specs.Str.{IsUtf8}
use Rattle.gitobjects.specs.Parts.{IsOfParts}

-- The name of a pack index: the name of the pack with the extension `.idx`. The name of the pack is UTF-8 and has no
-- slash.
pub record IsIndexName (stem name : List ℕ) : Type 0 where
  pub is : name ≡ stem ++ codes ".idx"
  pub plain : All (λ b. b ≢ 47) stem
  pub text : IsUtf8 stem

-- a name that is not the name of a pack index
abbrev pub IsOtherName : List ℕ → Type 0
IsOtherName name = (stem : List ℕ) → ¬ (IsIndexName stem name)

-- `stems` are the names of exactly the packs whose indexes are among these file names, in the same order
abbrev pub AreStems : List (List ℕ) → List (List ℕ) → Type 0
AreStems [] stems = stems ≡ []
AreStems (name ∷ names) stems =
    ((stem : List ℕ) × (more : List (List ℕ)) × IsIndexName stem name × (stems ≡ stem ∷ more) × AreStems names more)
    ⊎ (IsOtherName name × AreStems names stems)

-- `stems` are the names of exactly the packs whose indexes the text lists, in any order
pub record AreListed (text : List ℕ) (stems : List (List ℕ)) : Type 0 where
  pub names : List (List ℕ)
  pub rest : List ℕ
  pub parts : IsOfParts 0 text names rest
  pub found : List (List ℕ)
  pub each : AreStems names found
  pub all : IsPermutation found stems
