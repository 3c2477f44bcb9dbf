-- White space in ref files, as Git defines it.
use Rattle.std.specs.Prelude.{◌≡◌, ◌⊎◌, ℕ, ◌==◌, ◌||◌, not, Bool, true, false, List, [], ◌∷◌, All}

-- whether a byte is a tab, an LF, a CR or a space
abbrev pub is_space : ℕ → Bool
is_space b = b == 9 || b == 10 || b == 13 || b == 32

-- whether a byte is not white space
abbrev pub is_other : ℕ → Bool
is_other b = not (is_space b)

-- a text of only white space, possibly empty
abbrev pub IsBlank : List ℕ → Type 0
IsBlank text = All (λ b. is_space b ≡ true) text

-- a text that is empty or begins with white space, so that a preceding word ends there
abbrev pub EndsWord : List ℕ → Type 0
EndsWord rest = (rest ≡ [])
    ⊎ ((space : ℕ) × (more : List ℕ) × (rest ≡ space ∷ more) × (is_space space ≡ true))

-- a text that does not begin with white space
abbrev pub BeginsWithoutSpace : List ℕ → Type 0
BeginsWithoutSpace text = (first : ℕ) (more : List ℕ) → text ≡ first ∷ more → is_space first ≡ false
