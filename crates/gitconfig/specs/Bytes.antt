-- The bytes of a configuration (git-config(1), "CONFIGURATION FILE", "Syntax").
use Rattle.std.specs.Prelude.{◌≡◌, ⊤, ℕ, ◌==◌, ◌||◌, Bool, true, List, [], ◌∷◌}
use Rattle.std.specs.Char.{is_ascii_alphanumeric}

-- a blank: a space, a tab or a CR
abbrev pub is_blank : ℕ → Bool
is_blank b = b == 32 || b == 9 || b == 13

-- white space: a blank or an LF
abbrev pub is_space : ℕ → Bool
is_space b = is_blank b || b == 10

-- a byte that a variable name may contain: a letter, a digit or `-`
unfoldable pub is_name_byte : ℕ → Bool
is_name_byte b = is_ascii_alphanumeric b || b == 45

-- a byte that a section name may contain: a byte of a variable name, or a dot
unfoldable pub is_section_byte : ℕ → Bool
is_section_byte b = is_name_byte b || b == 46

-- a byte that begins a comment: `#` or `;`
abbrev pub is_mark : ℕ → Bool
is_mark b = b == 35 || b == 59

-- the text is empty, or begins with a byte for which `p` holds
abbrev pub IsEndOr : (ℕ → Bool) → List ℕ → Type 0
IsEndOr p [] = ⊤
IsEndOr p (b ∷ rest) = p b ≡ true

-- the line before this text is complete: the text is empty or begins with an LF
abbrev pub EndsLine : List ℕ → Type 0
EndsLine rest = IsEndOr (λ b. b == 10) rest

-- the value before this text is complete: the text is empty, or begins with an LF or a comment
abbrev pub EndsValue : List ℕ → Type 0
EndsValue rest = IsEndOr (λ b. b == 10 || is_mark b) rest
