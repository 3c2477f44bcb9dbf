-- The numbers of a command line.
use Rattle.std.specs.Prelude.{◌≡◌, ℕ, List}
use Rattle.std.specs.Str.Parse.{IsNumeral, digits_value}

-- the text consists of one or more decimal digits, which denote the number
abbrev pub Denotes : List ℕ → ℕ → Type 0
Denotes text number = IsNumeral 10 text × (digits_value 10 text ≡ number)
