-- Those bytes of a peer's text that a terminal may show.
use Rattle.std.specs.Prelude.{◌≡◌, ℕ, Bool, true, false, ◌==◌, ◌&&◌, ◌||◌, IsTrue, List, ◌++◌, All, map, nat_le}
use Rattle.std.specs.Prelude.{if◌then◌else◌}
use Rattle.gitwords.specs.declared.terminal.Shown.{Shown}
use Rattle.gitwords.specs.declared.terminal.Shown.TheVariants.{Lines, Progress}

-- only progress lines keep carriage returns
abbrev pub keeps_return : Shown → Bool
keeps_return Lines = false
keeps_return Progress = true

-- whether a terminal may show the byte: printable ASCII, a line feed, a tab, and in progress lines a carriage return
abbrev pub is_shown : Shown → ℕ → Bool
is_shown shown b = (nat_le 32 b && nat_le b 126) || b == 10 || b == 9 || (b == 13 && keeps_return shown)

-- the byte itself if a terminal may show it, otherwise a question mark
abbrev pub clean_byte : Shown → ℕ → ℕ
clean_byte shown b = if is_shown shown b then b else 63

-- a text in which a question mark replaces each byte that a terminal may not show
abbrev pub clean_text : Shown → List ℕ → List ℕ
clean_text shown = map (clean_byte shown)

-- cleaning a text in two pieces has the same result as cleaning the whole text, and a cleaned text contains only bytes
-- that a terminal may show
pub record PiecesAreClean : Type 0 where
  pub whole : (shown : Shown) (front back : List ℕ)
      → clean_text shown (front ++ back) ≡ clean_text shown front ++ clean_text shown back
  pub shown : (shown : Shown) (text : List ℕ) → All (λ b. IsTrue (is_shown shown b)) (clean_text shown text)
