-- The steps of writing a request.
use Rattle.std.specs.Prelude.{ℕ, ◌≤◌, List, length, All}
use Rattle.std.specs.Borrow.{Bor}
use Rattle.ggrammar.specs.Capabilities.{max_capability}

-- the maximum length of a word before a value, in bytes
abbrev pub max_word : ℕ
max_word = 16

-- each text of the table has at most `max_capability` bytes, and fits into a packet even after a word
abbrev pub AreShort : {F : Type 0} → List (F × Bor (List ℕ)) → Type 0
AreShort rows = All (λ row. length row.1.now ≤ max_capability) rows
