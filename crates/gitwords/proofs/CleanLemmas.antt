-- Cleaned texts.
use Rattle.std.proofs.Common.{◌≡◌, ℕ, Bool, true, false, List, [], ◌∷◌, refl}
use Rattle.std.specs.Prelude.{All, IsTrue, if◌then◌else◌}
use Rattle.std.proofs.lemmas.List.{map-append}
use Rattle.std.proofs.lemmas.List.Elements.{All-cons, All-nil}
use Rattle.gitwords.specs.Clean.{PiecesAreClean, clean_byte, clean_text, is_shown}
use Rattle.gitwords.specs.declared.terminal.Shown.{Shown}

-- if `test` accepts `other`, then `test` accepts the selected byte: `b` if `test` accepts `b`, otherwise `other`
picked : (test : ℕ → Bool) (b other : ℕ) (t : Bool) → test b ≡ t → test other ≡ true → test (if t then b else other) ≡ true
picked test b other true here there = here
picked test b other false here there = there

byte_shown : (shown : Shown) (b : ℕ) → IsTrue (is_shown shown (clean_byte shown b))
byte_shown shown b = picked (is_shown shown) b 63 (is_shown shown b) refl refl

all_shown : (shown : Shown) (text : List ℕ) → All (λ b. IsTrue (is_shown shown b)) (clean_text shown text)
all_shown shown [] = All-nil (λ b. IsTrue (is_shown shown b))
all_shown shown (b ∷ text) = All-cons (λ b. IsTrue (is_shown shown b)) (clean_byte shown b) (clean_text shown text) (byte_shown shown b) (all_shown shown text)

pub pieces : PiecesAreClean
pieces = record { whole = λ shown front back. map-append (clean_byte shown) front back; shown = all_shown }
