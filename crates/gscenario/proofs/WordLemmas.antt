-- The words of a line.
use Rattle.std.proofs.Common.{◌≡◌, ◌∙◌, ℕ, zero, suc, ◌-◌, ◌<◌, ◌==◌, Bool, true, false, if◌then◌else◌, List, [], ◌∷◌}
use Rattle.std.proofs.Common.{length, take, drop, refl, sym, ap, arith}
use Rattle.std.proofs.Math.Seq.{take-length}
use Rattle.std.proofs.lemmas.List.{length-drop}
use Rattle.std.specs.Str.TwoWay.{Nowhere}
use Rattle.memchr.specs.Find.{Passes, is_byte}
use Rattle.gscenario.specs.ScenarioText.{with_byte, words_of}
use Rattle.gscenario.specs.steps.Reading.{words_after}

off : (b : Bool) → ¬ (b ≡ true) → b ≡ false
off true other = absurd (other refl)
off false other = refl

abbrev choice : ℕ → List (List ℕ) → Bool → List (List ℕ)
choice byte words b = if b then [] ∷ words else with_byte byte words

no_space : (byte : ℕ) (text : List ℕ) → ¬ ((byte == 32) ≡ true)
    → words_of (byte ∷ text) ≡ with_byte byte (words_of text)
no_space byte text other = ap (choice byte (words_of text)) (off (byte == 32) other)

-- a line without a space is a single word
pub words_whole : (text : List ℕ) → Nowhere (Passes (is_byte 32) text) 0 (length text) → words_of text ≡ text ∷ []
words_whole [] none = refl
words_whole (byte ∷ text) none =
    no_space byte text (none 0 (omega arith) (omega arith))
    ∙ ap (with_byte byte) (words_whole text (λ k low high. none (suc k) (omega arith) (omega arith)))

-- the first word ends before the first space
pub words_at : (text : List ℕ) (end : ℕ) → Nowhere (Passes (is_byte 32) text) 0 end → end < length text
    → Passes (is_byte 32) text end → words_of text ≡ take end text ∷ words_after (drop end text)
words_at [] end none inside is = absurd (omega arith)
words_at (byte ∷ text) zero none inside is = ap (choice byte (words_of text)) is
words_at (byte ∷ text) (suc end) none inside is =
    no_space byte text (none 0 (omega arith) (omega arith))
    ∙ ap (with_byte byte) (words_at text end (λ k low high. none (suc k) (omega arith) (omega arith)) (omega arith) is)

-- the slice of a text from position `n` to the end is the text without its first `n` bytes
pub rest_of : (n : ℕ) (text : List ℕ) → take (length text - n) (drop n text) ≡ drop n text
rest_of n text = ap (λ k. take k (drop n text)) (sym (length-drop n text)) ∙ take-length (drop n text)

pub none_after : (text : List ℕ) → words_after (take (length text - length text) (drop (length text) text)) ≡ []
none_after text =
    ap (λ (k : ℕ). words_after (take k (drop (length text) text)))
    (let none : length text - length text ≡ 0 = omega arith in none)
