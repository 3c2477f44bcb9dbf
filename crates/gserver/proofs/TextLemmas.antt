-- The text of an error packet.
use Rattle.std.proofs.Common.{◌≡◌, ◌≤◌, ◌+◌, ◌-◌, ℕ, List, ◌++◌, length, take, min, sym, ap, ◌∙◌, arith}
use Rattle.std.proofs.lemmas.List.{take_min}
use Rattle.std.proofs.Math.Seq.{take-append-add}
use Rattle.gserver.specs.ErrTexts.{max_text}

-- appended words are cut off at the maximum length of the text
pub added : (old text words new : List ℕ) → old ≡ text → length text ≤ max_text
    → new ≡ text ++ take (min (max_text - length text) (length words)) words → new ≡ take max_text (old ++ words)
added old text words new view few is =
    let all : length text + (max_text - length text) ≡ max_text = omega (arith, few) in
    is ∙ ap (λ l. text ++ l) (take_min (max_text - length text) words)
    ∙ sym (take-append-add text words (max_text - length text))
    ∙ ap (λ n. take n (text ++ words)) all
    ∙ ap (λ l. take max_text (l ++ words)) (sym view)
