use Rattle.std.proofs.Common.{◌≤◌, ◌∙◌, ◌++◌, ℕ, List, length, take, ap, sym, subst}
use Rattle.gserver.specs.ErrTexts.{max_text}
use Rattle.gserver.specs.Refusals.{max_err_text}
use Rattle.gserver.proofs.LentLemmas.{whole_words}
use Rattle.gserver.proofs.refusal.words_of.Goals as goal

pub returns : goal.returns
returns c =
    let same = c.as_slice.ensures.value in
    whole_words c.as_slice.result.now c.add.new.self (subst (λ (t : List ℕ). length t ≤ max_err_text) (sym same) c.text_of-text.ensures.long)
    (c.add.ensures ∙ ap (λ (w : List ℕ). take max_text (w ++ c.as_slice.result.now)) c.new-words.ensures)
    ∙ (same ∙ c.text_of-text.ensures.text)
