use Rattle.std.proofs.Common.{◌∙◌, ◌∷◌, ap, sym, take, List, ℕ}
use Rattle.gscenario.specs.steps.Reading.{words_after}
use Rattle.gscenario.proofs.WordLemmas.{none_after, rest_of, words_at, words_whole}
use Rattle.gscenario.proofs.words.first_word.Goals as goal

pub returns-in-Some : goal.returns-in-Some
returns-in-Some c =
    let text = c.args.text.now in
    let end = c.in-Some.end in
    words_at text end c.in-Some.ensures.0.before c.in-Some.ensures.0.high c.in-Some.ensures.1
    ∙ ap (λ (rest : List ℕ). take end text ∷ words_after rest) (sym (rest_of end text))

pub returns-in-None : goal.returns-in-None
returns-in-None c =
    let text = c.args.text.now in
    words_whole text c.in-None.ensures ∙ ap (λ (words : List (List ℕ)). text ∷ words) (sym (none_after text))
