-- Definitions for private functions and proofs: a scenario that is read word by word.
use Rattle.std.specs.Prelude.{◌≡◌, ⊤, ℕ, List, [], ◌∷◌, Option, Result, MatchOption, MatchResult}
use Rattle.gscenario.specs.ScenarioText.{AreArguments, command_of, words_of}
use Rattle.gscenario.specs.declared.command.EventWord.{EventWord}
use Rattle.gscenario.specs.declared.event.Event.{Event}

-- the words that follow a word on its line: no words if the line ends, or the words after a space
abbrev pub words_after : List ℕ → List (List ℕ)
words_after [] = []
words_after (space ∷ text) = words_of text

-- the words are not the arguments of any event of the kind that the command denotes
abbrev pub NoArguments : Type 0 → EventWord → List (List ℕ) → Type 0
NoArguments A command words = (event : Event A) → command ≡ command_of event → ¬ (AreArguments event words)

-- the words are the arguments of the event, and the command denotes this kind of event
abbrev pub HasArguments : {A : Type 0} → EventWord → List (List ℕ) → Event A → Type 0
HasArguments command words event = (command ≡ command_of event) × AreArguments event words

-- the result of reading the arguments of a command: an event, `None` if they are malformed, or an error if memory runs
-- out
abbrev pub ReadsArguments : {A E : Type 0} → EventWord → List (List ℕ) → Result (Option (Event A)) E → Type 0
ReadsArguments {A} command words result =
    MatchResult result
    (λ found. MatchOption found (NoArguments A command words) (HasArguments command words))
    (λ _. ⊤)
