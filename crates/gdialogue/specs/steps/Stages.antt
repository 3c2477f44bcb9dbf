-- The stages of a dialogue, and the progress from one stage to the next.
use Rattle.std.specs.Prelude.{◌≡◌, ◌≢◌, ◌<◌, ◌≤◌, ◌⊎◌, ℕ}
use Rattle.gdialogue.specs.Dialogues.{left_of, turn_of}
use Rattle.gdialogue.specs.declared.dialogue.DialogueStage.{DialogueStage}

-- the new stage, with `fewer` messages left, is nearer to the end of the dialogue than the old stage, with `messages`
-- left
abbrev pub IsNearerStage : {M R : Type 0} → (R → ℕ) → ℕ → DialogueStage M R → ℕ → DialogueStage M R → Type 0
IsNearerStage calls messages old fewer new =
    ((turn_of new ≡ turn_of old) × ((left_of calls fewer new).turns ≤ (left_of calls messages old).turns)
    × ((left_of calls fewer new).steps < (left_of calls messages old).steps))
    ⊎ ((turn_of new ≢ turn_of old) × ((left_of calls fewer new).turns < (left_of calls messages old).turns))
