-- The texts of a stored file and of its lockfile, and the effects of calls on them.
use Rattle.std.specs.Prelude.{◌≡◌, ◌≢◌, ◌⊎◌, ℕ, List, [], ◌∷◌, ◌++◌, ⊤, Option, None, Some, IfSome, Result, Ok, Err}

abbrev pub Bytes : Type 0
Bytes = List ℕ

-- each text that the file has had (the current text last), and the text most recently written to the lockfile
pub record Texts : Type 0 where
  pub states : List Bytes
  pub written : Bytes

-- if the texts are known, the relation holds between the texts before and after a call; known texts remain known, and
-- unknown texts remain unknown
abbrev pub WhereKnown : Option Texts → Option Texts → (Texts → Texts → Type 0) → Type 0
WhereKnown (Some before) (Some after) P = P before after
WhereKnown None None P = ⊤
WhereKnown _ _ P = ⊥

-- the call adds no text to the texts that the file has had, if these texts are known
abbrev pub KeepsStates : Option Texts → Option Texts → Type 0
KeepsStates old new = WhereKnown old new (λ before after. after.states ≡ before.states)

-- the file currently has this text, if the file's texts are known
abbrev pub Holds : Option Texts → Bytes → Type 0
Holds texts text = IfSome texts (λ known. (earlier : List Bytes) × (known.states ≡ earlier ++ text ∷ []))

-- the lockfile has this text, if the texts are known
abbrev pub HasWritten : Option Texts → Bytes → Type 0
HasWritten texts text = IfSome texts (λ known. known.written ≡ text)

-- this text replaces the current text of the file
abbrev pub Adds : Texts → Texts → Bytes → Type 0
Adds before after text = after.states ≡ before.states ++ text ∷ []

-- the file is unchanged, or this text replaces its text
abbrev pub MayAdd : Texts → Texts → Bytes → Type 0
MayAdd before after text = (after.states ≡ before.states) ⊎ Adds before after text

-- the effect of a rename: the file gets the text of the lockfile; if the rename failed, the file may be unchanged
abbrev pub Renames : {E : Type 0} → Texts → Texts → Result (Unit {0}) E → Type 0
Renames before after (Ok done) = Adds before after before.written
Renames before after (Err fault) = MayAdd before after before.written

-- The effect of replacing an old text by a new text. The file always has the old text or the whole new text. If both
-- texts are equal, nothing is written. Otherwise the file gets the new text, or the call fails.
abbrev pub Replaces : {E : Type 0} → Bytes → Bytes → Texts → Texts → Result (Unit {0}) E → Type 0
Replaces old new before after (Ok done) =
    ((old ≡ new) × (after.states ≡ before.states)) ⊎ ((old ≢ new) × Adds before after new)
Replaces old new before after (Err fault) = (old ≢ new) × MayAdd before after new
