-- The texts of a file after a call that adds a text, and after a call that changes no text.
use Rattle.std.proofs.Common.{◌≡◌, Option, None, Some, refl, subst, sym}
use Rattle.glockfile.specs.Storing.{Adds, Bytes, Holds, KeepsStates, Texts, WhereKnown}

-- a text that a call added is the current text of the file
pub Holds-added : (old new : Option Texts) (text : Bytes) → WhereKnown old new (λ before after. Adds before after text) → Holds new text
Holds-added None None text added = tt
Holds-added None (Some after) text added = absurd added
Holds-added (Some before) None text added = absurd added
Holds-added (Some before) (Some after) text added = (before.states, added)

-- a call that leaves the texts equal does not change the text of the file
kept : (texts : Option Texts) → KeepsStates texts texts
kept None = tt
kept (Some texts) = refl

pub KeepsStates-same : (old new : Option Texts) → new ≡ old → KeepsStates old new
KeepsStates-same old new same = subst (λ (texts : Option Texts). KeepsStates old texts) (sym same) (kept old)
