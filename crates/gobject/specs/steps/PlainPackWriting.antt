-- Definitions for the proofs of writing a plain pack within its maximum length.
use Rattle.std.specs.Prelude.{◌≡◌, ℕ, ◌+◌, ◌<◌, List, Option, MatchOption}
use Rattle.std.specs.List.{flat_map}
use Rattle.gobject.specs.declared.node.Entry.{Entry}
use Rattle.gobject.specs.PlainPackText.{line, node_text}

-- the number of bytes that are left after a text of length `taken`, or `None` if the text is too long
abbrev pub Leaves : ℕ → Option ℕ → ℕ → Type 0
Leaves room result taken = MatchOption result (room < taken) (λ left. left + taken ≡ room)

-- the text of the lines of some entries
abbrev pub nodes_text : {A : Type 0} → List (Entry A) → List ℕ
nodes_text list = flat_map (λ entry. line (node_text entry)) list
