-- The laws of plain packs.
use Rattle.std.specs.Prelude.{◌≡◌, ℕ, List}
use Rattle.gobject.specs.declared.node.Entry.{Entry}
use Rattle.gobject.specs.PlainPackText.{IsPack, IsBadLine}

-- a sequence of bytes is the plain pack of at most one list of entries
abbrev pub PacksHaveOneReading : Type 0 → Type 0
PacksHaveOneReading A = (bytes : List ℕ) (a b : List (Entry A)) → IsPack bytes a → IsPack bytes b → a ≡ b

-- a plain pack has no bad line
abbrev pub PacksHaveNoBadLine : Type 0 → Type 0
PacksHaveNoBadLine A = (bytes : List ℕ) (list : List (Entry A)) (at : ℕ) → IsPack bytes list → IsBadLine A bytes at → ⊥

-- a sequence of bytes has at most one bad line, so an indexer reports the same line however the bytes are split into
-- pieces
abbrev pub BadLinesHaveOnePlace : Type 0 → Type 0
BadLinesHaveOnePlace A = (bytes : List ℕ) (a b : ℕ) → IsBadLine A bytes a → IsBadLine A bytes b → a ≡ b
