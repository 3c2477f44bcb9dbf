-- Laws that follow from the definitions of packs.
use Rattle.std.specs.Prelude.{◌≡◌, ℕ, List, ◌++◌, Option, Some}
use Rattle.gitpack.specs.Entries.{IsHead}
use Rattle.gitpack.specs.Indexes.{HasText, Index, IsIndex, ReadsIndex, index_text}
use Rattle.gitpack.specs.declared.entry.EntryForm.{EntryForm}

-- a byte sequence begins with at most one entry header, so a written header can be read back, no matter which bytes
-- follow
abbrev pub HeadsAreOne : Type 0
HeadsAreOne =
    (form other_form : EntryForm) (size other_size : ℕ) (head other rest more : List ℕ)
    → IsHead form size head → IsHead other_form other_size other → head ++ rest ≡ other ++ more
    → (form ≡ other_form) × (size ≡ other_size) × (head ≡ other)

-- the same bytes encode at most one index
abbrev pub IndexesAreOne : Type 0
IndexesAreOne = (text : List ℕ) (a b : Index) → HasText a → HasText b → IsIndex a text → IsIndex b text → a ≡ b

-- the written bytes of an index are read back as the same index, and are never refused
abbrev pub IndexesReadBack : Type 0
IndexesReadBack = (index : Index) (found : Option Index) → HasText index → ReadsIndex (index_text index) found → found ≡ Some index
