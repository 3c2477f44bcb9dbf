-- The written text of packed-refs (git-pack-refs(1)).
use Rattle.std.specs.List.{flat_map}
use Rattle.std.specs.Prelude.{◌≡◌, ℕ, List, [], ◌∷◌, ◌++◌, All, codes, map}
use Rattle.std.specs.Prelude.{Option, None, Some}
use Rattle.gname.specs.Ids.{Id, IsIdOf, id_text}
use Rattle.gname.specs.Names.{Name}
use Rattle.gname.specs.declared.formats.Format.TheVariants.{Sha1}
use Rattle.grefs.specs.RefLists.{IsRefs, RefList, ref_at}
use Rattle.gitrefs.specs.PackedRefs.{PackedLine, PackedLinesOf}

-- the header of a file without peeled ids, which claims that the refs are sorted by name
abbrev pub plain_header : List ℕ
plain_header = codes "# pack-refs with: sorted \n"

abbrev pub peeled_header : List ℕ
peeled_header = codes "# pack-refs with: peeled fully-peeled sorted \n"

-- the text of the line of a ref
abbrev pub line_text : Name → Id → List ℕ
line_text name id = id_text id ++ 32 ∷ (name ++ 10 ∷ [])

-- the text of the line of a peeled id, or the empty text if there is no peeled id
abbrev pub peeled_text : Option Id → List ℕ
peeled_text None = []
peeled_text (Some id) = 94 ∷ (id_text id ++ 10 ∷ [])

-- the text of the line of a ref, without a line for a peeled id
abbrev pub plain_ref_text : Name × Id → List ℕ
plain_ref_text ref = line_text ref.0 ref.1

abbrev pub peeled_ref_text : RefList → Name × Id → List ℕ
peeled_ref_text peeled ref = line_text ref.0 ref.1 ++ peeled_text (ref_at peeled ref.0)

-- the parsed line of a ref without a peeled id
abbrev pub plain_line : Name × Id → PackedLine
plain_line ref = record { name = ref.0; id = ref.1; peeled = None }

abbrev pub peeled_line : RefList → Name × Id → PackedLine
peeled_line peeled ref = record { name = ref.0; id = ref.1; peeled = ref_at peeled ref.0 }

-- the ids of all refs are SHA-1 ids, as packed-refs requires
abbrev pub HasSha1Ids : RefList → Type 0
HasSha1Ids refs = All (λ ref. IsIdOf Sha1 ref.1) refs

abbrev pub LeadsToSha1 : RefList → Type 0
LeadsToSha1 refs = (name : Name) (id : Id) → ref_at refs name ≡ Some id → IsIdOf Sha1 id

-- parsing a written text of packed-refs returns the refs that were written, with and without peeled ids
abbrev pub WrittenRefsReadBack : Type 0
WrittenRefsReadBack = (refs peeled : RefList) → IsRefs refs → HasSha1Ids refs → LeadsToSha1 peeled →
    PackedLinesOf (plain_header ++ flat_map plain_ref_text refs) (map plain_line refs)
    × PackedLinesOf (peeled_header ++ flat_map (peeled_ref_text peeled) refs)
    (map (peeled_line peeled) refs)
