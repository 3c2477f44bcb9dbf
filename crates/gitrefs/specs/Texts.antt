-- The written text of a ref file (gitrepository-layout(5), "refs").
use Rattle.std.specs.Prelude.{ℕ, List, [], ◌∷◌, ◌++◌, codes}
use Rattle.gname.specs.Ids.{Id, id_text}
use Rattle.gname.specs.Names.{Name}

-- the text of a ref file with an id: the hexadecimal digits of the id, and an LF
abbrev pub ref_text : Id → List ℕ
ref_text id = id_text id ++ 10 ∷ []

-- the text of a symbolic ref file, such as HEAD: `ref: `, the name of the other ref, and an LF
abbrev pub branch_text : Name → List ℕ
branch_text name = codes "ref: " ++ (name ++ 10 ∷ [])
