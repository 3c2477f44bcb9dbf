-- The paths of files that hold objects (gitrepository-layout(5), "objects").
use Rattle.std.specs.Prelude.{ℕ, List, ◌∷◌, ◌++◌, take, drop}
use Rattle.gname.specs.Ids.{Id, id_text}

-- the path of a file with this name in a folder
abbrev pub below : List ℕ → List ℕ → List ℕ
below folder name = folder ++ 47 ∷ name

-- the path of the two-digit folder that holds a loose object, named after the first two digits of the object's id
abbrev pub loose_folder : List ℕ → Id → List ℕ
loose_folder folder id = below folder (take 2 (id_text id))

-- the path of a loose object: a file in its two-digit folder, named after the other digits of the id
abbrev pub loose_path : List ℕ → Id → List ℕ
loose_path folder id = below (loose_folder folder id) (drop 2 (id_text id))
