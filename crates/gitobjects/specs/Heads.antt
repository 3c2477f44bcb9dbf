-- The first word of a loose object: the name of its type.
use Rattle.std.specs.Prelude.{◌≡◌, ℕ, List, [], ◌∷◌, ◌++◌}
use Rattle.gitobject.specs.Types.{type_name}
use Rattle.gitobject.specs.declared.types.ObjectType.{ObjectType}

-- the text begins with this word
abbrev pub BeginsWith : List ℕ → List ℕ → Type 0
BeginsWith word text = (rest : List ℕ) × (text ≡ word ++ rest)

-- the text begins with the name of the type and a space, like the text of a loose object
abbrev pub BeginsAsObject : List ℕ → ObjectType → Type 0
BeginsAsObject text kind = BeginsWith (type_name kind ++ 32 ∷ []) text
