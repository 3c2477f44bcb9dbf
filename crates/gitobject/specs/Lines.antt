-- The lines at the start of commits and tags.
use Rattle.std.specs.Prelude.{◌≡◌, ℕ, List, ◌∷◌, ◌++◌, codes}
use Rattle.gname.specs.Ids.{Id, IsIdTextOf}
use Rattle.gname.specs.declared.formats.Format.TheVariants.{Sha1}
use Rattle.gitobject.specs.Types.{type_name}
use Rattle.gitobject.specs.declared.types.ObjectType.{ObjectType}

-- the text begins with a line of this word and the forty digits of the id, followed by `rest`
pub record BeginsWithId (word text : List ℕ) (id : Id) (rest : List ℕ) : Type 0 where
  pub digits : List ℕ
  pub spells : IsIdTextOf Sha1 digits id
  pub parts : text ≡ word ++ (digits ++ 10 ∷ rest)

-- the text begins with a line of the word `type` and the name of the type, followed by `rest`
abbrev pub BeginsWithType : List ℕ → ObjectType → List ℕ → Type 0
BeginsWithType text kind rest = text ≡ codes "type " ++ (type_name kind ++ 10 ∷ rest)

-- the text begins with a line of the word `tag` and a name, which may be empty
abbrev pub BeginsWithName : List ℕ → Type 0
BeginsWithName text = (name rest : List ℕ) × (text ≡ codes "tag " ++ (name ++ 10 ∷ rest))
