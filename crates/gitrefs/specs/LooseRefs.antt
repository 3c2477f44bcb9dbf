-- The text of a loose ref file (gitrepository-layout(5), "refs"; git-symbolic-ref(1)): an id, or `ref:` and the name of
-- another ref.
use Rattle.std.specs.Prelude.{◌≡◌, ◌⊎◌, ℕ, List, ◌++◌, codes}
use Rattle.gname.specs.Ids.{Id}
use Rattle.gname.specs.Names.{Name, IsRefName}
use Rattle.gitrefs.specs.Ids.{BeginsWithId}
use Rattle.gitrefs.specs.Spaces.{EndsWord, IsBlank}
use Rattle.gitrefs.specs.declared.loose.LooseRef.{LooseRef}
use Rattle.gitrefs.specs.declared.loose.LooseRef.TheVariants as loose

-- the text of a ref file with an id; after the id, the text ends or continues with white space and any bytes
abbrev pub IsIdFile : List ℕ → Id → Type 0
IsIdFile text id = (rest : List ℕ) × BeginsWithId text id rest × EndsWord rest

-- a ref name, possibly with white space before and after it
pub record IsTarget (text : List ℕ) (name : Name) : Type 0 where
  pub before : List ℕ
  pub after : List ℕ
  pub well_formed : IsRefName name
  pub blank_before : IsBlank before
  pub blank_after : IsBlank after
  pub parts : text ≡ before ++ (name ++ after)

-- the text of a symbolic ref file: `ref:` and a ref name
abbrev pub IsSymrefFile : List ℕ → Name → Type 0
IsSymrefFile text name = (target : List ℕ) × (text ≡ codes "ref:" ++ target) × IsTarget target name

-- the value of a ref file: an id, or the name of another ref
abbrev pub LooseRefOf : {A : Type 0} → List ℕ → LooseRef A → Type 0
LooseRefOf text (loose.Id id) = IsIdFile text id
LooseRefOf text (loose.Symref name) = IsSymrefFile text name

-- a valid text of a loose ref file
abbrev pub IsLooseRefFile : List ℕ → Type 0
IsLooseRefFile text = ((id : Id) × IsIdFile text id) ⊎ ((name : Name) × IsSymrefFile text name)
