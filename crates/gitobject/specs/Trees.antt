-- Trees: the entries of a directory (gitglossary(7), "tree object"; git-ls-tree(1); git-mktree(1)).
use Rattle.std.specs.Prelude.{◌≡◌, ◌≢◌, ℕ, ◌/◌, ◌%◌, ◌==◌, List, [], ◌∷◌, ◌++◌, All, Option, None, Some, if◌then◌else◌}
use Rattle.std.specs.Str.Parse.{IsNumeral, digits_value}
use Rattle.gname.specs.Ids.{Id, IsIdOf}
use Rattle.gname.specs.declared.formats.Format.TheVariants.{Sha1}
use Rattle.gitobject.specs.declared.types.ObjectType.{ObjectType}
use Rattle.gitobject.specs.declared.types.ObjectType.TheVariants.{Tree, Blob}
use Rattle.gitobject.specs.declared.links.Link.{Link}

-- an entry of a tree
pub record Entry : Type 0 where
  pub mode : List ℕ
  pub name : List ℕ
  pub id : Id

-- the text of an entry: the mode, a space, the name, NUL, and the bytes of the id
abbrev pub entry_text : Entry → List ℕ
entry_text e = e.mode ++ 32 ∷ (e.name ++ 0 ∷ e.id)

-- a well-formed entry: the mode is octal digits, the name is not empty and has no NUL, and the id has twenty bytes
pub record IsEntry (e : Entry) : Type 0 where
  pub mode : IsNumeral 8 e.mode
  pub named : e.name ≢ []
  pub name : All (λ b. b ≢ 0) e.name
  pub id : IsIdOf Sha1 e.id

-- the text begins with the entry, followed by `rest`
pub record BeginsWithEntry (text : List ℕ) (e : Entry) (rest : List ℕ) : Type 0 where
  pub is : IsEntry e
  pub parts : text ≡ entry_text e ++ rest

-- the concatenated texts of the entries
abbrev pub tree_text : List Entry → List ℕ
tree_text [] = []
tree_text (e ∷ entries) = entry_text e ++ tree_text entries

-- a tree: the concatenated texts of its entries
pub record IsTree (body : List ℕ) (entries : List Entry) : Type 0 where
  pub is : body ≡ tree_text entries
  pub each : All IsEntry entries

-- ---- the links of entries

-- the file type in a mode: bits 12 to 15 (inode(7))
abbrev pub file_type : List ℕ → ℕ
file_type mode = digits_value 8 mode / 4096 % 16

-- The type of the object that an entry with this file type links to. A directory links to a tree. A regular file or a
-- symbolic link links to a blob. Git treats any other file type as a gitlink: a commit of another repository, which has
-- no link (gitsubmodules(7)).
abbrev pub linked_type : ℕ → Option ObjectType
linked_type n = if n == 4 then Some Tree else (if n == 8 then Some Blob else (if n == 10 then Some Blob else None))

abbrev pub link_of : ObjectType → Id → Link
link_of kind id = record { id = id; kind = kind }

-- the link to the object with this id and type, or `None` if the type is `None`
abbrev pub link_to : Option ObjectType → Id → Option Link
link_to None id = None
link_to (Some kind) id = Some (link_of kind id)

-- the link of an entry, or `None` for a gitlink
abbrev pub entry_link : Entry → Option Link
entry_link e = link_to (linked_type (file_type e.mode)) e.id
