-- The links of objects (gitglossary(7), "commit object", "tree object", "tag object"). A link is the id and the type of
-- another object.
use Rattle.std.specs.Prelude.{◌≡◌, ◌≢◌, ⊤, ℕ, ◌≤◌, List, [], ◌∷◌, ◌++◌, length, map, codes}
use Rattle.std.specs.List.{filter_map}
use Rattle.gname.specs.Ids.{Id}
use Rattle.gitobject.specs.Lines.{BeginsWithId, BeginsWithName, BeginsWithType}
use Rattle.gitobject.specs.Trees.{Entry, IsTree, entry_link, link_of}
use Rattle.gitobject.specs.declared.types.ObjectType.{ObjectType}
use Rattle.gitobject.specs.declared.types.ObjectType.TheVariants.{Commit, Tree, Blob, Tag}
use Rattle.gitobject.specs.declared.links.Link.{Link}
use Rattle.gitobject.specs.declared.fault.ObjectFault.{ObjectFault}
use Rattle.gitobject.specs.declared.fault.ObjectFault.TheVariants as faults

-- the text is not empty, and does not begin with `parent` and a space
pub record GoesOn (text : List ℕ) : Type 0 where
  pub more : text ≢ []
  pub other : (rest : List ℕ) → ¬ (text ≡ codes "parent " ++ rest)

-- the text begins with one line for each parent, followed by text that is not empty and does not begin with `parent`
-- and a space
abbrev pub HasParents : List ℕ → List Id → Type 0
HasParents text [] = GoesOn text
HasParents text (id ∷ ids) = (rest : List ℕ) × BeginsWithId (codes "parent ") text id rest × HasParents rest ids

-- a commit: a tree line, a line for each parent, and other text that is not empty
pub record IsCommit (body : List ℕ) (tree : Id) (parents : List Id) : Type 0 where
  pub rest : List ℕ
  pub names : BeginsWithId (codes "tree ") body tree rest
  pub follows : HasParents rest parents

-- A tag: a line for the tagged object, a line for the type of the object, and a line for the name of the tag. Git
-- rejects a tag of fewer than 64 bytes.
pub record IsTag (body : List ℕ) (target : Id) (kind : ObjectType) : Type 0 where
  pub least : 64 ≤ length body
  pub after_object : List ℕ
  pub after_type : List ℕ
  pub object : BeginsWithId (codes "object ") body target after_object
  pub typed : BeginsWithType after_object kind after_type
  pub named : BeginsWithName after_type

-- The links of an object. A commit links to its tree and then its parents, a tree to the objects of its entries, and a
-- tag to its target. A blob has no links.
abbrev pub LinksOf : ObjectType → List ℕ → List Link → Type 0
LinksOf Commit body links =
    (tree : Id) × (parents : List Id) × IsCommit body tree parents
    × (links ≡ link_of Tree tree ∷ map (link_of Commit) parents)
LinksOf Tree body links = (entries : List Entry) × IsTree body entries × (links ≡ filter_map entry_link entries)
LinksOf Blob body links = links ≡ []
LinksOf Tag body links =
    (target : Id) × (kind : ObjectType) × IsTag body target kind × (links ≡ link_of kind target ∷ [])

-- a fault that a reading function may return: `Malformed` only if the object is malformed, or `Memory` for any object
abbrev pub IsObjectFault : Type 0 → ObjectFault → Type 0
IsObjectFault Reading faults.Malformed = ¬ Reading
IsObjectFault Reading faults.Memory = ⊤
