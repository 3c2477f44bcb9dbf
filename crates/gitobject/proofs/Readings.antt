-- Objects can be read in only one way.
use Rattle.std.proofs.Common.{◌≡◌, ℕ, List, [], ◌∷◌, ◌++◌, codes, refl, sym, subst, ◌∙◌}
use Rattle.gname.specs.Ids.{Id}
use Rattle.gitobject.specs.Laws.{LinksAreOne}
use Rattle.gitobject.specs.Lines.{BeginsWithId, BeginsWithName, BeginsWithType}
use Rattle.gitobject.specs.Links.{HasParents, IsCommit, IsObjectFault, IsTag}
use Rattle.gitobject.specs.declared.fault.ObjectFault.{ObjectFault}
use Rattle.gitobject.specs.declared.fault.ObjectFault.TheVariants.{Malformed, Memory}
use Rattle.gitobject.specs.declared.types.ObjectType.{ObjectType}
use Rattle.gitobject.specs.declared.types.ObjectType.TheVariants.{Commit, Tree, Blob, Tag}
use Rattle.gitobject.proofs.EntryLemmas.{trees_once}
use Rattle.gitobject.proofs.Heads.{begins_once, type_once}

-- a fault that is permitted for the reading `A` is also permitted for the reading `B`, if `B` implies `A`
pub fault_of : (A B : Type 0) → (B → A) → (fault : ObjectFault) → IsObjectFault A fault → IsObjectFault B fault
fault_of A B leads Malformed none = λ b. none (leads b)
fault_of A B leads Memory none = none

parents_once : (text : List ℕ) (ids others : List Id) → HasParents text ids → HasParents text others → ids ≡ others
parents_once text [] [] one two = refl
parents_once text [] (b ∷ others) one two = absurd (one.other (two.1.digits ++ 10 ∷ two.0) two.1.parts)
parents_once text (a ∷ ids) [] one two = absurd (two.other (one.1.digits ++ 10 ∷ one.0) one.1.parts)
parents_once text (a ∷ ids) (b ∷ others) one two =
    let first = begins_once (codes "parent ") text a b one.0 two.0 one.1 two.1 in
    let same = first.0 in
    let P : List ℕ → Type 0 = λ rest. HasParents rest others in
    let rest = parents_once one.0 ids others one.2 (subst P (sym first.1) two.2) in
    cc

commit_once : (body : List ℕ) (a b : Id) (ids others : List Id) → IsCommit body a ids → IsCommit body b others → (a ≡ b) × (ids ≡ others)
commit_once body a b ids others one two =
    let first = begins_once (codes "tree ") body a b one.rest two.rest one.names two.names in
    let P : List ℕ → Type 0 = λ rest. HasParents rest others in
    (first.0, parents_once one.rest ids others one.follows (subst P (sym first.1) two.follows))

tag_once : (body : List ℕ) (a b : Id) (kind other : ObjectType) → IsTag body a kind → IsTag body b other → (a ≡ b) × (kind ≡ other)
tag_once body a b kind other one two =
    let first = begins_once (codes "object ") body a b one.after_object two.after_object one.object two.object in
    let P : List ℕ → Type 0 = λ rest. BeginsWithType rest other two.after_type in
    (first.0, (type_once one.after_object kind other one.after_type two.after_type one.typed (subst P (sym first.1) two.typed)).0)

pub links_once : LinksAreOne
links_once Commit body links others one two =
    let same = commit_once body one.0 two.0 one.1 two.1 one.2 two.2 in
    let trees = same.0 in let parents = same.1 in let l = one.3 in let r = two.3 in
    cc
links_once Tree body links others one two =
    let same = trees_once one.0 two.0 one.1.each two.1.each (sym one.1.is ∙ two.1.is) in
    let l = one.2 in let r = two.2 in
    cc
links_once Blob body links others one two = one ∙ sym two
links_once Tag body links others one two =
    let same = tag_once body one.0 two.0 one.1 two.1 one.2 two.2 in
    let targets = same.0 in let kinds = same.1 in let l = one.3 in let r = two.3 in
    cc

-- ---- reading commits

-- the parent lines of a commit follow its tree line
pub commit_parents : (body : List ℕ) (tree : Id) (rest : List ℕ) → BeginsWithId (codes "tree ") body tree rest
    → (other : Id) × (parents : List Id) × IsCommit body other parents → (ids : List Id) × HasParents rest ids
commit_parents body tree rest line has =
    let same = begins_once (codes "tree ") body has.0 tree has.2.rest rest has.2.names line in
    let P : List ℕ → Type 0 = λ l. HasParents l has.1 in
    (has.1, subst P same.1 has.2.follows)

-- ---- reading tags

module _ (body after : List ℕ) (id : Id) (object : BeginsWithId (codes "object ") body id after) where
  tag_after : (target : Id) (kind : ObjectType) (is : IsTag body target kind) → BeginsWithType after kind is.after_type
  tag_after target kind is =
      let same = begins_once (codes "object ") body target id is.after_object after is.object object in
      let P : List ℕ → Type 0 = λ l. BeginsWithType l kind is.after_type in
      subst P same.1 is.typed

  pub no_tag_type : ((kind : ObjectType) (rest : List ℕ) → ¬ (BeginsWithType after kind rest)) → (target : Id) (kind : ObjectType) → ¬ (IsTag body target kind)
  no_tag_type none target kind is = none kind is.after_type (tag_after target kind is)

  pub no_tag_name : (kind : ObjectType) (rest : List ℕ) → BeginsWithType after kind rest → ¬ (BeginsWithName rest) → (target : Id) (other : ObjectType) → ¬ (IsTag body target other)
  no_tag_name kind rest typed none target other is =
      let same = type_once after other kind is.after_type rest (tag_after target other is) typed in
      none (subst BeginsWithName same.1 is.named)

-- ---- the faults of reading commits

pub commit_fault : (body : List ℕ) (tree : Id) (rest : List ℕ) → BeginsWithId (codes "tree ") body tree rest → (fault : ObjectFault)
    → IsObjectFault ((ids : List Id) × HasParents rest ids) fault → IsObjectFault ((other : Id) × (parents : List Id) × IsCommit body other parents) fault
commit_fault body tree rest line fault h =
    fault_of ((ids : List Id) × HasParents rest ids) ((other : Id) × (parents : List Id) × IsCommit body other parents) (commit_parents body tree rest line) fault h
