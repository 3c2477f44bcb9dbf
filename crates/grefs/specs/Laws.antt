-- The laws of refs.
use Rattle.std.specs.Prelude.{◌≡◌, ◌<◌, ◌∷◌, ◌++◌, length}
use Rattle.gname.specs.Ids.{Id}
use Rattle.gname.specs.Names.{Name}
use Rattle.grefs.specs.RefLists.{RefList, AreBelow, IsBelowRefs, IsRefs, max_refs, ref_at}

-- a ref with this name could be appended to the list: the name is below refs/ and sorts after all names of the list,
-- and the list is not full
pub record MayComeNext (refs : RefList) (name : Name) : Type 0 where
  pub below : IsBelowRefs name
  pub above : AreBelow refs name
  pub room : length refs < max_refs

-- each ref could be appended to the refs before it
abbrev pub RefsComeInOrder : Type 0
RefsComeInOrder = (front : RefList) (ref : Name × Id) (back : RefList) →
    IsRefs (front ++ ref ∷ back) → MayComeNext front ref.0

-- two lists of refs are equal if each name has the same id in both lists
abbrev pub RefsAreTheirLookUps : Type 0
RefsAreTheirLookUps = (a b : RefList) → IsRefs a → IsRefs b → ((name : Name) → ref_at a name ≡ ref_at b name) → a ≡ b
