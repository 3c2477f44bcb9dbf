-- The reasons why a repository is not saved.
use Rattle.std.specs.Prelude.{◌≡◌, List, [], ◌∷◌, ◌++◌, map, All}
use Rattle.gname.specs.Ids.{Id, IsIdOf}
use Rattle.gname.specs.declared.formats.Format.{Format}
use Rattle.grefs.specs.RefLists.{RefList}
use Rattle.grefs.specs.declared.head.Head.{Head}
use Rattle.grefs.specs.declared.head.Head.TheVariants as head_is
use Rattle.ggraph.specs.declared.fault.SaveFault.{SaveFault}
use Rattle.ggraph.specs.declared.fault.SaveFault.TheVariants.{Memory, OtherFormat}

-- the id of a detached HEAD, in a list that is empty for any other HEAD
abbrev pub head_ids : {A : Type 0} → Head A → List Id
head_ids (head_is.Id id) = id ∷ []
head_ids _ = []

-- the ids of the refs, in name order
abbrev pub ref_ids : RefList → List Id
ref_ids refs = map (λ ref. ref.1) refs

-- the ids of the refs in name order, and then the id of a detached HEAD
abbrev pub named_ids : {A : Type 0} → RefList → Head A → List Id
named_ids refs head = ref_ids refs ++ head_ids head

-- `id` is the first id in the list that does not have the format
pub record IsFirstOther (format : Format) (ids : List Id) (id : Id) : Type 0 where
  pub front : List Id
  pub rest : List Id
  pub parts : ids ≡ front ++ id ∷ rest
  pub before : All (IsIdOf format) front
  pub other : ¬ (IsIdOf format id)

-- the fault of saving: the first id that does not have the graph's format, or out of memory if all ids have that format
abbrev pub SaveRefuses : {A : Type 0} → Format → RefList → Head A → SaveFault → Type 0
SaveRefuses format refs head (OtherFormat id) = IsFirstOther format (named_ids refs head) id
SaveRefuses format refs head Memory = All (IsIdOf format) (named_ids refs head)
