-- A repository whose refs and HEAD reach only objects of a closed store (git-fsck(1)).
use Rattle.std.specs.Prelude.{◌≡◌, ⊤, All, length}
use Rattle.std.specs.List.{filter}
use Rattle.grefs.specs.RefLists.{RefList}
use Rattle.grefs.specs.declared.head.Head.{Head}
use Rattle.grefs.specs.declared.head.Head.TheVariants as heads
use Rattle.gcomplete.specs.Batches.{HasJudged}
use Rattle.gcomplete.specs.Judging.{IsKept}
use Rattle.gcomplete.specs.Stores.{Types, is_commit_or_tag}
use Rattle.gitrepository.specs.declared.checking.Checked.{Checked}

-- the list of ids and types has the id of each ref
abbrev pub AreRefsKept : Types → RefList → Type 0
AreRefsKept types refs = All (λ ref. IsKept types ref.1) refs

-- if HEAD is detached, the list of ids and types has its id
abbrev pub IsHeadKept : {A : Type 0} → Types → Head A → Type 0
IsHeadKept types heads.None = ⊤
IsHeadKept types (heads.Id id) = IsKept types id
IsHeadKept types (heads.Symref target) = ⊤

-- The ids and types are those of a closed store, which has the object of each ref and of a detached HEAD. The numbers
-- count the refs, the commits and tags of the store, and all its objects.
pub record IsChecked {A : Type 0} (refs : RefList) (head : Head A) (checked : Checked) : Type 0 where
  pub types : Types
  pub judged : HasJudged types
  pub refs_kept : AreRefsKept types refs
  pub head_kept : IsHeadKept types head
  pub refs_counted : checked.refs ≡ length refs
  pub nodes_counted : checked.nodes ≡ length (filter is_commit_or_tag types)
  pub objects_counted : checked.objects ≡ length types
