-- Refs: names below refs/ with their ids (git-check-ref-format(1)). The order is the byte order of the names, "sorted
-- by name according to the C locale ordering" (gitprotocol-pack(5), "Reference Discovery").
use Rattle.std.specs.Cmp.Lexicographic.{slice_cmp}
use Rattle.std.specs.List.{AllByRecursion, starts_with}
use Rattle.std.specs.List.Sorted.{IsStrictlySortedBy}
use Rattle.std.specs.Map.{keys_of}
use Rattle.std.specs.Option.{option_map}
use Rattle.std.specs.Ordering.{nat_cmp}
use Rattle.std.specs.Prelude.{◌≡◌, ◌≢◌, ◌⊎◌, ℕ, ◌+◌, ◌≤◌, true, Bool, List, length, find, All, Contains, codes, nat_eq}
use Rattle.std.specs.Prelude.{Option, Some, None}
use Rattle.std.specs.Str.{bytes_eq}
use Rattle.std.specs.declared.cmp.Ordering.TheVariants.{Less}
use Rattle.gname.specs.Ids.{Id}
use Rattle.gname.specs.Names.{Name, IsRefName, head_name}

-- a list of refs, each with its name and its id
abbrev pub RefList : Type 0
RefList = List (Name × Id)

-- whether the ref has this name
abbrev pub has_name : Name → Name × Id → Bool
has_name name ref = bytes_eq ref.0 name

-- the id of the ref with this name, or `None` if no ref has this name
abbrev pub ref_at : RefList → Name → Option Id
ref_at refs name = option_map (λ ref. ref.1) (find (has_name name) refs)

-- a ref name below refs/, which is any ref name except HEAD
pub record IsBelowRefs (name : Name) : Type 0 where
  pub well_formed : IsRefName name
  pub below : starts_with nat_eq name (codes "refs/") ≡ true

-- the name of every ref sorts before `name`
abbrev pub AreBelow : RefList → Name → Type 0
AreBelow refs name = AllByRecursion (λ other. slice_cmp nat_cmp other name ≡ Less) (keys_of refs)

-- the maximum number of refs, without HEAD
abbrev pub max_refs : ℕ
max_refs = 65536

-- a valid list of refs: at most the maximum number of refs, with names below refs/ in strictly ascending byte order
pub record IsRefs (refs : RefList) : Type 0 where
  pub names : All (λ ref. IsBelowRefs ref.0) refs
  pub ascending : IsStrictlySortedBy (slice_cmp nat_cmp) (keys_of refs)
  pub few : length refs ≤ max_refs

-- the ref with this name is set to this id: every other ref is unchanged, and the list has one more ref if the name is
-- new
pub record SetsRef (old new : RefList) (name : Name) (id : Id) : Type 0 where
  pub this_name : ref_at new name ≡ Some id
  pub others : (other : Name) → other ≢ name → ref_at new other ≡ ref_at old other
  pub each : All (λ ref. (ref ≡ (name, id)) ⊎ Contains old ref) new
  pub one_more : ref_at old name ≡ None → length new ≡ length old + 1
  pub as_many : ref_at old name ≢ None → length new ≡ length old

-- a name that can't be set: HEAD, or a new name when the list already has the maximum number of refs
abbrev pub CannotSet : RefList → Name → Type 0
CannotSet refs name = (name ≡ head_name) ⊎ ((ref_at refs name ≡ None) × (length refs ≡ max_refs))
