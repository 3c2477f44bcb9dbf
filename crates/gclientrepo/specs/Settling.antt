-- Settling: all allowed updates of refs happen at once. Without force each ref only fast-forwards (gitglossary(7),
-- "fast-forward"). Tags follow this rule too, although git-fetch(1), "<refspec>", has a different rule for tags.
pub use Rattle.gclientrepo.specs.Asks.{NamesDiffer, asked_ids}
use Rattle.std.specs.List.{AllZip}
use Rattle.std.specs.Prelude.{◌≡◌, ◌≢◌, ◌⊎◌, ◌+◌, ◌<◌, Bool, List, length, map, count_by, All, Contains, IsTrue, None}
use Rattle.std.specs.Prelude.{Some, is_none}
use Rattle.gname.specs.Ids.{Id}
use Rattle.gname.specs.Names.{Name, head_name}
use Rattle.gobject.specs.declared.node.Entry.{Entry}
use Rattle.gdag.specs.Reach.{Reaches}
use Rattle.grefs.specs.RefLists.{RefList, max_refs, ref_at}
use Rattle.gclientrepo.specs.declared.ask.Ask.{Ask}
use Rattle.gclientrepo.specs.declared.ask.RefUpdate.{RefUpdate}
use Rattle.gclientrepo.specs.declared.ask.RefUpdate.TheVariants.{Moved, Same, NotForward}

-- the update of the ref is allowed: the ref is new, the update is forced, or the update is a fast-forward
abbrev pub MayMove : {A : Type 0} → List (Entry A) → RefList → Ask A → Type 0
MayMove g refs ask =
    (ref_at refs ask.name ≡ None) ⊎ IsTrue ask.forced
    ⊎ ((old : Id) × (ref_at refs ask.name ≡ Some old) × Reaches g ask.id old)

-- the outcome of a requested update: the ref already has the id, the ref moves, or the update is not allowed
abbrev pub IsUpdate : {A : Type 0} → List (Entry A) → RefList → Ask A → RefUpdate → Type 0
IsUpdate g refs ask Same = ref_at refs ask.name ≡ Some ask.id
IsUpdate g refs ask Moved = (ref_at refs ask.name ≢ Some ask.id) × MayMove g refs ask
IsUpdate g refs ask NotForward = (ref_at refs ask.name ≢ Some ask.id) × ¬ (MayMove g refs ask)

-- the requested updates are settled: each allowed update was made, every other ref is unchanged, and no outcome depends
-- on the new refs
pub record Settles {A : Type 0} (g : List (Entry A)) (old : RefList) (asks : List (Ask A)) (updates : List RefUpdate)
    (new : RefList) : Type 0 where
  pub each : AllZip (IsUpdate g old) asks updates
  pub asked : All (λ ask. MayMove g old ask → ref_at new ask.name ≡ Some ask.id) asks
  pub others :
      (name : Name) → All (λ ask. MayMove g old ask → ask.name ≢ name) asks → ref_at new name ≡ ref_at old name

-- whether the requested update is for a new ref
abbrev pub is_new : {A : Type 0} → RefList → Ask A → Bool
is_new refs ask = is_none (ref_at refs ask.name)

-- the requested updates can't be settled: an update is for HEAD, or there would be too many refs
abbrev pub CannotSettle : {A : Type 0} → RefList → List (Ask A) → Type 0
CannotSettle refs asks =
    Contains (map (λ ask. ask.name) asks) head_name ⊎ (max_refs < length refs + count_by (is_new refs) asks)
