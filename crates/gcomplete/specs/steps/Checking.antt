-- The two checks before a batch is added to a store.
use Rattle.std.specs.Prelude.{◌≡◌, Some}
use Rattle.gname.specs.Ids.{Id}
use Rattle.gitobject.specs.Trees.{link_of}
use Rattle.gitobject.specs.declared.types.ObjectType.{ObjectType}
use Rattle.gcomplete.specs.Stores.{Types, kind_at}
use Rattle.gcomplete.specs.Batches.{Needs, need_at, need_of}
use Rattle.gcomplete.specs.Adding.{HasOtherType, Leads}
use Rattle.gcomplete.specs.declared.fault.BatchFault.{BatchFault}
use Rattle.gcomplete.specs.declared.fault.BatchFault.TheVariants.{Malformed, Collision, Clash, Missing, Memory}
use Rattle.gcomplete.specs.declared.needs.Need.{Need}

-- the store does not have the id with another type
abbrev pub IsFreeAt : Types → Id × ObjectType → Type 0
IsFreeAt store pair = (other : ObjectType) → kind_at store pair.0 ≡ Some other → other ≡ pair.1

-- the store has no id of the batch with another type
abbrev pub AreFree : Types → Types → Type 0
AreFree store batch =
    (a : Id) (kind other : ObjectType) → kind_at batch a ≡ Some kind → kind_at store a ≡ Some other → other ≡ kind

-- the store has an id of the batch with another type
abbrev pub IsTaken : Types → Types → BatchFault → Type 0
IsTaken store batch (Collision a) = (kind : ObjectType) × (kind_at batch a ≡ Some kind) × HasOtherType store a kind
IsTaken store batch (Malformed a) = ⊥
IsTaken store batch (Clash a link) = ⊥
IsTaken store batch (Missing a link) = ⊥
IsTaken store batch Memory = ⊥

-- the recorded link leads to an object
abbrev pub LeadsAt : Types → Types → Id × Need → Type 0
LeadsAt store batch pair = Leads store batch (link_of pair.1.kind pair.0)

-- each recorded link leads to an object
abbrev pub AllLead : Types → Types → Needs → Type 0
AllLead store batch needs =
    (a : Id) (need : Need) → need_at needs a ≡ Some need → Leads store batch (link_of need.kind a)

-- a recorded link leads to no object
abbrev pub IsUnmet : Types → Types → Needs → BatchFault → Type 0
IsUnmet store batch needs (Missing a link) =
    (need_at needs link.id ≡ Some (need_of a link)) × ¬ (Leads store batch link)
IsUnmet store batch needs (Malformed a) = ⊥
IsUnmet store batch needs (Collision a) = ⊥
IsUnmet store batch needs (Clash a link) = ⊥
IsUnmet store batch needs Memory = ⊥
