-- Adding an object to a batch, and a batch to a closed store.
use Rattle.std.specs.Prelude.{◌≡◌, ◌≢◌, ◌⊎◌, ⊤, List, Contains, Some, Result, Ok, Err}
use Rattle.std.specs.Option.{option_or}
use Rattle.gname.specs.Ids.{Id}
use Rattle.gitobject.specs.Trees.{link_of}
use Rattle.gitobject.specs.declared.links.Link.{Link}
use Rattle.gitobject.specs.declared.types.ObjectType.{ObjectType}
use Rattle.gcomplete.specs.Stores.{GitObject, Store, Types, kind_at, with_object}
use Rattle.gcomplete.specs.Closed.{HasLink, HasLinks}
use Rattle.gcomplete.specs.Batches.{IsBatchOf, IsNoted, Needs, Noted, need_at}
use Rattle.gcomplete.specs.declared.fault.BatchFault.{BatchFault}
use Rattle.gcomplete.specs.declared.fault.BatchFault.TheVariants.{Malformed, Collision, Clash, Missing, Memory}
use Rattle.gcomplete.specs.declared.needs.Need.{Need}

-- the id has another type
pub record HasOtherType (types : Types) (a : Id) (kind : ObjectType) : Type 0 where
  pub other : ObjectType
  pub kept : kind_at types a ≡ Some other
  pub differ : other ≢ kind

-- ---- an object

-- the batch `new` has the same objects as the batch `old`, and this object
abbrev pub AddsObject : Noted → Id → GitObject → Noted → Type 0
AddsObject old id o new = (objects : Store) → IsBatchOf old objects → IsBatchOf new (with_object objects id o)

-- a recorded link, or one of these links, leads to the same id with another type
pub record HasOtherLink (needs : Needs) (links : List Link) (link : Link) : Type 0 where
  pub other : ObjectType
  pub differ : other ≢ link.kind
  pub linked : IsNoted needs (link_of other link.id) ⊎ Contains links (link_of other link.id)

-- one of these links has the same id as another link, but another type
pub record IsClash (needs : Needs) (links : List Link) (link : Link) : Type 0 where
  pub among : Contains links link
  pub other : HasOtherLink needs links link

-- a fault of adding an object to a batch
abbrev pub IsAddFault : Noted → Id → GitObject → BatchFault → Type 0
IsAddFault old id o (Malformed a) = (a ≡ id) × ((links : List Link) → ¬ (HasLinks o links))
IsAddFault old id o (Collision a) = (a ≡ id) × HasOtherType old.types id o.kind
IsAddFault old id o (Clash a link) = (a ≡ id) × (links : List Link) × HasLinks o links × IsClash old.needs links link
IsAddFault old id o (Missing a link) = ⊥
IsAddFault old id o Memory = ⊤

-- ---- a batch

-- the link leads to an object of the batch or of the store, and this object has the type of the link
abbrev pub Leads : Types → Types → Link → Type 0
Leads store batch link = (kind_at batch link.id ≡ Some link.kind) ⊎ (kind_at store link.id ≡ Some link.kind)

-- A batch can be added to a store. The store has no id of the batch with another type. Each link of the batch leads to
-- an object of the batch or of the store.
pub record IsFit (store : Types) (batch : Noted) : Type 0 where
  pub free : (a : Id) (kind other : ObjectType) → kind_at batch.types a ≡ Some kind → kind_at store a ≡ Some other
      → other ≡ kind
  pub leads : (a : Id) (need : Need) → need_at batch.needs a ≡ Some need
      → Leads store batch.types (link_of need.kind a)

-- the types `new` are the types of the batch and the types `old`
abbrev pub IsJoined : Types → Types → Types → Type 0
IsJoined old batch new = (a : Id) → kind_at new a ≡ option_or (kind_at batch a) (kind_at old a)

-- an object of the batch has the link
abbrev pub HasBatchLink : Noted → Id → Link → Type 0
HasBatchLink batch a link = (objects : Store) → IsBatchOf batch objects → HasLink objects a link

-- a fault of adding a batch to a store
abbrev pub IsRefused : Types → Noted → BatchFault → Type 0
IsRefused store batch (Collision a) =
    (kind : ObjectType) × (kind_at batch.types a ≡ Some kind) × HasOtherType store a kind
IsRefused store batch (Missing a link) = HasBatchLink batch a link × ¬ (Leads store batch.types link)
IsRefused store batch (Malformed a) = ⊥
IsRefused store batch (Clash a link) = ⊥
IsRefused store batch Memory = ⊤

-- the result of adding a batch to a store: the store has the whole batch, or is unchanged after a fault
abbrev pub AddsAll : Types → Noted → Types → Result (Unit {0}) BatchFault → Type 0
AddsAll old batch new (Ok _) = IsFit old batch × IsJoined old batch.types new
AddsAll old batch new (Err fault) = (new ≡ old) × IsRefused old batch fault
