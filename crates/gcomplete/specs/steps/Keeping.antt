-- Recording types and links in maps.
use Rattle.std.specs.Prelude.{◌≡◌, ◌≢◌, ◌⊎◌, ⊤, List, All, Contains, Some, if◌then◌else◌}
use Rattle.std.specs.Str.{bytes_eq}
use Rattle.gname.specs.Ids.{Id}
use Rattle.gitobject.specs.Trees.{link_of}
use Rattle.gitobject.specs.declared.links.Link.{Link}
use Rattle.gitobject.specs.declared.types.ObjectType.{ObjectType}
use Rattle.gcomplete.specs.Stores.{Types, kind_at}
use Rattle.gcomplete.specs.Batches.{IsNoted, Needs, need_at}
use Rattle.gcomplete.specs.Adding.{IsClash}
use Rattle.gcomplete.specs.declared.fault.BatchFault.{BatchFault}
use Rattle.gcomplete.specs.declared.fault.BatchFault.TheVariants.{Malformed, Collision, Clash, Missing, Memory}
use Rattle.gcomplete.specs.declared.needs.Need.{Need}

-- the id `a` has this type in `new`, and each other id has the same type as in `old`
abbrev pub Puts : Types → Id → ObjectType → Types → Type 0
Puts old a kind new = (b : Id) → kind_at new b ≡ (if bytes_eq a b then Some kind else kind_at old b)

-- The map `new` has the recorded links of `old`, and these links of the object `id`, but no others.
pub record Notes (old : Needs) (id : Id) (links : List Link) (new : Needs) : Type 0 where
  pub keeps : (a : Id) (need : Need) → need_at old a ≡ Some need → need_at new a ≡ Some need
  pub each : All (IsNoted new) links
  pub only : (a : Id) (need : Need) → need_at new a ≡ Some need
      → (need_at old a ≡ Some need) ⊎ ((need.by ≡ id) × Contains links (link_of need.kind a))

-- the recorded link to the id of this link has another type
pub record HasOtherNeed (needs : Needs) (link : Link) : Type 0 where
  pub need : Need
  pub noted : need_at needs link.id ≡ Some need
  pub differ : need.kind ≢ link.kind

-- a fault of recording a link
abbrev pub IsOneFault : Needs → Id → Link → BatchFault → Type 0
IsOneFault old id link (Clash a l) = (a ≡ id) × (l ≡ link) × HasOtherNeed old link
IsOneFault old id link Memory = ⊤
IsOneFault old id link (Malformed a) = ⊥
IsOneFault old id link (Collision a) = ⊥
IsOneFault old id link (Missing a l) = ⊥

-- a fault of recording links
abbrev pub IsNeedFault : Needs → Id → List Link → BatchFault → Type 0
IsNeedFault old id links (Clash a link) = (a ≡ id) × IsClash old links link
IsNeedFault old id links Memory = ⊤
IsNeedFault old id links (Malformed a) = ⊥
IsNeedFault old id links (Collision a) = ⊥
IsNeedFault old id links (Missing a link) = ⊥
