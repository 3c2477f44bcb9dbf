-- Laws that follow from the definitions of objects.
use Rattle.std.specs.Prelude.{◌≡◌, ℕ, ◌<◌, ◌^◌, List, length}
use Rattle.gitobject.specs.Links.{LinksOf}
use Rattle.gitobject.specs.Naming.{object_text}
use Rattle.gitobject.specs.declared.types.ObjectType.{ObjectType}
use Rattle.gitobject.specs.declared.links.Link.{Link}

-- an object has at most one list of links
abbrev pub LinksAreOne : Type 0
LinksAreOne =
    (kind : ObjectType) (body : List ℕ) (links others : List Link)
    → LinksOf kind body links → LinksOf kind body others → links ≡ others

-- a text encodes at most one object of fewer than 2^64 bytes
abbrev pub TextsAreOne : Type 0
TextsAreOne =
    (kind other_kind : ObjectType) (body other : List ℕ) → length body < 2 ^ 64 → length other < 2 ^ 64
    → object_text kind body ≡ object_text other_kind other → (kind ≡ other_kind) × (body ≡ other)
