-- A pack that is returned in parts.
use Rattle.std.specs.Prelude.{◌≡◌, ◌<◌, ◌≤◌, ◌+◌, ℕ, List, [], ◌++◌, length, take, Option, Some, None}
use Rattle.gobject.specs.Packs.{PackFails, Packs}
use Rattle.gobject.specs.declared.fault.PackFault.{PackFault}
use Rattle.gobject.specs.declared.node.Entry.{Entry}

-- whether these bytes may still be returned, followed by this fault, if any
abbrev pub Gives : Type 1
Gives = List ℕ → Option PackFault → Type 0

-- the maximum number of bytes of a pack that is returned in parts
abbrev pub max_parts : ℕ
max_parts = 4294967295

-- a pack that may be returned in parts: a pack of the entries that is not too long
pub record MayGive {A : Type 0} (packs : Packs A) (list : List (Entry A)) (pack : List ℕ) : Type 0 where
  pub packed : packs list pack
  pub few : length pack ≤ max_parts

-- the packs that each packer may return in parts
abbrev pub given_by : {A K : Type 0} → (K → Packs A) → K → Packs A
given_by packs packer = MayGive (packs packer)

-- If no fault occurs, the returned bytes are a pack that may be returned for the list. Each fault is one that `fails`
-- permits for the list. At most `max_parts` bytes are returned.
pub record Begins {A : Type 0} (packs : Packs A) (fails : PackFails A) (list : List (Entry A)) (gives : Gives)
    (most : ℕ) : Type 0 where
  pub whole : (bytes : List ℕ) → gives bytes None → MayGive packs list bytes
  pub failed : (bytes : List ℕ) (fault : PackFault) → gives bytes (Some fault) → fails list fault
  pub few : most ≤ max_parts

-- `count` bytes at the front of the buffer are the next bytes of the pack, or `count` is 0 and the pack is complete
pub record GivesPart (old : Gives) (most_old : ℕ) (new : Gives) (most_new : ℕ) (count : ℕ)
    (out : List ℕ) : Type 0 where
  pub fits : count ≤ length out
  pub part : (rest : List ℕ) (end : Option PackFault) → 0 < count → new rest end → old (take count out ++ rest) end
  pub few : 0 < count → count + most_new ≤ most_old
  pub whole : count ≡ 0 → old [] None
