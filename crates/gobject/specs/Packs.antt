-- Packs: the bytes that a packer may write for a list of entries, and the lists that an indexer may return for some
-- bytes.
use Rattle.std.specs.Prelude.{◌≡◌, ℕ, ◌<◌, ◌≤◌, List, length, All}
use Rattle.gname.specs.Limits.{max_pack}
use Rattle.gobject.specs.declared.node.Entry.{Entry}
use Rattle.gobject.specs.declared.fault.PackFault.{PackFault}
use Rattle.gobject.specs.declared.fault.PackFault.TheVariants.{TooLarge}
use Rattle.gobject.specs.declared.fault.PackFault.TheVariants as pack_faults
use Rattle.gobject.specs.declared.fault.IndexFault.{IndexFault}
use Rattle.gobject.specs.declared.fault.IndexFault.TheVariants as index_faults
use Rattle.gobject.specs.Objects.{HasIds, IdsDiffer}

-- the contents of a valid pack: entries with distinct, valid object ids
pub record AreEntries {A : Type 0} (list : List (Entry A)) : Type 0 where
  pub differ : IdsDiffer list
  pub ids : All HasIds list

-- the relation between a list and the bytes that a packer may return for this list
abbrev pub Packs : Type 0 → Type 1
Packs A = List (Entry A) → List ℕ → Type 0

abbrev pub PackFails : Type 0 → Type 1
PackFails A = List (Entry A) → PackFault → Type 0

-- the relation between bytes and the lists that an indexer may return for these bytes
abbrev pub Indexes : Type 0 → Type 1
Indexes A = List ℕ → List (Entry A) → Type 0

abbrev pub IndexFails : Type 1
IndexFails = List ℕ → IndexFault → Type 0

-- a result that a packer may return: a pack of the entries that is not too long
pub record MayPack {A : Type 0} (packs : Packs A) (list : List (Entry A)) (pack : List ℕ) : Type 0 where
  pub packed : packs list pack
  pub few : length pack ≤ max_pack

-- A lossless packer and indexer, for lists of entries with distinct, valid ids. Each list has one image: a sequence of
-- bytes. The packer writes the image, or reports that the image has too many bytes. The indexer reads the image back as
-- the list. Both the packer and the indexer may report out of memory.
pub record LosesNothing {A : Type 0} (packs : Packs A) (pack_fails : PackFails A) (indexes : Indexes A)
    (index_fails : IndexFails) (image : List (Entry A) → List ℕ) : Type 0 where
  pub packs_image : (list : List (Entry A)) (pack : List ℕ) → AreEntries list → packs list pack → pack ≡ image list
  pub too_large : (list : List (Entry A)) → AreEntries list → pack_fails list TooLarge → max_pack < length (image list)
  pub packs_each : (list : List (Entry A)) → AreEntries list → pack_fails list pack_faults.Other → ⊥
  pub reads_image : (list others : List (Entry A)) → AreEntries list → indexes (image list) others → others ≡ list
  pub reads_each : (list : List (Entry A)) (fault : IndexFault) → AreEntries list → index_fails (image list) fault →
      fault ≡ index_faults.Memory
