-- Parts of files, and the blocks of packs in memory.
use Rattle.std.specs.Prelude.{◌≡◌, ◌<◌, ◌≤◌, ℕ, List, Option, None, IfSome, All, length, take, drop, slice_index_or}
use Rattle.gitobjects.specs.declared.window.Block.{Block}

-- if the contents of the file are known, `bytes` is the part of the file that begins at `start`
abbrev pub IsPart : Option (List ℕ) → ℕ → List ℕ → Type 0
IsPart known start bytes = IfSome known (λ all. bytes ≡ take (length bytes) (drop start all))

-- if the contents of the pack with this number are known, `bytes` is the part of the pack that begins at `start`
abbrev pub IsPartOf : List (Option (List ℕ)) → ℕ → ℕ → List ℕ → Type 0
IsPartOf packs pack start bytes = IsPart (slice_index_or packs pack None) start bytes

-- a block in memory: at most 1 MiB of one of the packs
pub record IsBlock {A : Type 0} (packs : List (Option (List ℕ))) (block : Block A) : Type 0 where
  pub inside : block.pack < length packs
  pub part : IsPartOf packs block.pack block.first block.bytes.items
  pub short : length block.bytes.items ≤ 1048576

-- the blocks in memory: at most 64 in total, each a block of one of the packs
pub record AreBlocks {A : Type 0} (packs : List (Option (List ℕ))) (blocks : List (Block A)) : Type 0 where
  pub few : length blocks ≤ 64
  pub each : All (IsBlock packs) blocks
