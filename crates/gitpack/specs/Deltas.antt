-- Deltas (gitformat-pack(5), "Deltified representation").
use Rattle.std.specs.Prelude.{◌≡◌, ⊤, ℕ, ◌+◌, ◌*◌, ◌/◌, ◌%◌, ◌<◌, ◌≤◌, ◌==◌, ◌⊎◌, if◌then◌else◌, List, [], ◌∷◌, ◌++◌, length, take, drop}
use Rattle.gitpack.specs.Numbers.{IsSize}

-- an instruction of a delta: copy `size` bytes of the base, starting at `offset`, or insert new bytes
pub data Instruction : Type 0 where
  Copy : (offset size : ℕ) → Instruction
  Insert : (bytes : List ℕ) → Instruction

-- `kept` lists the bytes whose bit is set in `bits`, and all other bytes are 0
abbrev pub Keeps : ℕ → List ℕ → List ℕ → Type 0
Keeps bits [] kept = kept ≡ []
Keeps bits (b ∷ bytes) kept =
    ((bits % 2 ≡ 1) × (more : List ℕ) × (kept ≡ b ∷ more) × Keeps (bits / 2) bytes more)
    ⊎ ((bits % 2 ≡ 0) × (b ≡ 0) × Keeps (bits / 2) bytes kept)

-- the number with these bytes in little-endian order
abbrev pub number_of : List ℕ → ℕ
number_of [] = 0
number_of (b ∷ bytes) = b + 256 * number_of bytes

-- the encoding of a number of `count` bytes: only the bytes whose bit is set in `bits` are present
pub record IsSparse (bits count number : ℕ) (kept : List ℕ) : Type 0 where
  pub bytes : List ℕ
  pub counted : length bytes ≡ count
  pub keeps : Keeps bits bytes kept
  pub valued : number ≡ number_of bytes

-- the size of a copy with this encoded size: 0 encodes 0x10000
abbrev pub copy_size : ℕ → ℕ
copy_size n = if n == 0 then 65536 else n

-- The encoding of a copy instruction. Bit 7 of the command is set, bits 0 to 3 mark the bytes of the offset, and bits 4
-- to 6 mark the bytes of the size.
pub record IsCopy (offset size : ℕ) (text : List ℕ) : Type 0 where
  pub command : ℕ
  pub offset_text : List ℕ
  pub size_text : List ℕ
  pub size_number : ℕ
  pub parts : text ≡ command ∷ (offset_text ++ size_text)
  pub high : 128 ≤ command
  pub from : IsSparse command 4 offset offset_text
  pub count : IsSparse (command / 16) 3 size_number size_text
  pub sized : size ≡ copy_size size_number

-- The encoding of an instruction. An insertion is encoded as the number of inserted bytes, from 1 to 127, and these
-- bytes.
abbrev pub IsInstruction : Instruction → List ℕ → Type 0
IsInstruction (Copy offset size) text = IsCopy offset size text
IsInstruction (Insert bytes) text = (text ≡ length bytes ∷ bytes) × (0 < length bytes) × (length bytes < 128)

-- the bytes that an instruction adds to the result of a delta
abbrev pub add_instruction : List ℕ → Instruction → List ℕ
add_instruction base (Copy offset size) = take size (drop offset base)
add_instruction base (Insert bytes) = bytes

-- the instruction copies no bytes beyond the end of the base
abbrev pub Fits : List ℕ → Instruction → Type 0
Fits base (Copy offset size) = offset + size ≤ length base
Fits base (Insert bytes) = ⊤

-- the text begins with this instruction, which copies only within the base, and `rest` follows
pub record BeginsWithInstruction (base text : List ℕ) (i : Instruction) (rest : List ℕ) : Type 0 where
  pub front : List ℕ
  pub spelt : IsInstruction i front
  pub fits : Fits base i
  pub parts : text ≡ front ++ rest

-- the text encodes exactly these instructions, each of which copies only within the base; together they add exactly the
-- bytes of `body`
abbrev pub Makes : List ℕ → List Instruction → List ℕ → List ℕ → Type 0
Makes base [] text body = (text ≡ []) × (body ≡ [])
Makes base (i ∷ is) text body =
    (rest more : List ℕ) × BeginsWithInstruction base text i rest × (body ≡ add_instruction base i ++ more) × Makes base is rest more

-- A delta that makes `body` from the base: the sizes of the base and of `body`, and instructions. Git refuses a delta
-- of fewer than four bytes (`DELTA_SIZE_MIN` in Git's `delta.h`).
pub record IsDelta (base delta body : List ℕ) : Type 0 where
  pub least : 4 ≤ length delta
  pub base_size : List ℕ
  pub size : List ℕ
  pub commands : List ℕ
  pub instructions : List Instruction
  pub parts : delta ≡ base_size ++ (size ++ commands)
  pub based : IsSize base_size (length base)
  pub sized : IsSize size (length body)
  pub makes : Makes base instructions commands body
