-- The text of a commit-graph file (gitformat-commit-graph(5), "HEADER", "CHUNK LOOKUP", "CHUNK DATA", "TRAILER";
-- gitformat-chunk(5)).
use Rattle.std.specs.Prelude.{◌≡◌, ◌≢◌, ℕ, zero, suc, ◌+◌, ◌*◌, ◌⊎◌, Bool, nat_le, List, [], ◌∷◌, ◌++◌, All, AllPairs, Contains, codes, length, slice_index, count_by}
use Rattle.std.specs.List.{flat_map, concat}
use Rattle.std.specs.Int.{w32, w64, to_be_bytes}
use Rattle.gname.specs.Ids.{Id}
use Rattle.gitcommitgraph.specs.Files.{GraphFile, IsGraphFile}

-- ---- headers

-- the signature, version 1, the number for SHA-1, the number of chunks, and the number of base graphs
abbrev pub header : ℕ → ℕ → List ℕ
header chunks bases = codes "CGPH" ++ 1 ∷ 1 ∷ chunks ∷ bases ∷ []

-- a chunk: its name and its bytes
pub record Chunk : Type 0 where
  pub name : List ℕ
  pub bytes : List ℕ

abbrev pub chunk_bytes : Chunk → List ℕ
chunk_bytes c = c.bytes

-- the name in the last row of the table of contents
abbrev pub no_name : List ℕ
no_name = 0 ∷ 0 ∷ 0 ∷ 0 ∷ []

-- The table of contents of these chunks, if the first chunk begins at this offset. The table has a row for each chunk,
-- with the chunk's name and offset, and a last row with the offset of the end.
abbrev pub contents : ℕ → List Chunk → List ℕ
contents offset [] = no_name ++ to_be_bytes w64 offset
contents offset (c ∷ chunks) = c.name ++ (to_be_bytes w64 offset ++ contents (offset + length c.bytes) chunks)

-- each chunk has a name of four bytes that are not all zero, and no two chunks have the same name
pub record AreNamed (chunks : List Chunk) : Type 0 where
  pub long : All (λ c. length c.name ≡ 4) chunks
  pub named : All (λ c. c.name ≢ no_name) chunks
  pub distinct : AllPairs (λ one other. one.name ≢ other.name) chunks

-- one of the chunks has this name and these bytes
abbrev pub HasChunk : List Chunk → List ℕ → List ℕ → Type 0
HasChunk chunks name bytes = Contains chunks (record { name = name; bytes = bytes })

-- one of the chunks has this name and these bytes, or no chunk has the name and `bytes` is empty
abbrev pub MayHaveChunk : List Chunk → List ℕ → List ℕ → Type 0
MayHaveChunk chunks name bytes =
    HasChunk chunks name bytes ⊎ ((bytes ≡ []) × All (λ c. c.name ≢ name) chunks)

-- ---- fan-out

-- whether an id begins with this byte or a lower byte
abbrev pub begins_within : ℕ → Id → Bool
begins_within byte id = nat_le (slice_index id 0) byte

-- the first n rows of the fan-out table: for each byte below n, the number of ids that begin with the byte or a lower
-- byte
unfoldable pub fan_out : ℕ → List Id → List ℕ
fan_out zero ids = []
fan_out (suc byte) ids = fan_out byte ids ++ to_be_bytes w32 (count_by (begins_within byte) ids)

-- ---- files

-- The text of a file with these chunks: the header, the table of contents, the contiguous chunks, and a checksum.
pub record IsFramed (bases : ℕ) (chunks : List Chunk) (checksum : Id) (text : List ℕ) : Type 0 where
  pub parts : text ≡ header (length chunks) bases
      ++ (contents (8 + 12 * (length chunks + 1)) chunks ++ (flat_map chunk_bytes chunks ++ checksum))
  pub named : AreNamed chunks
  pub long : length checksum ≡ 20

-- The text of a file. Chunks with unknown names are ignored.
pub record IsGraphText (file : GraphFile) (text : List ℕ) : Type 0 where
  pub chunks : List Chunk
  pub framed : IsFramed (length file.bases) chunks file.checksum text
  pub fan_out : HasChunk chunks (codes "OIDF") (fan_out 256 file.ids)
  pub ids : HasChunk chunks (codes "OIDL") (concat file.ids)
  pub rows : HasChunk chunks (codes "CDAT") (concat file.rows)
  pub edges : MayHaveChunk chunks (codes "EDGE") (concat file.edges)
  pub bases : MayHaveChunk chunks (codes "BASE") (concat file.bases)
  pub formed : IsGraphFile file
