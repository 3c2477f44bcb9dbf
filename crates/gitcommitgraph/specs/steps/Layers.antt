-- The locations of the chunks of a file in memory.
use Rattle.std.specs.Prelude.{◌≡◌, ℕ, ◌-◌, ◌*◌, ◌/◌, ◌%◌, ◌<◌, ◌≤◌, ◌⊎◌, List, codes, length, drop, slice_index, slice_range}
use Rattle.gitcommitgraph.specs.Files.{GraphFile, HaveEnds, IsAscending, IsGraphFile, no_parent}
use Rattle.gitcommitgraph.specs.Texts.{Chunk, IsFramed, HasChunk, MayHaveChunk}
use Rattle.gitcommitgraph.specs.steps.Rows.{pieces, IsSpan, LacksName}
use Rattle.gitcommitgraph.specs.steps.Tables.{IsFanOut}
use Rattle.gitcommitgraph.specs.declared.contents.Span.{Span}
use Rattle.gitcommitgraph.specs.declared.layer.Places.{Places}

-- the bytes of a span
abbrev pub part : List ℕ → Span → List ℕ
part bytes span = slice_range bytes span.start span.end

abbrev pub table : ℕ → List ℕ → Span → List (List ℕ)
table n bytes span = pieces n (part bytes span)

-- the contents of a file with these bytes and with chunks at these locations
abbrev pub file_at : List ℕ → Places → GraphFile
file_at bytes places = record {
  bases = table 20 bytes places.bases;
  ids = table 20 bytes places.ids;
  rows = table 36 bytes places.rows;
  edges = table 4 bytes places.edges;
  checksum = drop (length bytes - 20) bytes;
}

-- ---- chunks

-- the chunk with this name is at this span, or there is no such chunk and the span is empty
pub record MayBeSpan (rows : List (List ℕ)) (name : List ℕ) (span : Span) : Type 0 where
  pub cases : IsSpan rows name span ⊎ (LacksName rows name × (span.start ≡ 0) × (span.end ≡ 0))

-- the chunks that these rows describe are at these locations
pub record ArePlaces (rows : List (List ℕ)) (places : Places) : Type 0 where
  pub fan_out : IsSpan rows (codes "OIDF") places.fan_out
  pub ids : IsSpan rows (codes "OIDL") places.ids
  pub rows_at : IsSpan rows (codes "CDAT") places.rows
  pub edges : MayBeSpan rows (codes "EDGE") places.edges
  pub bases : MayBeSpan rows (codes "BASE") places.bases

-- a required chunk is missing
pub record LacksChunk (rows : List (List ℕ)) : Type 0 where
  pub cases : LacksName rows (codes "OIDF") ⊎ (LacksName rows (codes "OIDL") ⊎ LacksName rows (codes "CDAT"))

-- the length of a span in bytes
abbrev pub size : Span → ℕ
size span = span.end - span.start

-- the chunks at these locations have the right lengths for a file with this number of base graphs
pub record HaveLengths (places : Places) (bases : ℕ) : Type 0 where
  pub fan_out : size places.fan_out ≡ 1024
  pub ids : size places.ids % 20 ≡ 0
  pub few : size places.ids / 20 ≤ no_parent
  pub rows : size places.rows % 36 ≡ 0
  pub each : size places.rows / 36 ≡ size places.ids / 20
  pub edges : size places.edges % 4 ≡ 0
  pub bases_at : size places.bases ≡ 20 * bases

-- ---- tables

-- the span is within the bytes
pub record IsWithin (bytes : List ℕ) (span : Span) : Type 0 where
  pub ordered : span.start ≤ span.end
  pub inside : span.end ≤ length bytes

pub record AreWithin (bytes : List ℕ) (places : Places) : Type 0 where
  pub fan_out : IsWithin bytes places.fan_out
  pub ids : IsWithin bytes places.ids
  pub rows : IsWithin bytes places.rows
  pub edges : IsWithin bytes places.edges
  pub bases : IsWithin bytes places.bases

-- the text has the header, table of contents and trailer of a file, and its chunks are at these locations
pub record IsCut (bytes : List ℕ) (places : Places) : Type 0 where
  pub bases_count : ℕ
  pub chunks : List Chunk
  pub framed : IsFramed bases_count chunks (drop (length bytes - 20) bytes) bytes
  pub small : (i : ℕ) → slice_index bytes i < 256
  pub within : AreWithin bytes places
  pub fan_out : HasChunk chunks (codes "OIDF") (part bytes places.fan_out)
  pub ids : HasChunk chunks (codes "OIDL") (part bytes places.ids)
  pub rows : HasChunk chunks (codes "CDAT") (part bytes places.rows)
  pub edges : MayHaveChunk chunks (codes "EDGE") (part bytes places.edges)
  pub bases : MayHaveChunk chunks (codes "BASE") (part bytes places.bases)
  pub lengths : HaveLengths places bases_count

-- the tables at these locations have the right form
pub record AreTested (bytes : List ℕ) (places : Places) : Type 0 where
  pub ascending : IsAscending (table 20 bytes places.ids)
  pub fan_out : IsFanOut (table 4 bytes places.fan_out) (table 20 bytes places.ids)
  pub ended : HaveEnds (table 4 bytes places.edges) (table 36 bytes places.rows)

-- a file in memory whose form has been checked
pub record IsFileAt (bytes : List ℕ) (places : Places) : Type 0 where
  pub within : AreWithin bytes places
  pub formed : IsGraphFile (file_at bytes places)
  pub fan_out : IsFanOut (table 4 bytes places.fan_out) (table 20 bytes places.ids)
