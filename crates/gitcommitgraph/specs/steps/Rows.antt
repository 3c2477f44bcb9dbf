-- The rows of the table of contents.
use Rattle.std.specs.Prelude.{◌≡◌, ◌≢◌, ℕ, ◌+◌, ◌*◌, ◌/◌, ◌-◌, ◌<◌, ◌≤◌, List, AllPairs, length, take, drop, slice_index_or, slice_range}
use Rattle.std.specs.List.{AllAdjacentBelow}
use Rattle.std.specs.Int.{w64, from_be_bytes}
use Rattle.std.specs.Simd.{first_chunks}
use Rattle.gitcommitgraph.specs.Texts.{no_name}
use Rattle.gitcommitgraph.specs.declared.contents.Span.{Span}

-- the bytes cut into pieces of this length
abbrev pub pieces : ℕ → List ℕ → List (List ℕ)
pieces n bytes = first_chunks n (length bytes / n) bytes

-- the chunk name in a row
abbrev pub row_name : List ℕ → List ℕ
row_name row = take 4 row

unfoldable pub row_offset : List ℕ → ℕ
row_offset row = from_be_bytes w64 (drop 4 row)

-- no row has a lower offset than the previous row
abbrev pub IsRising : List (List ℕ) → Type 0
IsRising rows = AllAdjacentBelow (λ one other. row_offset one ≤ row_offset other) rows (length rows)

-- no two rows have the same name
abbrev pub AreDistinct : List (List ℕ) → Type 0
AreDistinct rows = AllPairs (λ one other. row_name one ≢ row_name other) rows

-- the rows for contiguous chunks from `start` to `end`: a row for each chunk, and a last row with the offset `end`
pub record AreRows (start end : ℕ) (rows : List (List ℕ)) : Type 0 where
  pub first : (d : List ℕ) → row_offset (slice_index_or rows 0 d) ≡ start
  pub rising : IsRising rows
  pub last : (d : List ℕ) → row_offset (slice_index_or rows (length rows - 1) d) ≡ end
  pub unnamed : (d : List ℕ) → row_name (slice_index_or rows (length rows - 1) d) ≡ no_name
  pub distinct : AreDistinct rows

-- the rows of the table of contents for this number of chunks, in a file without its trailer
pub record IsTable (count : ℕ) (body : List ℕ) (rows : List (List ℕ)) : Type 0 where
  pub inside : 8 + 12 * (count + 1) ≤ length body
  pub cut : rows ≡ pieces 12 (slice_range body 8 (8 + 12 * (count + 1)))
  pub are : AreRows (8 + 12 * (count + 1)) (length body) rows

-- the chunk with this name is at this span
pub record IsSpan (rows : List (List ℕ)) (name : List ℕ) (span : Span) : Type 0 where
  pub place : ℕ
  pub inside : place + 1 < length rows
  pub named : (d : List ℕ) → row_name (slice_index_or rows place d) ≡ name
  pub start : (d : List ℕ) → span.start ≡ row_offset (slice_index_or rows place d)
  pub end : (d : List ℕ) → span.end ≡ row_offset (slice_index_or rows (place + 1) d)

-- no chunk has this name
abbrev pub LacksName : List (List ℕ) → List ℕ → Type 0
LacksName rows name = (k : ℕ) (d : List ℕ) → k + 1 < length rows → row_name (slice_index_or rows k d) ≢ name
