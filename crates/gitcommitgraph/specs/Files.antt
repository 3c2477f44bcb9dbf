-- The contents of a commit-graph file (gitformat-commit-graph(5), "CHUNK DATA").
use Rattle.std.specs.Prelude.{◌≡◌, ℕ, ◌-◌, ◌<◌, ◌≤◌, ◌==◌, ◌⊎◌, if◌then◌else◌, nat_lt, List, [], ◌∷◌, All, length, drop, slice_index_or, slice_range}
use Rattle.std.specs.List.{AllAdjacentBelow}
use Rattle.std.specs.Int.{w32, from_be_bytes}
use Rattle.std.specs.Ordering.{nat_cmp}
use Rattle.std.specs.declared.cmp.Ordering.TheVariants.{Less}
use Rattle.std.specs.Cmp.Lexicographic.{slice_cmp}
use Rattle.gname.specs.Ids.{Id}

-- The contents of a file: the checksums of its base graphs, the ids of its commits, a row of commit data for each id,
-- the edges of octopus merges, and the file's own checksum.
pub record GraphFile : Type 0 where
  pub bases : List Id
  pub ids : List Id
  pub rows : List (List ℕ)
  pub edges : List (List ℕ)
  pub checksum : Id

-- a commit: its id, and the positions of its parents in the commit-graph
pub record Commit : Type 0 where
  pub id : Id
  pub parents : List ℕ

-- ---- parents

-- the number that four bytes encode, the most significant byte first
unfoldable pub number : List ℕ → ℕ
number bytes = from_be_bytes w32 bytes

-- the number for the first parent in a row, after the id of the tree
abbrev pub first_parent : List ℕ → ℕ
first_parent row = number (slice_range row 20 24)

abbrev pub second_parent : List ℕ → ℕ
second_parent row = number (slice_range row 24 28)

-- the number that is stored if there is no parent
abbrev pub no_parent : ℕ
no_parent = 0x7000_0000

-- 2^31: the bit that marks the last edge of a list, and also a second parent number that refers to an edge list
abbrev pub mark : ℕ
mark = 0x8000_0000

-- the parents in an edge list: the positions before the first marked number, and the marked number without its mark
abbrev pub edge_list : List (List ℕ) → List ℕ
edge_list [] = []
edge_list (edge ∷ edges) =
    if nat_lt (number edge) mark then number edge ∷ edge_list edges else (number edge - mark) ∷ []

-- The parents that the two numbers of a row encode: none, the first, or both. A marked second number without its mark
-- is the index in the edge table at which the list of further parents begins.
abbrev pub parents_by : List (List ℕ) → ℕ → ℕ → List ℕ
parents_by edges first second =
    if first == no_parent then []
    else (if second == no_parent then first ∷ []
    else (if nat_lt second mark then first ∷ second ∷ []
    else first ∷ edge_list (drop (second - mark) edges)))

-- the parents that a row encodes
abbrev pub row_parents : List (List ℕ) → List ℕ → List ℕ
row_parents edges row = parents_by edges (first_parent row) (second_parent row)

-- ---- commits

-- the commits with these ids and these rows
abbrev pub commits_of : List (List ℕ) → List Id → List (List ℕ) → List Commit
commits_of edges [] rows = []
commits_of edges (id ∷ ids) [] = []
commits_of edges (id ∷ ids) (row ∷ rows) =
    record { id = id; parents = row_parents edges row } ∷ commits_of edges ids rows

-- the commits of a file, in the order of their ids
abbrev pub file_commits : GraphFile → List Commit
file_commits file = commits_of file.edges file.ids file.rows

-- ---- form

-- each row has `n` bytes
abbrev pub AreLong : ℕ → List (List ℕ) → Type 0
AreLong n rows = All (λ row. length row ≡ n) rows

-- each id is less than the next id
abbrev pub IsAscending : List Id → Type 0
IsAscending ids = AllAdjacentBelow (λ one other. slice_cmp nat_cmp one other ≡ Less) ids (length ids)

-- the edge index in a row, if any, is less than this count
abbrev pub NamesEdge : ℕ → List ℕ → Type 0
NamesEdge count row = mark ≤ second_parent row → second_parent row - mark < count

-- Each edge list that a row refers to begins at a valid index in the edge table. The last edge is marked, so each list
-- has an end.
pub record HaveEnds (edges rows : List (List ℕ)) : Type 0 where
  pub last : (d : List ℕ) → 0 < length edges → mark ≤ number (slice_index_or edges (length edges - 1) d)
  pub begins : All (NamesEdge (length edges)) rows

-- The form of a file: ascending ids of 20 bytes, a row of 36 bytes for each id, edges of 4 bytes, and checksums of 20
-- bytes. Each edge list has an end. There are at most 0x7000_0000 ids, so no index of an id equals `no_parent`.
pub record IsGraphFile (file : GraphFile) : Type 0 where
  pub bases : AreLong 20 file.bases
  pub ids : AreLong 20 file.ids
  pub rows : AreLong 36 file.rows
  pub edges : AreLong 4 file.edges
  pub checksum : length file.checksum ≡ 20
  pub few : length file.ids ≤ no_parent
  pub each : length file.rows ≡ length file.ids
  pub ascending : IsAscending file.ids
  pub ended : HaveEnds file.edges file.rows

-- ---- positions

-- the parent number says that there is no parent, or it is a position less than `end`
abbrev pub IsBefore : ℕ → ℕ → Type 0
IsBefore end parent = (parent ≡ no_parent) ⊎ (parent < end)

-- the parents in a row, except those in its edge list, have positions less than `end`
pub record IsRowBefore (end : ℕ) (row : List ℕ) : Type 0 where
  pub first : IsBefore end (first_parent row)
  pub second : second_parent row < mark → IsBefore end (second_parent row)

-- the parent in an edge has a position less than `end`
pub record IsEdgeBefore (end : ℕ) (edge : List ℕ) : Type 0 where
  pub inner : number edge < mark → number edge < end
  pub last : mark ≤ number edge → number edge - mark < end

-- each position in a file is less than `end`
pub record HasPositionsBefore (end : ℕ) (file : GraphFile) : Type 0 where
  pub rows : All (IsRowBefore end) file.rows
  pub edges : All (IsEdgeBefore end) file.edges
