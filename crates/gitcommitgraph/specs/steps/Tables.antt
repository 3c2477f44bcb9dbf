-- Finding an id in the tables of a file, and checking the tables.
use Rattle.std.specs.Prelude.{◌≡◌, ◌≢◌, ℕ, ◌<◌, ◌≤◌, List, All, Option, MatchOption, length, slice_index, slice_index_or, count_by}
use Rattle.std.specs.List.{HoldsAt}
use Rattle.gname.specs.Ids.{Id}
use Rattle.gitcommitgraph.specs.Files.{number}
use Rattle.gitcommitgraph.specs.Texts.{begins_within}

-- a fan-out table of 256 numbers: for each byte, the number of ids that begin with this byte or a lower byte
pub record IsFanOut (rows : List (List ℕ)) (ids : List Id) : Type 0 where
  pub long : length rows ≡ 256
  pub counted : (byte : ℕ) (d : List ℕ) → byte < 256
      → number (slice_index_or rows byte d) ≡ count_by (begins_within byte) ids

-- the ids at indexes below `start` begin with a byte lower than `byte`, and the ids from index `end` on begin with a
-- higher byte
pub record AreBetween (byte : ℕ) (ids : List Id) (start end : ℕ) : Type 0 where
  pub ordered : start ≤ end
  pub inside : end ≤ length ids
  pub before : (k : ℕ) (d : Id) → k < start → slice_index (slice_index_or ids k d) 0 < byte
  pub after : (k : ℕ) (d : Id) → end ≤ k → k < length ids → byte < slice_index (slice_index_or ids k d) 0

-- the index of an id, or `None` if the id is not in the list
abbrev pub IsPlaceOf : List Id → Id → Option ℕ → Type 0
IsPlaceOf ids id result =
    MatchOption result (All (λ other. other ≢ id) ids)
    (λ place. (place < length ids) × HoldsAt (λ other. other ≡ id) ids place)
