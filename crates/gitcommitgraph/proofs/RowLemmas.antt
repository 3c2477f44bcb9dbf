-- The table of contents, and the chunks that its rows describe.
use Rattle.std.proofs.Common.{◌≡◌, ◌≢◌, ℕ, zero, suc, ◌+◌, ◌-◌, ◌*◌, ◌<◌, ◌≤◌, List, [], ◌∷◌, ◌++◌, length, take, drop, get_or, slice_range, All, refl, sym, ap, subst, ◌∙◌, arith}
use Rattle.std.specs.List.{concat, flat_map}
use Rattle.std.specs.List.Sorted.{IsNonDecreasingBy}
use Rattle.std.specs.Int.{w64, to_be_bytes}
use Rattle.std.specs.Simd.{first_chunks}
use Rattle.std.proofs.lemmas.List.{append_assoc, append-nil, drop-drop, drop-take, get_or-drop, length-drop, length-take-le, take-append-drop, take-take}
use Rattle.std.proofs.lemmas.List.Sorted.{IsNonDecreasingBy-from_all_adjacent}
use Rattle.std.proofs.lemmas.Nat.{be_bytes_8}
use Rattle.gitcommitgraph.specs.Texts.{AreNamed, Chunk, HasChunk, chunk_bytes, contents, no_name}
use Rattle.gitcommitgraph.specs.steps.Rows.{AreRows, IsRising, IsSpan, LacksName, row_name, row_offset}
use Rattle.gitcommitgraph.specs.declared.contents.Span.{Span}

-- ---- ranges of bytes

take_nil : (k : ℕ) → take {A = ℕ} k [] ≡ []
take_nil zero = refl
take_nil (suc k) = refl

-- the first `m` elements and the next `n` elements together are the first `m + n` elements
pub take_joins : (m n : ℕ) (l : List ℕ) → take m l ++ take n (drop m l) ≡ take (m + n) l
take_joins zero n l = let same : n ≡ zero + n = omega arith in ap (λ k. take k l) same
take_joins (suc m) n [] = take_nil n ∙ sym (take_nil (suc m + n))
take_joins (suc m) n (x ∷ l) = let same : suc (m + n) ≡ suc m + n = omega arith in ap (λ t. x ∷ t) (take_joins m n l) ∙ ap (λ k. take k (x ∷ l)) same

-- two adjacent ranges together are one range
pub range_joins : (a b c : ℕ) (l : List ℕ) → a ≤ b → b ≤ c → slice_range l a b ++ slice_range l b c ≡ slice_range l a c
range_joins a b c l low high =
    let at : b ≡ a + (b - a) = omega (arith, low) in
    let rest : drop b l ≡ drop (b - a) (drop a l) = ap (λ n. drop n l) at ∙ sym (drop-drop (b - a) a l) in
    let long : c - a ≡ (b - a) + (c - b) = omega (arith, low, high) in
    ap (λ r. take (b - a) (drop a l) ++ take (c - b) r) rest ∙ take_joins (b - a) (c - b) (drop a l) ∙ ap (λ n. take n (drop a l)) (sym long)

-- a range within the first `n` elements is the same range of the whole list
pub range_take : (a b n : ℕ) (l : List ℕ) → a ≤ b → b ≤ n → slice_range (take n l) a b ≡ slice_range l a b
range_take a b n l low high =
    let m : a + (n - a) ≡ n = omega (arith, low, high) in
    ap (λ k. take (b - a) (drop a (take k l))) (sym m) ∙ ap (take (b - a)) (drop-take a (n - a) l)
    ∙ take-take (b - a) (n - a) (drop a l) (omega (arith, low, high))

pub length-range : (a b : ℕ) (l : List ℕ) → a ≤ b → b ≤ length l → length (slice_range l a b) ≡ b - a
length-range a b l low high = let rest = length-drop a l in length-take-le (b - a) (drop a l) (omega (arith, rest, low, high))

-- ---- the chunks that rows describe

abbrev pub chunk_from : List ℕ → List ℕ → List ℕ → Chunk
chunk_from bytes row next = record { name = row_name row; bytes = slice_range bytes (row_offset row) (row_offset next) }

abbrev pub chunks_from : List ℕ → List ℕ → List (List ℕ) → List Chunk
chunks_from bytes row [] = []
chunks_from bytes row (next ∷ rows) = chunk_from bytes row next ∷ chunks_from bytes next rows

-- a row of twelve bytes
pub record IsRow (row : List ℕ) : Type 0 where
  pub long : length row ≡ 12
  pub bytes : (i : ℕ) → get_or row i 0 < 256

-- the offsets of the rows never decrease, and the last row has no name and the offset `end`
abbrev pub LeadTo : ℕ → List ℕ → List (List ℕ) → Type 0
LeadTo end row [] = IsRow row × (row_name row ≡ no_name) × (row_offset row ≡ end)
LeadTo end row (next ∷ rows) = IsRow row × (row_offset row ≤ row_offset next) × LeadTo end next rows

row_is : (row : List ℕ) → IsRow row → row ≡ row_name row ++ to_be_bytes w64 (row_offset row)
unfolding row_offset
row_is row is =
    let rest = length-drop 4 row in
    let bytes = be_bytes_8 (drop 4 row) (row_offset row) (let long = is.long in omega (arith, rest, long))
    (λ i. subst (λ b. b < 256) (sym (get_or-drop 4 row i 0)) (is.bytes (4 + i))) refl in
    sym (take-append-drop 4 row) ∙ ap (λ l. row_name row ++ l) (sym bytes)

-- the offset of the first row is at most `end`
before_end : (end : ℕ) (row : List ℕ) (rows : List (List ℕ)) → LeadTo end row rows → row_offset row ≤ end
before_end end row [] h = let e = h.2 in omega (arith, e)
before_end end row (next ∷ rows) h = let low = h.1 in let more = before_end end next rows h.2 in omega (arith, low, more)

module _ (bytes : List ℕ) (end : ℕ) (within : end ≤ length bytes) where
  -- the table of contents of the described chunks consists of the rows
  pub contents_are : (row : List ℕ) (rows : List (List ℕ)) → LeadTo end row rows → contents (row_offset row) (chunks_from bytes row rows) ≡ concat (row ∷ rows)
  contents_are row [] h =
      ap (λ n. n ++ to_be_bytes w64 (row_offset row)) (sym h.1) ∙ sym (row_is row h.0) ∙ sym (append-nil row)
  contents_are row (next ∷ rows) h =
      let low = h.1 in
      let more = before_end end next rows h.2 in
      let long = length-range (row_offset row) (row_offset next) bytes low (omega (arith, more, within)) in
      let on : row_offset row + length (slice_range bytes (row_offset row) (row_offset next)) ≡ row_offset next = omega (arith, long, low) in
      ap (λ n. row_name row ++ (to_be_bytes w64 (row_offset row) ++ contents n (chunks_from bytes next rows))) on
      ∙ ap (λ l. row_name row ++ (to_be_bytes w64 (row_offset row) ++ l)) (contents_are next rows h.2)
      ∙ sym (append_assoc (row_name row) (to_be_bytes w64 (row_offset row)) (concat (next ∷ rows)))
      ∙ ap (λ l. l ++ concat (next ∷ rows)) (sym (row_is row h.0))

  -- the described chunks together are all bytes from the offset of the first row to `end`
  pub bytes_are : (row : List ℕ) (rows : List (List ℕ)) → LeadTo end row rows → flat_map chunk_bytes (chunks_from bytes row rows) ≡ slice_range bytes (row_offset row) end
  bytes_are row [] h =
      let none : end - row_offset row ≡ 0 = let e = h.2 in omega (arith, e) in
      sym (ap (λ n. take n (drop (row_offset row) bytes)) none)
  bytes_are row (next ∷ rows) h =
      ap (λ l. slice_range bytes (row_offset row) (row_offset next) ++ l) (bytes_are next rows h.2)
      ∙ range_joins (row_offset row) (row_offset next) end bytes h.1 (before_end end next rows h.2)

pub length-chunks : (bytes row : List ℕ) (rows : List (List ℕ)) → length (chunks_from bytes row rows) ≡ length rows
length-chunks bytes row [] = refl
length-chunks bytes row (next ∷ rows) = ap suc (length-chunks bytes next rows)

pub chunk_at : (bytes row : List ℕ) (rows : List (List ℕ)) (k : ℕ) (c : Chunk) (d : List ℕ) → k < length rows
    → get_or (chunks_from bytes row rows) k c ≡ chunk_from bytes (get_or (row ∷ rows) k d) (get_or (row ∷ rows) (k + 1) d)
chunk_at bytes row [] k c d inside = absurd (omega (arith, inside))
chunk_at bytes row (next ∷ rows) zero c d inside = refl
chunk_at bytes row (next ∷ rows) (suc k) c d inside =
    let on : suc (k + 1) ≡ suc k + 1 = omega arith in
    chunk_at bytes next rows k c d (omega (arith, inside))
    ∙ ap (λ n. chunk_from bytes (get_or (next ∷ rows) k d) (get_or (row ∷ next ∷ rows) n d)) on

-- the chunks that a list of rows describes
abbrev pub chunks_of : List ℕ → List (List ℕ) → List Chunk
chunks_of bytes [] = []
chunks_of bytes (row ∷ rows) = chunks_from bytes row rows

-- ---- consequences of the checks of the rows

rising_rest : (row : List ℕ) (rows : List (List ℕ)) → IsRising (row ∷ rows) → IsRising rows
rising_rest row rows up k d h =
    let on : suc k + 1 ≡ suc (k + 1) = omega arith in
    subst (λ n. row_offset (get_or rows k d) ≤ row_offset (get_or (row ∷ rows) n d)) on (up (suc k) d (omega (arith, h)))

leads : (end : ℕ) (row : List ℕ) (rows : List (List ℕ)) → All IsRow (row ∷ rows) → IsRising (row ∷ rows)
    → ((d : List ℕ) → row_offset (get_or (row ∷ rows) (length rows) d) ≡ end) → ((d : List ℕ) → row_name (get_or (row ∷ rows) (length rows) d) ≡ no_name)
    → LeadTo end row rows
leads end row [] each up last unnamed = (each 0 [] (omega arith), unnamed [], last [])
leads end row (next ∷ rows) each up last unnamed = (
  each 0 [] (omega arith),
  up 0 [] (omega arith),
  leads end next rows (λ k d h. each (suc k) d (omega (arith, h))) (rising_rest row (next ∷ rows) up) last unnamed,
)

module _ (start end : ℕ) (row : List ℕ) (rows : List (List ℕ)) (are : AreRows start end (row ∷ rows)) where
  one_less : length (row ∷ rows) - 1 ≡ length rows
  one_less = omega arith

  last_name : (d : List ℕ) → row_name (get_or (row ∷ rows) (length rows) d) ≡ no_name
  last_name d = ap (λ n. row_name (get_or (row ∷ rows) n d)) (sym one_less) ∙ are.unnamed d

  pub lead : All IsRow (row ∷ rows) → LeadTo end row rows
  lead each = leads end row rows each are.rising (λ d. ap (λ n. row_offset (get_or (row ∷ rows) n d)) (sym one_less) ∙ are.last d) last_name

  pub are_named : (bytes : List ℕ) → All IsRow (row ∷ rows) → AreNamed (chunks_from bytes row rows)
  are_named bytes each =
      let n = length-chunks bytes row rows in record {
        long = λ k c inside.
            let at = chunk_at bytes row rows k c [] (omega (arith, n, inside)) in
            let whole = (each k [] (omega (arith, n, inside))).long in
            ap (λ (c : Chunk). length c.name) at ∙ length-take-le 4 (get_or (row ∷ rows) k []) (omega (arith, whole));
        named = λ k c inside same.
            let at = chunk_at bytes row rows k c [] (omega (arith, n, inside)) in
            are.distinct k (length rows) [] (omega (arith, n, inside)) (omega arith) (sym (ap (λ (c : Chunk). c.name) at) ∙ same ∙ sym (last_name []));
        distinct = λ i j c low inside same.
            let one = chunk_at bytes row rows i c [] (omega (arith, n, low, inside)) in
            let other = chunk_at bytes row rows j c [] (omega (arith, n, inside)) in
            are.distinct i j [] low (omega (arith, n, inside)) (sym (ap (λ (c : Chunk). c.name) one) ∙ same ∙ ap (λ (c : Chunk). c.name) other);
      }

  -- a chunk whose span was found is one of the described chunks
  pub has_chunk : (bytes name : List ℕ) (span : Span) → IsSpan (row ∷ rows) name span → HasChunk (chunks_from bytes row rows) name (slice_range bytes span.start span.end)
  has_chunk bytes name span is =
      let n = length-chunks bytes row rows in
      let k = is.place in
      let chunk : Chunk = record { name = name; bytes = slice_range bytes span.start span.end } in
      let at = chunk_at bytes row rows k chunk [] (let i = is.inside in omega (arith, i)) in (
        k,
        let i = is.inside in omega (arith, n, i),
        at ∙ ap (λ m. record { name = m; bytes = slice_range bytes (row_offset (get_or (row ∷ rows) k [])) (row_offset (get_or (row ∷ rows) (k + 1) [])) }) (is.named [])
            ∙ ap (λ a. record { name = name; bytes = slice_range bytes a (row_offset (get_or (row ∷ rows) (k + 1) [])) }) (sym (is.start []))
            ∙ ap (λ b. record { name = name; bytes = slice_range bytes span.start b }) (sym (is.end [])),
      )

  pub lacks_chunk : (bytes name : List ℕ) → LacksName (row ∷ rows) name → All (λ (c : Chunk). c.name ≢ name) (chunks_from bytes row rows)
  lacks_chunk bytes name lacks k c inside same =
      let n = length-chunks bytes row rows in
      let at = chunk_at bytes row rows k c [] (omega (arith, n, inside)) in
      lacks k [] (omega (arith, n, inside)) (sym (ap (λ (c : Chunk). c.name) at) ∙ same)

  -- the span of a chunk ends at or before `end`
  pub span_within : (name : List ℕ) (span : Span) → IsSpan (row ∷ rows) name span → (span.start ≤ span.end) × (span.end ≤ end)
  span_within name span is =
      let up : IsNonDecreasingBy row_offset (row ∷ rows) = IsNonDecreasingBy-from_all_adjacent row_offset (row ∷ rows) are.rising in
      let i = is.inside in
      let k = is.place in
      let from = is.start [] in
      let to = is.end [] in
      let rises = up k (k + 1) [] (omega arith) i in
      let last = up (k + 1) (length rows) [] (omega (arith, i)) (omega arith) in
      let at = ap (λ n. row_offset (get_or (row ∷ rows) n [])) (sym one_less) ∙ are.last [] in
      (omega (arith, from, to, rises), omega (arith, to, last, at))

-- ---- bytes split into pieces

-- the first `n` elements are below 256 if all elements are
pub take_small : (n : ℕ) (l : List ℕ) → ((i : ℕ) → get_or l i 0 < 256) → (i : ℕ) → get_or (take n l) i 0 < 256
take_small zero l h i = omega arith
take_small (suc n) [] h i = omega arith
take_small (suc n) (b ∷ l) h zero = h zero
take_small (suc n) (b ∷ l) h (suc i) = take_small n l (λ j. h (suc j)) i

pub drop_small : (n : ℕ) (l : List ℕ) → ((i : ℕ) → get_or l i 0 < 256) → (i : ℕ) → get_or (drop n l) i 0 < 256
drop_small n l h i = subst (λ b. b < 256) (sym (get_or-drop n l i 0)) (h (n + i))

pub pieces_small : (n k : ℕ) (l : List ℕ) → ((i : ℕ) → get_or l i 0 < 256) → All (λ row. (i : ℕ) → get_or row i 0 < 256) (first_chunks n k l)
pieces_small n zero l h = λ k d inside. absurd (omega (arith, inside))
pieces_small n (suc k) l h = λ j d inside. elim j as (λ j. j < suc (length (first_chunks n k (drop n l))) → (i : ℕ) → get_or (get_or (first_chunks n (suc k) l) j d) i 0 < 256) [
  | zero ↦ λ here. take_small n l h
  | suc j ↦ λ here. pieces_small n k (drop n l) (drop_small n l h) j d (omega (arith, here))
] inside

-- each of the first `k` pieces has `n` bytes
pub pieces_long : (n k : ℕ) (l : List ℕ) → k * n ≤ length l → All (λ row. length row ≡ n) (first_chunks n k l)
pieces_long n zero l h = λ j d inside. absurd (omega (arith, inside))
pieces_long n (suc k) l h =
    let rest = length-drop n l in λ j d inside. elim j as (λ j. j < suc (length (first_chunks n k (drop n l))) → length (get_or (first_chunks n (suc k) l) j d) ≡ n) [
      | zero ↦ λ here. length-take-le n l (omega (arith, h))
      | suc j ↦ λ here. pieces_long n k (drop n l) (omega (arith, h, rest)) j d (omega (arith, here))
    ] inside

pub pieces_many : (n k : ℕ) (l : List ℕ) → length (first_chunks n k l) ≡ k
pieces_many n zero l = refl
pieces_many n (suc k) l = ap suc (pieces_many n k (drop n l))

-- the concatenation of all pieces is the original bytes
pub pieces_joined : (n k : ℕ) (l : List ℕ) → length l ≡ k * n → concat (first_chunks n k l) ≡ l
pieces_joined n zero l h = sym (nil l (omega (arith, h))) where
  nil : (l : List ℕ) → length l ≡ 0 → l ≡ []
  nil [] h = refl
  nil (b ∷ l) h = absurd (omega (arith, h))
pieces_joined n (suc k) l h =
    let rest = length-drop n l in
    ap (λ t. take n l ++ t) (pieces_joined n k (drop n l) (omega (arith, h, rest))) ∙ take-append-drop n l
