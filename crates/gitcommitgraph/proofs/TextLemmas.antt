-- The form of the text of a file, from the checks that the text passed.
use Rattle.std.proofs.Common.{◌≡◌, ℕ, zero, suc, ◌+◌, ◌-◌, ◌*◌, ◌/◌, ◌%◌, ◌<◌, ◌≤◌, inl, inr, List, [], ◌∷◌, ◌++◌, codes, length, take, drop, get_or, slice_range, All, count_by, refl, sym, ap, subst, ◌∙◌, add-one, arith}
use Rattle.std.specs.List.{concat, flat_map}
use Rattle.std.specs.Int.{w32, to_be_bytes}
use Rattle.std.specs.Simd.{first_chunks}
use Rattle.std.proofs.lemmas.List.{append_assoc, append-nil, length-drop, length-take-le, take-append-drop, take-take, take_all, take_more}
use Rattle.std.proofs.lemmas.Nat.{be_bytes_4, div-add-mod'}
use Rattle.gname.specs.Ids.{Id}
use Rattle.gitcommitgraph.specs.Files.{AreLong, HaveEnds, IsAscending, IsGraphFile, no_parent, number}
use Rattle.gitcommitgraph.specs.Texts.{Chunk, HasChunk, IsFramed, IsGraphText, MayHaveChunk, begins_within, chunk_bytes, contents, fan_out, header}
use Rattle.gitcommitgraph.specs.steps.Rows.{AreRows, IsSpan, IsTable, pieces, row_offset}
use Rattle.gitcommitgraph.specs.steps.Tables.{IsFanOut}
use Rattle.gitcommitgraph.specs.steps.Layers.{ArePlaces, HaveLengths, IsCut, IsFileAt, IsWithin, MayBeSpan, file_at, part, size, table}
use Rattle.gitcommitgraph.specs.declared.contents.Span.{Span}
use Rattle.gitcommitgraph.specs.declared.layer.Places.{Places}
use Rattle.gitcommitgraph.proofs.RowLemmas.{IsRow, are_named, bytes_are, chunks_from, contents_are, drop_small, has_chunk, lacks_chunk, lead, length-chunks, length-range, pieces_joined, pieces_long, pieces_many, pieces_small, range_joins, range_take, span_within, take_joins, take_small}

-- ---- the bytes of a file, part by part

-- the parts of a file: the header, the table of contents, the chunks, and the trailer
four_parts : (a b n : ℕ) (l : List ℕ) → a ≤ b → b ≤ n → take a l ++ (slice_range l a b ++ (slice_range l b n ++ drop n l)) ≡ l
four_parts a b n l low high =
    let long : a + (n - a) ≡ n = omega (arith, low, high) in
    let first : take a l ++ slice_range l a n ≡ take n l = take_joins a (n - a) l ∙ ap (λ m. take m l) long in
    ap (λ r. take a l ++ r) (sym (append_assoc (slice_range l a b) (slice_range l b n) (drop n l)))
    ∙ ap (λ r. take a l ++ (r ++ drop n l)) (range_joins a b n l low high)
    ∙ sym (append_assoc (take a l) (slice_range l a n) (drop n l))
    ∙ ap (λ r. r ++ drop n l) first ∙ take-append-drop n l

-- the table of contents, split into rows
module _ (bytes : List ℕ) (chunks bases : ℕ) (rest : List ℕ) (places : Places) (long : 20 ≤ length bytes)
    (small : (i : ℕ) → get_or bytes i 0 < 256) (headed : take (length bytes - 20) bytes ≡ header chunks bases ++ rest)
    (lengths : HaveLengths places bases) where
  abbrev end : ℕ
  end = length bytes - 20

  abbrev start : ℕ
  start = 8 + 12 * (chunks + 1)

  -- the first row, and the other rows
  abbrev row : List ℕ
  row = take 12 (slice_range bytes 8 start)

  abbrev rows : List (List ℕ)
  rows = first_chunks 12 chunks (drop 12 (slice_range bytes 8 start))

  abbrev found : List Chunk
  found = chunks_from bytes row rows

  cut : start ≤ end → AreRows start end (row ∷ rows) → ArePlaces (row ∷ rows) places → IsCut bytes places
  cut inside are at =
      let table_long = length-range 8 start bytes (omega arith) (omega (arith, inside)) in
      let twelve : length (slice_range bytes 8 start) ≡ suc chunks * 12 = omega (arith, table_long) in
      let each : All IsRow (row ∷ rows) = λ k d h. record {
        long = pieces_long 12 (suc chunks) (slice_range bytes 8 start) (omega (arith, twelve)) k d h;
        bytes = pieces_small 12 (suc chunks) (slice_range bytes 8 start) (take_small (start - 8) (drop 8 bytes) (drop_small 8 bytes small)) k d h;
      } in
      let leads = lead start end row rows are each in
      let within : end ≤ length bytes = omega arith in
      let many : length found ≡ chunks = length-chunks bytes row rows ∙ pieces_many 12 chunks (drop 12 (slice_range bytes 8 start)) in
      let first : row_offset row ≡ start = are.first [] in
      let listed : contents start found ≡ slice_range bytes 8 start =
      ap (λ n. contents n found) (sym first) ∙ contents_are bytes end within row rows leads ∙ pieces_joined 12 (suc chunks) (slice_range bytes 8 start) twelve in
      let filled : flat_map chunk_bytes found ≡ slice_range bytes start end =
      bytes_are bytes end within row rows leads ∙ ap (λ n. slice_range bytes n end) first in
      let front : take 8 bytes ≡ header chunks bases =
      sym (take-take 8 end bytes (omega (arith, inside))) ∙ ap (take 8) headed in
      let has = has_chunk start end row rows are bytes in
      let in_bytes = λ (name : List ℕ) (span : Span) (is : IsSpan (row ∷ rows) name span). is_within span (span_within start end row rows are name span is) in
      record {
        bases_count = bases;
        chunks = found;
        framed = record {
          parts = sym (four_parts 8 start end bytes (omega arith) inside)
              ∙ ap (λ l. l ++ (slice_range bytes 8 start ++ (slice_range bytes start end ++ drop end bytes))) front
              ∙ ap (λ l. header chunks bases ++ (l ++ (slice_range bytes start end ++ drop end bytes))) (sym listed)
              ∙ ap (λ l. header chunks bases ++ (contents start found ++ (l ++ drop end bytes))) (sym filled)
              ∙ ap (λ n. header n bases ++ (contents (8 + 12 * (n + 1)) found ++ (flat_map chunk_bytes found ++ drop end bytes))) (sym many);
          named = are_named start end row rows are bytes each;
          long = let n = length-drop end bytes in omega (arith, n);
        };
        small = small;
        within = record {
          fan_out = in_bytes _ places.fan_out at.fan_out;
          ids = in_bytes _ places.ids at.ids;
          rows = in_bytes _ places.rows at.rows_at;
          edges = may_be_within are _ places.edges at.edges;
          bases = may_be_within are _ places.bases at.bases;
        };
        fan_out = has _ places.fan_out at.fan_out;
        ids = has _ places.ids at.ids;
        rows = has _ places.rows at.rows_at;
        edges = may_have are _ places.edges at.edges;
        bases = may_have are _ places.bases at.bases;
        lengths = lengths;
      }
    where
      is_within : (span : Span) → (span.start ≤ span.end) × (span.end ≤ end) → IsWithin bytes span
      is_within span h = record { ordered = h.0; inside = let low = h.1 in omega (arith, low) }

      may_be_within : AreRows start end (row ∷ rows) → (name : List ℕ) (span : Span) → MayBeSpan (row ∷ rows) name span → IsWithin bytes span
      may_be_within are name span may = elim may.cases [
        | inl is ↦ is_within span (span_within start end row rows are name span is)
        | inr none ↦ let from = none.1 in let to = none.2 in record { ordered = omega (arith, from, to); inside = omega (arith, to) }
      ]

      may_have : AreRows start end (row ∷ rows) → (name : List ℕ) (span : Span) → MayBeSpan (row ∷ rows) name span
          → MayHaveChunk (chunks_from bytes row rows) name (slice_range bytes span.start span.end)
      may_have are name span may = elim may.cases [
        | inl is ↦ inl (has_chunk start end row rows are bytes name span is)
        | inr none ↦ let to = none.2 in
            inr (ap (λ n. take n (drop span.start bytes)) (let nothing : span.end - span.start ≡ 0 = omega (arith, to) in nothing), lacks_chunk start end row rows are bytes name none.0)
      ]

  pub cut_is : (table_rows : List (List ℕ)) → IsTable chunks (take (length bytes - 20) bytes) table_rows → ArePlaces table_rows places → IsCut bytes places
  cut_is table_rows is at =
      let short : length (take end bytes) ≡ end = length-take-le end bytes (omega arith) in
      let inside : start ≤ end = let i = is.inside in omega (arith, i, short) in
      let same : slice_range (take end bytes) 8 start ≡ slice_range bytes 8 start = range_take 8 start end bytes (omega arith) inside in
      let table_long = length-range 8 start bytes (omega arith) (omega (arith, inside)) in
      let twelve : length (slice_range bytes 8 start) / 12 ≡ suc chunks = omega (arith, table_long) in
      let are_these : table_rows ≡ row ∷ rows =
      is.cut ∙ ap (pieces 12) same ∙ ap (λ n. first_chunks 12 n (slice_range bytes 8 start)) twelve in
      cut inside
      (subst (AreRows start end) are_these (subst (λ n. AreRows start n table_rows) short is.are))
      (subst (λ r. ArePlaces r places) are_these at)

-- ---- the tables

-- the bytes at a span, split into rows of `n` bytes
module _ (n : ℕ) (bytes : List ℕ) (span : Span) (within : IsWithin bytes span) (even : size span % n ≡ 0) where
  part_long : length (part bytes span) ≡ size span
  part_long = length-range span.start span.end bytes within.ordered within.inside

  part_even : length (part bytes span) ≡ (length (part bytes span) / n) * n
  part_even =
      let all = div-add-mod' (length (part bytes span)) n in
      let rest = ap (λ m. m % n) part_long ∙ even in
      omega (arith, all, rest)

  pub rows_long : AreLong n (table n bytes span)
  rows_long = let e = part_even in pieces_long n (length (part bytes span) / n) (part bytes span) (omega (arith, e))

  pub rows_joined : concat (table n bytes span) ≡ part bytes span
  rows_joined = pieces_joined n (length (part bytes span) / n) (part bytes span) part_even

  pub rows_many : length (table n bytes span) ≡ size span / n
  rows_many = pieces_many n (length (part bytes span) / n) (part bytes span) ∙ ap (λ m. m / n) part_long

  pub rows_small : ((i : ℕ) → get_or bytes i 0 < 256) → All (λ row. (i : ℕ) → get_or row i 0 < 256) (table n bytes span)
  rows_small small = pieces_small n (length (part bytes span) / n) (part bytes span) (take_small (span.end - span.start) (drop span.start bytes) (drop_small span.start bytes small))

-- the fan-out table of the ids, as the concatenation of its rows
concat_push : (rows : List (List ℕ)) (row : List ℕ) → concat (rows ++ row ∷ []) ≡ concat rows ++ row
concat_push [] row = append-nil row
concat_push (r ∷ rows) row = ap (λ l. r ++ l) (concat_push rows row) ∙ sym (append_assoc r (concat rows) row)

fans : (rows : List (List ℕ)) (ids : List Id) → AreLong 4 rows → All (λ row. (i : ℕ) → get_or row i 0 < 256) rows → IsFanOut rows ids
    → (n : ℕ) → n ≤ 256 → fan_out n ids ≡ concat (take n rows)
unfolding fan_out number
fans rows ids long small is zero few = refl
fans rows ids long small is (suc n) few =
    let inside : n < length rows = let l = is.long in omega (arith, l, few) in
    let at = be_bytes_4 (get_or rows n []) (count_by (begins_within n) ids) (long n [] inside) (small n [] inside) (sym (is.counted n [] (omega (arith, few)))) in
    ap (λ l. l ++ to_be_bytes w32 (count_by (begins_within n) ids)) (fans rows ids long small is n (omega (arith, few)))
    ∙ ap (λ l. concat (take n rows) ++ l) at ∙ sym (concat_push (take n rows) (get_or rows n []))
    ∙ ap concat (sym (take_more rows n [] inside) ∙ ap (λ k. take k rows) (add-one n))

fan_out_is : (rows : List (List ℕ)) (ids : List Id) → AreLong 4 rows → All (λ row. (i : ℕ) → get_or row i 0 < 256) rows → IsFanOut rows ids → fan_out 256 ids ≡ concat rows
fan_out_is rows ids long small is = fans rows ids long small is 256 (omega arith) ∙ ap concat (take_all 256 rows (let l = is.long in omega (arith, l)))

-- ---- the file

module _ (bytes : List ℕ) (places : Places) (cut : IsCut bytes places) where
  even : (m n : ℕ) → m ≡ 20 * n → m % 20 ≡ 0
  even m n is = omega (arith, is)

  fan_out_even : size places.fan_out % 4 ≡ 0
  fan_out_even = let n = cut.lengths.fan_out in omega (arith, n)

  bases_even : size places.bases % 20 ≡ 0
  bases_even = even (size places.bases) cut.bases_count cut.lengths.bases_at

  pub fan_out_long : length (table 4 bytes places.fan_out) ≡ 256
  fan_out_long = let n = rows_many 4 bytes places.fan_out cut.within.fan_out fan_out_even in let m = cut.lengths.fan_out in omega (arith, n, m)

  pub formed : IsAscending (table 20 bytes places.ids) → HaveEnds (table 4 bytes places.edges) (table 36 bytes places.rows) → IsGraphFile (file_at bytes places)
  formed up ended = record {
    bases = rows_long 20 bytes places.bases cut.within.bases bases_even;
    ids = rows_long 20 bytes places.ids cut.within.ids cut.lengths.ids;
    rows = rows_long 36 bytes places.rows cut.within.rows cut.lengths.rows;
    edges = rows_long 4 bytes places.edges cut.within.edges cut.lengths.edges;
    checksum = cut.framed.long;
    few = subst (λ n. n ≤ no_parent) (sym (rows_many 20 bytes places.ids cut.within.ids cut.lengths.ids)) cut.lengths.few;
    each = rows_many 36 bytes places.rows cut.within.rows cut.lengths.rows ∙ cut.lengths.each ∙ sym (rows_many 20 bytes places.ids cut.within.ids cut.lengths.ids);
    ascending = up;
    ended = ended;
  }

  pub file_is : IsAscending (table 20 bytes places.ids) → IsFanOut (table 4 bytes places.fan_out) (table 20 bytes places.ids) → HaveEnds (table 4 bytes places.edges) (table 36 bytes places.rows)
      → IsFileAt bytes places
  file_is up fan ended = record { within = cut.within; formed = formed up ended; fan_out = fan }

  bases_many : length (table 20 bytes places.bases) ≡ cut.bases_count
  bases_many =
      let n = rows_many 20 bytes places.bases cut.within.bases bases_even in
      let m = cut.lengths.bases_at in
      omega (arith, n, m)

  pub text_is : IsAscending (table 20 bytes places.ids) → IsFanOut (table 4 bytes places.fan_out) (table 20 bytes places.ids)
      → HaveEnds (table 4 bytes places.edges) (table 36 bytes places.rows) → IsGraphText (file_at bytes places) bytes
  text_is up fan ended =
      let fan_out_bytes =
      rows_joined 4 bytes places.fan_out cut.within.fan_out fan_out_even in
      let fan_out_text =
      fan_out_is (table 4 bytes places.fan_out) (table 20 bytes places.ids)
      (rows_long 4 bytes places.fan_out cut.within.fan_out fan_out_even) (rows_small 4 bytes places.fan_out cut.within.fan_out fan_out_even cut.small) fan in
      record {
        chunks = cut.chunks;
        framed = subst (λ n. IsFramed n cut.chunks (drop (length bytes - 20) bytes) bytes) (sym bases_many) cut.framed;
        fan_out = subst (HasChunk cut.chunks (codes "OIDF")) (sym (fan_out_text ∙ fan_out_bytes)) cut.fan_out;
        ids = subst (HasChunk cut.chunks (codes "OIDL")) (sym (rows_joined 20 bytes places.ids cut.within.ids cut.lengths.ids)) cut.ids;
        rows = subst (HasChunk cut.chunks (codes "CDAT")) (sym (rows_joined 36 bytes places.rows cut.within.rows cut.lengths.rows)) cut.rows;
        edges = subst (MayHaveChunk cut.chunks (codes "EDGE")) (sym (rows_joined 4 bytes places.edges cut.within.edges cut.lengths.edges)) cut.edges;
        bases = subst (MayHaveChunk cut.chunks (codes "BASE")) (sym (rows_joined 20 bytes places.bases cut.within.bases bases_even)) cut.bases;
        formed = formed up ended;
      }
