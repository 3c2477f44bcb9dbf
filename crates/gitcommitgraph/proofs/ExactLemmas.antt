-- A text encodes at most one file, and the tables found in the text are the tables of this file.
use Rattle.std.proofs.Common.{◌≡◌, ◌≢◌, ℕ, zero, suc, ◌+◌, ◌-◌, ◌*◌, ◌<◌, ◌≤◌, ◌^◌, inl, inr, List, [], ◌∷◌, ◌++◌, codes, length, take, drop, get_or, slice_range, All, count_by, refl, sym, ap, subst, ◌∙◌, length-append, arith}
use Rattle.std.specs.List.{concat}
use Rattle.std.specs.Int.{w32, to_be_bytes}
use Rattle.std.proofs.lemmas.List.{append_assoc, append-nil, get_or_append_left, get_or_at, length-take}
use Rattle.std.proofs.lemmas.Bool.{cases_lt}
use Rattle.std.proofs.lemmas.List.Elements.{All-append, All-cons, All-nil}
use Rattle.std.proofs.lemmas.List.Sums.{count_by-le-length}
use Rattle.std.proofs.lemmas.Nat.{from_be_bytes-to_be_bytes_4}
use Rattle.gname.specs.Ids.{Id}
use Rattle.gitcommitgraph.specs.Files.{AreLong, GraphFile, HaveEnds, IsAscending, no_parent, number}
use Rattle.gitcommitgraph.specs.Texts.{Chunk, HasChunk, IsFramed, IsGraphText, MayHaveChunk, begins_within, fan_out, header}
use Rattle.gitcommitgraph.specs.steps.Rows.{IsSpan, IsTable, LacksName, pieces}
use Rattle.gitcommitgraph.specs.steps.Tables.{IsFanOut}
use Rattle.gitcommitgraph.specs.steps.Layers.{ArePlaces, HaveLengths, IsCut, LacksChunk, MayBeSpan, part, size, table}
use Rattle.gitcommitgraph.specs.declared.contents.Span.{Span}
use Rattle.gitcommitgraph.specs.declared.layer.Places.{Places}
use Rattle.gitcommitgraph.proofs.FrameLemmas.{chunks_are, first_row, has_name, headed, is_table, length-joined, more_rows, one_chunk, one_optional, pieces_back, rows_of, sum_is, text_long}
use Rattle.gitcommitgraph.proofs.RowLemmas.{chunks_of, has_chunk, lacks_chunk, length-range, span_within}

-- ---- lengths

length-take_le : (n : ℕ) (l : List ℕ) → length (take n l) ≤ length l
length-take_le n l = let m = length-take n l in omega (arith, m)

length-fan_out : (n : ℕ) (ids : List Id) → length (fan_out n ids) ≡ n * 4
unfolding fan_out
length-fan_out zero ids = refl
length-fan_out (suc n) ids =
    let more = length-append (fan_out n ids) (to_be_bytes w32 (count_by (begins_within n) ids)) in
    let before = length-fan_out n ids in
    omega (arith, more, before)

-- ---- the header

header_parts : (a b c d : ℕ) (l m : List ℕ) → header a b ++ l ≡ header c d ++ m → (a ≡ c) × (b ≡ d)
header_parts a b c d l m same = (cc, cc)

module _ (file : GraphFile) (bytes : List ℕ) (is : IsGraphText file bytes) where
  pub not_short : length bytes < 20 → ⊥
  not_short short = let n = text_long (length file.bases) is.chunks file.checksum bytes is.framed in omega (arith, n, short)

  pub has_header : ((chunks bases : ℕ) (rest : List ℕ) → ¬ (take (length bytes - 20) bytes ≡ header chunks bases ++ rest)) → ⊥
  has_header none = none (length is.chunks) (length file.bases) _ (headed (length file.bases) is.chunks file.checksum bytes is.framed)

-- ---- the rows of the table of contents, as found in the text

same_rows : (n m : ℕ) (body : List ℕ) (one other : List (List ℕ)) → n ≡ m → IsTable n body one → IsTable m body other → one ≡ other
same_rows n m body one other same first second =
    first.cut ∙ ap (λ k. pieces 12 (slice_range body 8 (8 + 12 * (k + 1)))) same ∙ sym second.cut

module _ (file : GraphFile) (bytes : List ℕ) (is : IsGraphText file bytes) (fits : length bytes < 2 ^ 64)
    (chunks bases : ℕ) (rest : List ℕ) (head : take (length bytes - 20) bytes ≡ header chunks bases ++ rest) where
  same_header : (length is.chunks ≡ chunks) × (length file.bases ≡ bases)
  same_header = header_parts (length is.chunks) (length file.bases) chunks bases _ rest (sym (headed (length file.bases) is.chunks file.checksum bytes is.framed) ∙ head)

  pub has_table : ((rows : List (List ℕ)) → ¬ IsTable chunks (take (length bytes - 20) bytes) rows) → ⊥
  has_table none =
      none (rows_of (8 + 12 * (length is.chunks + 1)) is.chunks)
      (subst (λ n. IsTable n (take (length bytes - 20) bytes) (rows_of (8 + 12 * (length is.chunks + 1)) is.chunks)) same_header.0
      (is_table (length file.bases) is.chunks file.checksum bytes is.framed fits))

  module _ (rows : List (List ℕ)) (table_is : IsTable chunks (take (length bytes - 20) bytes) rows) where
    abbrev start : ℕ
    start = 8 + 12 * (length is.chunks + 1)

    abbrev end : ℕ
    end = length (take (length bytes - 20) bytes)

    abbrev row : List ℕ
    row = first_row start is.chunks

    abbrev more : List (List ℕ)
    more = more_rows start is.chunks

    own : IsTable (length is.chunks) (take (length bytes - 20) bytes) (row ∷ more)
    own = is_table (length file.bases) is.chunks file.checksum bytes is.framed fits

    rows_are : rows ≡ row ∷ more
    rows_are = same_rows chunks (length is.chunks) (take (length bytes - 20) bytes) rows (row ∷ more) (sym same_header.0) table_is own

    named_are : chunks_of bytes (row ∷ more) ≡ is.chunks
    named_are = chunks_are (length file.bases) is.chunks file.checksum bytes is.framed fits

    -- the bytes at the span of a chunk are the bytes of the chunk
    bytes_at : (name x : List ℕ) (span : Span) → IsSpan rows name span → HasChunk is.chunks name x → part bytes span ≡ x
    bytes_at name x span at has =
        one_chunk is.chunks name (part bytes span) x is.framed.named
        (subst (λ c. HasChunk c name (part bytes span)) named_are (has_chunk start end row more own.are bytes name span (subst (λ r. IsSpan r name span) rows_are at))) has

    not_lacking : (name x : List ℕ) → LacksName rows name → HasChunk is.chunks name x → ⊥
    not_lacking name x lacks has =
        has_name is.chunks name x has
        (subst (λ c. All (λ (k : Chunk). k.name ≢ name) c) named_are (lacks_chunk start end row more own.are bytes name (subst (λ r. LacksName r name) rows_are lacks)))

    optional_at : (name x : List ℕ) (span : Span) → MayBeSpan rows name span → MayHaveChunk is.chunks name x → part bytes span ≡ x
    optional_at name x span at may =
        one_optional is.chunks name (part bytes span) x is.framed.named
        (elim at.cases [
          | inl found ↦ inl (subst (λ c. HasChunk c name (part bytes span)) named_are (has_chunk start end row more own.are bytes name span (subst (λ r. IsSpan r name span) rows_are found)))
          | inr none ↦ inr (
            let to = none.2 in let nothing : span.end - span.start ≡ 0 = omega (arith, to) in ap (λ n. take n (drop span.start bytes)) nothing,
            subst (λ c. All (λ (k : Chunk). k.name ≢ name) c) named_are (lacks_chunk start end row more own.are bytes name (subst (λ r. LacksName r name) rows_are none.0)),
          )
        ]) may

    pub has_chunks : LacksChunk rows → ⊥
    has_chunks lacks = elim lacks.cases [
      | inl fan ↦ not_lacking _ _ fan is.fan_out
      | inr other ↦ elim other [ inl ids ↦ not_lacking _ _ ids is.ids | inr data_rows ↦ not_lacking _ _ data_rows is.rows ]
    ]

    -- the length of a span is the length of the bytes at the span
    size_at : (name x : List ℕ) (span : Span) → IsSpan rows name span → part bytes span ≡ x → size span ≡ length x
    size_at name x span at same =
        let within = span_within start end row more own.are name span (subst (λ r. IsSpan r name span) rows_are at) in
        let low = within.0 in
        let high = within.1 in
        let short : end ≤ length bytes = length-take_le (length bytes - 20) bytes in
        sym (length-range span.start span.end bytes low (omega (arith, high, short))) ∙ ap length same

    optional_size : (name x : List ℕ) (span : Span) → MayBeSpan rows name span → part bytes span ≡ x → size span ≡ length x
    optional_size name x span at same = elim at.cases [
      | inl found ↦ size_at name x span found same
      | inr none ↦
          let to = none.2 in
          let nothing : span.end - span.start ≡ 0 = omega (arith, to) in
          nothing ∙ ap length (sym (ap (λ n. take n (drop span.start bytes)) nothing) ∙ same)
    ]

    pub have_lengths : (places : Places) → ArePlaces rows places → HaveLengths places bases
    have_lengths places at =
        let fan = size_at _ _ places.fan_out at.fan_out (bytes_at _ _ places.fan_out at.fan_out is.fan_out) ∙ length-fan_out 256 file.ids in
        let ids = size_at _ _ places.ids at.ids (bytes_at _ _ places.ids at.ids is.ids) ∙ length-joined 20 file.ids is.formed.ids in
        let data_rows = size_at _ _ places.rows at.rows_at (bytes_at _ _ places.rows at.rows_at is.rows) ∙ length-joined 36 file.rows is.formed.rows in
        let edges = optional_size _ _ places.edges at.edges (optional_at _ _ places.edges at.edges is.edges) ∙ length-joined 4 file.edges is.formed.edges in
        let own_bases = optional_size _ _ places.bases at.bases (optional_at _ _ places.bases at.bases is.bases) ∙ length-joined 20 file.bases is.formed.bases in
        let each = is.formed.each in
        let few = is.formed.few in
        let many = same_header.1 in
        record {
          fan_out = omega (arith, fan);
          ids = omega (arith, ids);
          few = omega (arith, ids, few);
          rows = omega (arith, data_rows);
          each = omega (arith, ids, data_rows, each);
          edges = omega (arith, edges);
          bases_at = omega (arith, own_bases, many);
        }

-- ---- one file

same_file : (a b : GraphFile) → a.bases ≡ b.bases → a.ids ≡ b.ids → a.rows ≡ b.rows → a.edges ≡ b.edges → a.checksum ≡ b.checksum → a ≡ b
same_file a b bases ids rows edges checksum =
    ap (λ x. record { bases = x; ids = a.ids; rows = a.rows; edges = a.edges; checksum = a.checksum }) bases
    ∙ ap (λ x. record { bases = b.bases; ids = x; rows = a.rows; edges = a.edges; checksum = a.checksum }) ids
    ∙ ap (λ x. record { bases = b.bases; ids = b.ids; rows = x; edges = a.edges; checksum = a.checksum }) rows
    ∙ ap (λ x. record { bases = b.bases; ids = b.ids; rows = b.rows; edges = x; checksum = a.checksum }) edges
    ∙ ap (λ x. record { bases = b.bases; ids = b.ids; rows = b.rows; edges = b.edges; checksum = x }) checksum

-- two frames of the same text have the same chunks
same_chunks : (bytes : List ℕ) (bases_one bases_other : ℕ) (one other : List Chunk) (sum_one sum_other : Id) → IsFramed bases_one one sum_one bytes → IsFramed bases_other other sum_other bytes
    → length bytes < 2 ^ 64 → one ≡ other
same_chunks bytes bases_one bases_other one other sum_one sum_other first second fits =
    let heads = header_parts (length one) bases_one (length other) bases_other _ _ (sym (headed bases_one one sum_one bytes first) ∙ headed bases_other other sum_other bytes second) in
    let rows = same_rows (length one) (length other) (take (length bytes - 20) bytes) (rows_of (8 + 12 * (length one + 1)) one) (rows_of (8 + 12 * (length other + 1)) other) heads.0
    (is_table bases_one one sum_one bytes first fits) (is_table bases_other other sum_other bytes second fits) in
    sym (chunks_are bases_one one sum_one bytes first fits) ∙ ap (chunks_of bytes) rows ∙ chunks_are bases_other other sum_other bytes second fits

-- rows of `n` bytes whose concatenation is `bytes` are the pieces of `bytes`
same_pieces : (n : ℕ) (rows : List (List ℕ)) (bytes : List ℕ) → 0 < n → AreLong n rows → concat rows ≡ bytes → rows ≡ pieces n bytes
same_pieces n rows bytes some long same = sym (pieces_back n rows some long) ∙ ap (pieces n) same

-- two files with the same text are equal
pub texts_are_one : (one other : GraphFile) (bytes : List ℕ) → IsGraphText one bytes → IsGraphText other bytes → length bytes < 2 ^ 64 → one ≡ other
texts_are_one one other bytes first second fits =
    let chunks = same_chunks bytes (length one.bases) (length other.bases) first.chunks second.chunks one.checksum other.checksum first.framed second.framed fits in
    let named = second.framed.named in
    let rows = λ (n : ℕ) (a b : List (List ℕ)) (some : 0 < n) (la : AreLong n a) (lb : AreLong n b) (same : concat a ≡ concat b). same_pieces n a (concat b) some la same ∙ pieces_back n b some lb in
    same_file one other
    (rows 20 one.bases other.bases (omega arith) first.formed.bases second.formed.bases (one_optional second.chunks _ _ _ named (subst (λ c. MayHaveChunk c (codes "BASE") (concat one.bases)) chunks first.bases) second.bases))
    (rows 20 one.ids other.ids (omega arith) first.formed.ids second.formed.ids (one_chunk second.chunks _ _ _ named (subst (λ c. HasChunk c (codes "OIDL") (concat one.ids)) chunks first.ids) second.ids))
    (rows 36 one.rows other.rows (omega arith) first.formed.rows second.formed.rows (one_chunk second.chunks _ _ _ named (subst (λ c. HasChunk c (codes "CDAT") (concat one.rows)) chunks first.rows) second.rows))
    (rows 4 one.edges other.edges (omega arith) first.formed.edges second.formed.edges (one_optional second.chunks _ _ _ named (subst (λ c. MayHaveChunk c (codes "EDGE") (concat one.edges)) chunks first.edges) second.edges))
    (sym (sum_is (length one.bases) first.chunks one.checksum bytes first.framed) ∙ sum_is (length other.bases) second.chunks other.checksum bytes second.framed)

-- ---- the tables of the file, as found in the text

-- the fan-out table, cut into rows
abbrev fans : ℕ → List Id → List (List ℕ)
fans zero ids = []
fans (suc n) ids = fans n ids ++ to_be_bytes w32 (count_by (begins_within n) ids) ∷ []

concat-append : (a b : List (List ℕ)) → concat (a ++ b) ≡ concat a ++ concat b
concat-append [] b = refl
concat-append (row ∷ a) b = ap (λ l. row ++ l) (concat-append a b) ∙ sym (append_assoc row (concat a) (concat b))

fans_joined : (n : ℕ) (ids : List Id) → concat (fans n ids) ≡ fan_out n ids
unfolding fan_out
fans_joined zero ids = refl
fans_joined (suc n) ids =
    concat-append (fans n ids) (to_be_bytes w32 (count_by (begins_within n) ids) ∷ [])
    ∙ ap (λ l. l ++ (to_be_bytes w32 (count_by (begins_within n) ids) ++ [])) (fans_joined n ids)
    ∙ ap (λ l. fan_out n ids ++ l) (append-nil (to_be_bytes w32 (count_by (begins_within n) ids)))

fans_long : (n : ℕ) (ids : List Id) → AreLong 4 (fans n ids)
fans_long zero ids = All-nil (λ r. length r ≡ 4)
fans_long (suc n) ids =
    All-append (λ r. length r ≡ 4) (fans n ids) (to_be_bytes w32 (count_by (begins_within n) ids) ∷ []) (fans_long n ids)
    (All-cons (λ r. length r ≡ 4) (to_be_bytes w32 (count_by (begins_within n) ids)) [] refl (All-nil (λ r. length r ≡ 4)))

length-fans : (n : ℕ) (ids : List Id) → length (fans n ids) ≡ n
length-fans zero ids = refl
length-fans (suc n) ids =
    let more = length-append (fans n ids) (to_be_bytes w32 (count_by (begins_within n) ids) ∷ []) in
    let before = length-fans n ids in
    omega (arith, more, before)

fan_at : (n : ℕ) (ids : List Id) (byte : ℕ) (d : List ℕ) → byte < n → get_or (fans n ids) byte d ≡ to_be_bytes w32 (count_by (begins_within byte) ids)
fan_at zero ids byte d low = absurd (omega (arith, low))
fan_at (suc n) ids byte d low =
    let long = length-fans n ids in
    let more = to_be_bytes w32 (count_by (begins_within n) ids) in
    elim (cases_lt byte n) [
      | inl before ↦ get_or_append_left (fans n ids) (more ∷ []) d byte (omega (arith, long, before)) ∙ fan_at n ids byte d before
      | inr last ↦
          let at : byte ≡ n = omega (arith, low, last) in
          ap (λ k. get_or (fans n ids ++ more ∷ []) k d) at ∙ get_or_at (fans n ids) more [] d n long ∙ ap (λ k. to_be_bytes w32 (count_by (begins_within k) ids)) (sym at)
    ]

number_back : (n : ℕ) → n < 2 ^ 32 → number (to_be_bytes w32 n) ≡ n
unfolding number
number_back n low = from_be_bytes-to_be_bytes_4 n low

fan_out_back : (ids : List Id) → length ids ≤ no_parent → IsFanOut (pieces 4 (fan_out 256 ids)) ids
fan_out_back ids few =
    let cut : pieces 4 (fan_out 256 ids) ≡ fans 256 ids = ap (pieces 4) (sym (fans_joined 256 ids)) ∙ pieces_back 4 (fans 256 ids) (omega arith) (fans_long 256 ids) in
    subst (λ rows. IsFanOut rows ids) (sym cut) (record {
      long = length-fans 256 ids;
      counted = λ byte d low.
          ap number (fan_at 256 ids byte d low)
          ∙ number_back (count_by (begins_within byte) ids) (let all = count_by-le-length (begins_within byte) ids in omega (arith, all, few));
    })

module _ (bytes : List ℕ) (places : Places) (cut : IsCut bytes places) (file : GraphFile) (is : IsGraphText file bytes) (fits : length bytes < 2 ^ 64) where
  abbrev sum : Id
  sum = drop (length bytes - 20) bytes

  chunks_same : is.chunks ≡ cut.chunks
  chunks_same = same_chunks bytes (length file.bases) cut.bases_count is.chunks cut.chunks file.checksum sum is.framed cut.framed fits

  bytes_same : (name x y : List ℕ) → HasChunk is.chunks name x → HasChunk cut.chunks name y → x ≡ y
  bytes_same name x y first second = one_chunk cut.chunks name x y cut.framed.named (subst (λ c. HasChunk c name x) chunks_same first) second

  ids_same : file.ids ≡ table 20 bytes places.ids
  ids_same = same_pieces 20 file.ids (part bytes places.ids) (omega arith) is.formed.ids (bytes_same _ _ _ is.ids cut.ids)

  rows_same : file.rows ≡ table 36 bytes places.rows
  rows_same = same_pieces 36 file.rows (part bytes places.rows) (omega arith) is.formed.rows (bytes_same _ _ _ is.rows cut.rows)

  edges_same : file.edges ≡ table 4 bytes places.edges
  edges_same =
      same_pieces 4 file.edges (part bytes places.edges) (omega arith) is.formed.edges
      (one_optional cut.chunks (codes "EDGE") (concat file.edges) (part bytes places.edges) cut.framed.named (subst (λ c. MayHaveChunk c (codes "EDGE") (concat file.edges)) chunks_same is.edges) cut.edges)

  pub is_ascending : IsAscending (table 20 bytes places.ids)
  is_ascending = subst IsAscending ids_same is.formed.ascending

  pub has_ends : HaveEnds (table 4 bytes places.edges) (table 36 bytes places.rows)
  has_ends = subst (λ e. HaveEnds e (table 36 bytes places.rows)) edges_same (subst (λ r. HaveEnds file.edges r) rows_same is.formed.ended)

  pub is_fan_out : IsFanOut (table 4 bytes places.fan_out) (table 20 bytes places.ids)
  is_fan_out =
      subst (λ i. IsFanOut (table 4 bytes places.fan_out) i) ids_same
      (subst (λ f. IsFanOut (pieces 4 f) file.ids) (bytes_same _ _ _ is.fan_out cut.fan_out) (fan_out_back file.ids is.formed.few))
