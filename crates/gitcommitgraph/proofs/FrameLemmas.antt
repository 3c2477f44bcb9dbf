-- Reading the table of contents and the chunks of a text that has the frame of a file.
use Rattle.std.proofs.Common.{◌≡◌, ◌≢◌, ℕ, zero, suc, ◌+◌, ◌-◌, ◌*◌, ◌/◌, ◌<◌, ◌≤◌, ◌^◌, inl, inr, List, [], ◌∷◌, ◌++◌, length, take, drop, get_or, slice_range, All, AllPairs, refl, sym, ap, subst, ◌∙◌, length-append, arith}
use Rattle.std.specs.List.{concat, flat_map}
use Rattle.std.specs.Int.{w64, from_be_bytes, to_be_bytes}
use Rattle.std.specs.Simd.{first_chunks}
use Rattle.std.proofs.Math.Nat.{mul-div_cancel}
use Rattle.std.proofs.lemmas.Bool.{cases_lt}
use Rattle.std.proofs.lemmas.List.{append_assoc, append-nil, drop-drop, drop_at, get_or_default, length-take-le, take-append-drop, take-take, take_at}
use Rattle.std.proofs.lemmas.List.Elements.{All-cons, All-head, All-nil, All-tail}
use Rattle.std.proofs.lemmas.Nat.{from_be_bytes-to_be_bytes_8}
use Rattle.gname.specs.Ids.{Id}
use Rattle.gitcommitgraph.specs.Files.{AreLong}
use Rattle.gitcommitgraph.specs.Texts.{AreNamed, Chunk, HasChunk, IsFramed, MayHaveChunk, chunk_bytes, contents, header, no_name}
use Rattle.gitcommitgraph.specs.steps.Rows.{AreRows, IsRising, IsTable, pieces, row_name, row_offset}
use Rattle.gitcommitgraph.proofs.RowLemmas.{chunks_from, chunks_of, range_take}

-- ---- rows of the same length

pub length-joined : (n : ℕ) (rows : List (List ℕ)) → AreLong n rows → length (concat rows) ≡ length rows * n
length-joined n [] long = omega arith
length-joined n (row ∷ rows) long =
    let first = All-head (λ r. length r ≡ n) row rows long in
    let rest = length-joined n rows (All-tail (λ r. length r ≡ n) row rows long) in
    let both = length-append row (concat rows) in
    omega (arith, first, rest, both)

cut_joined : (n : ℕ) (rows : List (List ℕ)) → AreLong n rows → first_chunks n (length rows) (concat rows) ≡ rows
cut_joined n [] long = refl
cut_joined n (row ∷ rows) long =
    let first = All-head (λ r. length r ≡ n) row rows long in
    ap (λ r. r ∷ first_chunks n (length rows) (drop n (row ++ concat rows))) (take_at row (concat rows) n first)
    ∙ ap (λ r. row ∷ first_chunks n (length rows) r) (drop_at row (concat rows) n first)
    ∙ ap (λ r. row ∷ r) (cut_joined n rows (All-tail (λ r. length r ≡ n) row rows long))

-- splitting the concatenation of rows of `n` bytes returns the same rows
pub pieces_back : (n : ℕ) (rows : List (List ℕ)) → 0 < n → AreLong n rows → pieces n (concat rows) ≡ rows
pieces_back n rows some long =
    ap (λ m. first_chunks n (m / n) (concat rows)) (length-joined n rows long)
    ∙ ap (λ m. first_chunks n m (concat rows)) (mul-div_cancel (length rows) some) ∙ cut_joined n rows long

-- ---- the rows of the table of contents

abbrev pub first_row : ℕ → List Chunk → List ℕ
first_row offset [] = no_name ++ to_be_bytes w64 offset
first_row offset (c ∷ chunks) = c.name ++ to_be_bytes w64 offset

abbrev pub more_rows : ℕ → List Chunk → List (List ℕ)
more_rows offset [] = []
more_rows offset (c ∷ chunks) = first_row (offset + length c.bytes) chunks ∷ more_rows (offset + length c.bytes) chunks

abbrev pub rows_of : ℕ → List Chunk → List (List ℕ)
rows_of offset chunks = first_row offset chunks ∷ more_rows offset chunks

abbrev Named : List Chunk → Type 0
Named = All (λ (c : Chunk). length c.name ≡ 4)

rest_named : (c : Chunk) (chunks : List Chunk) → Named (c ∷ chunks) → Named chunks
rest_named c chunks h = All-tail (λ (c : Chunk). length c.name ≡ 4) c chunks h

first_named : (c : Chunk) (chunks : List Chunk) → Named (c ∷ chunks) → length c.name ≡ 4
first_named c chunks h = All-head (λ (c : Chunk). length c.name ≡ 4) c chunks h

rows_joined : (offset : ℕ) (chunks : List Chunk) → concat (rows_of offset chunks) ≡ contents offset chunks
rows_joined offset [] = append-nil (no_name ++ to_be_bytes w64 offset)
rows_joined offset (c ∷ chunks) =
    ap (λ l. (c.name ++ to_be_bytes w64 offset) ++ l) (rows_joined (offset + length c.bytes) chunks)
    ∙ append_assoc c.name (to_be_bytes w64 offset) (contents (offset + length c.bytes) chunks)

twelve : (name : List ℕ) (offset : ℕ) → length name ≡ 4 → length (name ++ to_be_bytes w64 offset) ≡ 12
twelve name offset long = let n = length-append name (to_be_bytes w64 offset) in omega (arith, n, long)

rows_long : (offset : ℕ) (chunks : List Chunk) → Named chunks → AreLong 12 (rows_of offset chunks)
rows_long offset [] named = All-cons (λ r. length r ≡ 12) (no_name ++ to_be_bytes w64 offset) [] (twelve no_name offset refl) (All-nil (λ r. length r ≡ 12))
rows_long offset (c ∷ chunks) named =
    All-cons (λ r. length r ≡ 12) (c.name ++ to_be_bytes w64 offset) (rows_of (offset + length c.bytes) chunks) (twelve c.name offset (first_named c chunks named))
    (rows_long (offset + length c.bytes) chunks (rest_named c chunks named))

length-rows : (offset : ℕ) (chunks : List Chunk) → length (rows_of offset chunks) ≡ suc (length chunks)
length-rows offset [] = refl
length-rows offset (c ∷ chunks) = ap suc (length-rows (offset + length c.bytes) chunks)

-- the offset of the end of the chunks, if the first chunk begins at `offset`
abbrev pub ends_at : ℕ → List Chunk → ℕ
ends_at offset chunks = offset + length (flat_map chunk_bytes chunks)

ends_later : (offset : ℕ) (c : Chunk) (chunks : List Chunk) → ends_at (offset + length c.bytes) chunks ≡ ends_at offset (c ∷ chunks)
ends_later offset c chunks = let n = length-append c.bytes (flat_map chunk_bytes chunks) in omega (arith, n)

name_is : (name : List ℕ) (offset : ℕ) → length name ≡ 4 → row_name (name ++ to_be_bytes w64 offset) ≡ name
name_is name offset long = take_at name (to_be_bytes w64 offset) 4 long

offset_is : (name : List ℕ) (offset : ℕ) → length name ≡ 4 → offset < 2 ^ 64 → row_offset (name ++ to_be_bytes w64 offset) ≡ offset
unfolding row_offset
offset_is name offset long low = ap (from_be_bytes w64) (drop_at name (to_be_bytes w64 offset) 4 long) ∙ from_be_bytes-to_be_bytes_8 offset low

first_offset : (offset : ℕ) (chunks : List Chunk) → Named chunks → offset < 2 ^ 64 → row_offset (first_row offset chunks) ≡ offset
first_offset offset [] named low = offset_is no_name offset refl low
first_offset offset (c ∷ chunks) named low = offset_is c.name offset (first_named c chunks named) low

rising_cons : (row : List ℕ) (rows : List (List ℕ)) → ((d : List ℕ) → 0 < length rows → row_offset row ≤ row_offset (get_or rows 0 d)) → IsRising rows → IsRising (row ∷ rows)
rising_cons row rows first up = λ k d inside. elim k as (λ k. k + 1 < suc (length rows) → row_offset (get_or (row ∷ rows) k d) ≤ row_offset (get_or (row ∷ rows) (k + 1) d)) [
  | zero ↦ λ here. first d (omega (arith, here))
  | suc k ↦ λ here.
      let on : suc (k + 1) ≡ suc k + 1 = omega arith in
      subst (λ n. row_offset (get_or rows k d) ≤ row_offset (get_or (row ∷ rows) n d)) on (up k d (omega (arith, here)))
] inside

rows_rise : (offset : ℕ) (chunks : List Chunk) → Named chunks → ends_at offset chunks < 2 ^ 64 → IsRising (rows_of offset chunks)
rows_rise offset [] named low = λ k d inside. absurd (omega (arith, inside))
rows_rise offset (c ∷ chunks) named low =
    let later = ends_later offset c chunks in
    let rest = rest_named c chunks named in
    let one = offset_is c.name offset (first_named c chunks named) (omega (arith, low)) in
    let next = first_offset (offset + length c.bytes) chunks rest (omega (arith, low, later)) in
    rising_cons (c.name ++ to_be_bytes w64 offset) (rows_of (offset + length c.bytes) chunks) (λ d inside. omega (arith, one, next))
    (rows_rise (offset + length c.bytes) chunks rest (omega (arith, low, later)))

last_row : (offset : ℕ) (chunks : List Chunk) (d : List ℕ) → get_or (rows_of offset chunks) (length chunks) d ≡ no_name ++ to_be_bytes w64 (ends_at offset chunks)
last_row offset [] d = let same : offset ≡ offset + 0 = omega arith in ap (λ n. no_name ++ to_be_bytes w64 n) same
last_row offset (c ∷ chunks) d = last_row (offset + length c.bytes) chunks d ∙ ap (λ n. no_name ++ to_be_bytes w64 n) (ends_later offset c chunks)

row_named : (offset : ℕ) (chunks : List Chunk) → Named chunks → (k : ℕ) (d : List ℕ) (e : Chunk) → k < length chunks → row_name (get_or (rows_of offset chunks) k d) ≡ (get_or chunks k e).name
row_named offset [] named k d e inside = absurd (omega (arith, inside))
row_named offset (c ∷ chunks) named zero d e inside = name_is c.name offset (first_named c chunks named)
row_named offset (c ∷ chunks) named (suc k) d e inside = row_named (offset + length c.bytes) chunks (rest_named c chunks named) k d e (omega (arith, inside))

module _ (start : ℕ) (chunks : List Chunk) (named : AreNamed chunks) (low : ends_at start chunks < 2 ^ 64) where
  one_less : length (rows_of start chunks) - 1 ≡ length chunks
  one_less = let n = length-rows start chunks in omega (arith, n)

  none : Chunk
  none = record { name = []; bytes = [] }

  distinct : AllPairs (λ one other. row_name one ≢ row_name other) (rows_of start chunks)
  distinct i j d before inside same =
      let n = length-rows start chunks in
      let one = row_named start chunks named.long i d none (omega (arith, n, before, inside)) in
      elim (cases_lt j (length chunks)) [
        | inl within ↦ named.distinct i j none before within (sym one ∙ same ∙ row_named start chunks named.long j d none within)
        | inr last ↦
            let at : j ≡ length chunks = omega (arith, n, inside, last) in
            let unnamed = ap (λ k. row_name (get_or (rows_of start chunks) k d)) at ∙ ap row_name (last_row start chunks d) ∙ name_is no_name (ends_at start chunks) refl in
            named.named i none (omega (arith, n, before, inside)) (sym one ∙ same ∙ unnamed)
      ]

  pub are_rows : AreRows start (ends_at start chunks) (rows_of start chunks)
  are_rows = record {
    first = λ d. first_offset start chunks named.long (omega (arith, low));
    rising = rows_rise start chunks named.long low;
    last = λ d. ap (λ k. row_offset (get_or (rows_of start chunks) k d)) one_less ∙ ap row_offset (last_row start chunks d) ∙ offset_is no_name (ends_at start chunks) refl low;
    unnamed = λ d. ap (λ k. row_name (get_or (rows_of start chunks) k d)) one_less ∙ ap row_name (last_row start chunks d) ∙ name_is no_name (ends_at start chunks) refl;
    distinct = distinct;
  }

-- ---- the chunks that the rows describe

rebuilt : (text sum : List ℕ) (offset : ℕ) (chunks : List Chunk) → Named chunks → ends_at offset chunks < 2 ^ 64 → drop offset text ≡ flat_map chunk_bytes chunks ++ sum
    → chunks_from text (first_row offset chunks) (more_rows offset chunks) ≡ chunks
rebuilt text sum offset [] named low is = refl
rebuilt text sum offset (c ∷ chunks) named low is =
    let later = ends_later offset c chunks in
    let rest = rest_named c chunks named in
    let long = first_named c chunks named in
    let next = offset + length c.bytes in
    let from = offset_is c.name offset long (omega (arith, low)) in
    let to = first_offset next chunks rest (omega (arith, low, later)) in
    let some : next - offset ≡ length c.bytes = omega arith in
    let here : drop offset text ≡ c.bytes ++ (flat_map chunk_bytes chunks ++ sum) = is ∙ append_assoc c.bytes (flat_map chunk_bytes chunks) sum in
    let bytes : slice_range text offset next ≡ c.bytes = ap (λ n. take n (drop offset text)) some ∙ ap (take (length c.bytes)) here ∙ take_at c.bytes (flat_map chunk_bytes chunks ++ sum) (length c.bytes) refl in
    let after : drop next text ≡ flat_map chunk_bytes chunks ++ sum = sym (drop-drop (length c.bytes) offset text) ∙ ap (drop (length c.bytes)) here ∙ drop_at c.bytes (flat_map chunk_bytes chunks ++ sum) (length c.bytes) refl in
    ap (λ n. record { name = n; bytes = slice_range text (row_offset (c.name ++ to_be_bytes w64 offset)) (row_offset (first_row next chunks)) } ∷ chunks_from text (first_row next chunks) (more_rows next chunks)) (name_is c.name offset long)
    ∙ ap (λ a. record { name = c.name; bytes = slice_range text a (row_offset (first_row next chunks)) } ∷ chunks_from text (first_row next chunks) (more_rows next chunks)) from
    ∙ ap (λ b. record { name = c.name; bytes = slice_range text offset b } ∷ chunks_from text (first_row next chunks) (more_rows next chunks)) to
    ∙ ap (λ b. record { name = c.name; bytes = b } ∷ chunks_from text (first_row next chunks) (more_rows next chunks)) bytes
    ∙ ap (λ l. c ∷ l) (rebuilt text sum next chunks rest (omega (arith, low, later)) after)

-- ---- a whole text

module _ (bases : ℕ) (chunks : List Chunk) (sum : Id) (text : List ℕ) (framed : IsFramed bases chunks sum text) where
  abbrev start : ℕ
  start = 8 + 12 * (length chunks + 1)

  abbrev listed : List ℕ
  listed = contents start chunks

  abbrev filled : List ℕ
  filled = flat_map chunk_bytes chunks

  listed_long : length listed ≡ 12 * (length chunks + 1)
  listed_long =
      let n = ap length (sym (rows_joined start chunks)) ∙ length-joined 12 (rows_of start chunks) (rows_long start chunks framed.named.long) in
      let m = length-rows start chunks in
      omega (arith, n, m)

  after_header : drop 8 text ≡ listed ++ (filled ++ sum)
  after_header = ap (drop 8) framed.parts

  pub text_long : length text ≡ ends_at start chunks + 20
  text_long =
      let all = ap length framed.parts in
      let one = length-append listed (filled ++ sum) in
      let two = length-append filled sum in
      let n = listed_long in
      let m = framed.long in
      omega (arith, all, one, two, n, m)

  before_sum : length text - 20 ≡ ends_at start chunks
  before_sum = let n = text_long in omega (arith, n)

  after_table : drop start text ≡ filled ++ sum
  after_table =
      let n = listed_long in
      let at : start ≡ 8 + length listed = omega (arith, n) in
      ap (λ k. drop k text) at ∙ sym (drop-drop (length listed) 8 text) ∙ ap (drop (length listed)) after_header ∙ drop_at listed (filled ++ sum) (length listed) refl

  pub sum_is : drop (length text - 20) text ≡ sum
  sum_is =
      ap (λ k. drop k text) before_sum ∙ sym (drop-drop (length filled) start text) ∙ ap (drop (length filled)) after_table ∙ drop_at filled sum (length filled) refl

  -- the text begins with the header
  pub headed : take (length text - 20) text ≡ header (length chunks) bases ++ drop 8 (take (length text - 20) text)
  headed =
      let n = text_long in
      sym (take-append-drop 8 (take (length text - 20) text))
      ∙ ap (λ l. l ++ drop 8 (take (length text - 20) text)) (take-take 8 (length text - 20) text (omega (arith, n)) ∙ ap (take 8) framed.parts)

module _ (bases : ℕ) (chunks : List Chunk) (sum : Id) (text : List ℕ) (framed : IsFramed bases chunks sum text) (fits : length text < 2 ^ 64) where
  abbrev begin : ℕ
  begin = 8 + 12 * (length chunks + 1)

  abbrev end : ℕ
  end = length text - 20

  low : ends_at begin chunks < 2 ^ 64
  low = let n = text_long bases chunks sum text framed in omega (arith, n, fits)

  -- the table of contents follows the header
  pub is_table : IsTable (length chunks) (take end text) (rows_of begin chunks)
  is_table =
      let n = text_long bases chunks sum text framed in
      let m = listed_long bases chunks sum text framed in
      let short : length (take end text) ≡ end = length-take-le end text (omega arith) in
      let some : begin - 8 ≡ length (contents begin chunks) = omega (arith, m) in
      let part : slice_range (take end text) 8 begin ≡ contents begin chunks =
      range_take 8 begin end text (omega arith) (omega (arith, n)) ∙ ap (λ k. take k (drop 8 text)) some
      ∙ ap (take (length (contents begin chunks))) (after_header bases chunks sum text framed) ∙ take_at (contents begin chunks) (flat_map chunk_bytes chunks ++ sum) (length (contents begin chunks)) refl in
      record {
        inside = omega (arith, n, short);
        cut = sym (ap (pieces 12) (part ∙ sym (rows_joined begin chunks)) ∙ pieces_back 12 (rows_of begin chunks) (omega arith) (rows_long begin chunks framed.named.long));
        are = subst (λ e. AreRows begin e (rows_of begin chunks)) (sym (short ∙ before_sum bases chunks sum text framed)) (are_rows begin chunks framed.named low);
      }

  -- the chunks that the rows describe are the chunks of the text
  pub chunks_are : chunks_of text (rows_of begin chunks) ≡ chunks
  chunks_are = rebuilt text sum begin chunks framed.named.long low (after_table bases chunks sum text framed)

-- ---- chunks by their names

pub one_chunk : (chunks : List Chunk) (name one other : List ℕ) → AreNamed chunks → HasChunk chunks name one → HasChunk chunks name other → one ≡ other
one_chunk chunks name one other named first second =
    let none : Chunk = record { name = []; bytes = [] } in
    let a = (get_or_default chunks first.0 (record { name = name; bytes = one }) none first.1) in
    let b = (get_or_default chunks second.0 (record { name = name; bytes = other }) none second.1) in
    let x = sym a ∙ first.2 in
    let y = sym b ∙ second.2 in
    elim (cases_lt first.0 second.0) [
      | inl before ↦ absurd (named.distinct first.0 second.0 none before second.1 (ap (λ (c : Chunk). c.name) x ∙ sym (ap (λ (c : Chunk). c.name) y)))
      | inr from ↦ elim (cases_lt second.0 first.0) [
        | inl after ↦ absurd (named.distinct second.0 first.0 none after first.1 (ap (λ (c : Chunk). c.name) y ∙ sym (ap (λ (c : Chunk). c.name) x)))
        | inr same ↦
            let at : first.0 ≡ second.0 = omega (arith, from, same) in
            sym (ap (λ (c : Chunk). c.bytes) x) ∙ ap (λ k. (get_or chunks k none).bytes) at ∙ ap (λ (c : Chunk). c.bytes) y
      ]
    ]

pub has_name : (chunks : List Chunk) (name bytes : List ℕ) → HasChunk chunks name bytes → All (λ (c : Chunk). c.name ≢ name) chunks → ⊥
has_name chunks name bytes has lacks =
    let chunk : Chunk = record { name = name; bytes = bytes } in
    lacks has.0 chunk has.1 (ap (λ (c : Chunk). c.name) has.2)

pub one_optional : (chunks : List Chunk) (name one other : List ℕ) → AreNamed chunks → MayHaveChunk chunks name one → MayHaveChunk chunks name other → one ≡ other
one_optional chunks name one other named first second =
    elim first [
      | inl a ↦ elim second [
        | inl b ↦ one_chunk chunks name one other named a b
        | inr b ↦ absurd (has_name chunks name one a b.1)
      ]
      | inr a ↦ elim second [
        | inl b ↦ absurd (has_name chunks name other b a.1)
        | inr b ↦ a.0 ∙ sym b.0
      ]
    ]
