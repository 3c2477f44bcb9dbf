-- Reading the tables of a pack index.
use Rattle.std.proofs.Common.{◌≡◌, ℕ, zero, suc, ◌+◌, ◌-◌, ◌*◌, ◌/◌, ◌<◌, ◌≤◌, ◌^◌, Bool, true, false, cond, List, [], ◌∷◌, ◌++◌, length, take, drop, get_or, refl, sym, ap, subst, ◌∙◌, append_assoc, arith}
use Rattle.std.specs.Prelude.{All, Err, IfOk, MatchOption, None, Ok, Option, Result, Some, if◌then◌else◌, nat_le, nat_lt, slice_index}
use Rattle.std.specs.List.{flat_map}
use Rattle.std.specs.Int.{w32, w64, to_be_bytes, from_be_bytes}
use Rattle.std.proofs.lemmas.Bool.Decides.{nat_tests}
use Rattle.std.proofs.lemmas.List.{drop_at, get_or_at, length-append, take_at}
use Rattle.std.proofs.lemmas.List.Elements.{All-head, All-tail}
use Rattle.std.proofs.lemmas.Nat.{from_be_bytes-to_be_bytes_4, from_be_bytes-to_be_bytes_8}
use Rattle.gname.specs.Ids.{Id}
use Rattle.sha1.specs.Sha1.{digest_bytes, hash_after, padded_message, sha1}
use Rattle.gitpack.specs.Indexes.{AreEntries, HasText, Index, IsIndex, IsLine, ReadsIndex, begins_within, crc_bytes, fan_out, id_bytes, ids_within, index_body, index_header, index_tables, index_text, is_short, long_bytes, short_offsets}
use Rattle.gitpack.specs.declared.index.IndexEntry.{IndexEntry}
use Rattle.gitpack.specs.steps.Rows.{AreLeft, AreRows, index_rows, longs_with, short_of}
use Rattle.gitpack.proofs.IndexLemmas.{counted-cons}

-- ---- splitting lists

pub front_of : (n : ℕ) (a b l x : List ℕ) → l ≡ a ++ b → length a ≡ n → x ≡ take n l → x ≡ a
front_of n a b l x is long cut = cut ∙ ap (take n) is ∙ take_at a b n long

pub back_of : (n : ℕ) (a b l x : List ℕ) → l ≡ a ++ b → length a ≡ n → x ≡ drop n l → x ≡ b
back_of n a b l x is long cut = cut ∙ ap (drop n) is ∙ drop_at a b n long

pub not_short : (n : ℕ) (a b l : List ℕ) → l ≡ a ++ b → length a ≡ n → length l < n → ⊥
not_short n a b l is long short = omega (arith, ap length is, length-append a b, long, short)

both_parts : (a b c d : List ℕ) → a ++ b ≡ c ++ d → length a ≡ length c → (a ≡ c) × (b ≡ d)
both_parts a b c d is long =
    let front = front_of (length c) a b (c ++ d) c (sym is) long (sym (take_at c d (length c) refl)) in
    let back = back_of (length c) a b (c ++ d) d (sym is) long (sym (drop_at c d (length c) refl)) in
    (sym front, sym back)

-- ---- big-endian numbers

pub word : (n : ℕ) (bytes : List ℕ) → n < 2 ^ 32 → bytes ≡ to_be_bytes w32 n → from_be_bytes w32 bytes ≡ n
word n bytes small is = ap (from_be_bytes w32) is ∙ from_be_bytes-to_be_bytes_4 n small

pub long_word : (n : ℕ) (bytes : List ℕ) → n < 2 ^ 64 → bytes ≡ to_be_bytes w64 n → from_be_bytes w64 bytes ≡ n
long_word n bytes small is = ap (from_be_bytes w64) is ∙ from_be_bytes-to_be_bytes_8 n small

-- ---- the lengths of the tables

pub length-ids : (lines : List IndexEntry) → All IsLine lines → length (flat_map id_bytes lines) ≡ length lines * 20
length-ids [] all = refl
length-ids (e ∷ es) all =
    let one = All-head IsLine e es all in
    let long : length e.id ≡ 20 = one.id.long in
    omega (arith, length-append e.id (flat_map id_bytes es), long, length-ids es (All-tail IsLine e es all))

pub length-crcs : (lines : List IndexEntry) → length (flat_map crc_bytes lines) ≡ length lines * 4
length-crcs [] = refl
length-crcs (e ∷ es) = omega (arith, length-crcs es)

short_by : (b : Bool) (longs : ℕ) (e : IndexEntry) (es : List IndexEntry) →
    (if b then to_be_bytes w32 e.offset ++ short_offsets longs es else to_be_bytes w32 (2147483648 + longs) ++ short_offsets (longs + 1) es)
    ≡ to_be_bytes w32 (if b then e.offset else (2147483648 + longs)) ++ short_offsets (if b then longs else (longs + 1)) es
short_by true longs e es = refl
short_by false longs e es = refl

pub short_step : (longs : ℕ) (e : IndexEntry) (es : List IndexEntry) → short_offsets longs (e ∷ es) ≡ to_be_bytes w32 (short_of longs e) ++ short_offsets (longs_with longs e) es
short_step longs e es = short_by (is_short e) longs e es

pub length-shorts : (longs : ℕ) (lines : List IndexEntry) → length (short_offsets longs lines) ≡ length lines * 4
length-shorts longs [] = refl
length-shorts longs (e ∷ es) = omega (arith, ap length (short_step longs e es), length-shorts (longs_with longs e) es)

length-fan : (n : ℕ) (lines : List IndexEntry) → length (fan_out n lines) ≡ n * 4
unfolding fan_out
length-fan zero lines = refl
length-fan (suc n) lines = omega (arith, length-append (fan_out n lines) (to_be_bytes w32 (ids_within n lines)), length-fan n lines)

fan_step : (n : ℕ) (lines : List IndexEntry) → fan_out (suc n) lines ≡ fan_out n lines ++ to_be_bytes w32 (ids_within n lines)
unfolding fan_out
fan_step n lines = refl

-- ---- the last number of the fan-out table, which counts all entries

is_byte : (x : ℕ) → x < 256 → ◌≡◌ {A = ℕ} (cond (nat_le x 255) 1 0) 1
is_byte x small = grind (arith, nat_tests)

all_within : (lines : List IndexEntry) → All IsLine lines → ids_within 255 lines ≡ length lines
all_within [] all = refl
all_within (e ∷ es) all =
    let one = All-head IsLine e es all in
    omega (arith, counted-cons (begins_within 255) e es, is_byte (slice_index e.id 0) (one.id.bytes 0), all_within es (All-tail IsLine e es all))

regroup : (h f b i c s l : List ℕ) → h ++ (f ++ b) ++ i ++ c ++ s ++ l ≡ (h ++ f) ++ (b ++ (i ++ (c ++ (s ++ l))))
regroup h f b i c s l = simp append_assoc

pub counted_tables : (lines : List IndexEntry) → All IsLine lines → index_tables lines ≡ (index_header ++ fan_out 255 lines) ++ (to_be_bytes w32 (length lines) ++ index_rows lines)
counted_tables lines all =
    let i = flat_map id_bytes lines in
    let c = flat_map crc_bytes lines in
    let s = short_offsets 0 lines in
    let l = flat_map long_bytes lines in
    let last = fan_step 255 lines ∙ ap (λ n. fan_out 255 lines ++ to_be_bytes w32 n) (all_within lines all) in
    ap (λ f. index_header ++ f ++ i ++ c ++ s ++ l) last ∙ regroup index_header (fan_out 255 lines) (to_be_bytes w32 (length lines)) i c s l

pub length-front : (lines : List IndexEntry) → length (index_header ++ fan_out 255 lines) ≡ 1028
length-front lines = omega (arith, length-append index_header (fan_out 255 lines), length-fan 255 lines)

-- ---- one entry

pub rows_begin : (ids crcs offsets long_offsets : List ℕ) (longs : ℕ) (e : IndexEntry) (es : List IndexEntry) → AreRows ids crcs offsets long_offsets longs (e ∷ es)
    → offsets ≡ to_be_bytes w32 (short_of longs e) ++ short_offsets (longs_with longs e) es
rows_begin ids crcs offsets long_offsets longs e es rows = rows.of_offsets ∙ short_step longs e es

short_small : (b : Bool) (x longs : ℕ) → nat_lt x 2147483648 ≡ b → longs < 2 ^ 31 → (if b then x else (2147483648 + longs)) < 2 ^ 32
short_small true x longs is few = grind (arith, nat_tests)
short_small false x longs is few = omega arith

pub short_fits : (longs : ℕ) (e : IndexEntry) → longs < 2 ^ 31 → short_of longs e < 2 ^ 32
short_fits longs e few = short_small (nat_lt e.offset 2147483648) e.offset longs refl few

below_mark : (x : ℕ) → nat_lt x 2147483648 ≡ true → x < 2147483648
below_mark x is = grind (arith, nat_tests)

pub is_short_one : (b : Bool) (x before short : ℕ) (longs more : List ℕ) → nat_lt x 2147483648 ≡ b → short ≡ (if b then x else (2147483648 + before)) → longs ≡ (if b then [] else to_be_bytes w64 x) ++ more → short < 2147483648
    → (short ≡ x) × (longs ≡ more)
is_short_one true x before short longs more is value parts small = (value, parts)
is_short_one false x before short longs more is value parts small = absurd (omega (arith, value, small))

pub is_long_one : (b : Bool) (x before short : ℕ) (longs more : List ℕ) → nat_lt x 2147483648 ≡ b → short ≡ (if b then x else (2147483648 + before)) → longs ≡ (if b then [] else to_be_bytes w64 x) ++ more → 2147483648 ≤ short
    → longs ≡ to_be_bytes w64 x ++ more
is_long_one true x before short longs more is value parts large = absurd (omega (arith, value, large, below_mark x is))
is_long_one false x before short longs more is value parts large = parts

-- ---- at most one list of entries for the same tables

once_by : (a b : Bool) (x y k : ℕ) (r q : List ℕ) → nat_lt x 2147483648 ≡ a → nat_lt y 2147483648 ≡ b → x < 2 ^ 64 → y < 2 ^ 64
    → (if a then x else (2147483648 + k)) ≡ (if b then y else (2147483648 + k))
    → (if a then [] else to_be_bytes w64 x) ++ r ≡ (if b then [] else to_be_bytes w64 y) ++ q
    → (x ≡ y) × (r ≡ q) × (◌≡◌ {A = ℕ} (if a then k else (k + 1)) (if b then k else (k + 1)))
once_by true true x y k r q one two small other same longs = (same, longs, refl)
once_by true false x y k r q one two small other same longs = absurd (omega (arith, same, below_mark x one))
once_by false true x y k r q one two small other same longs = absurd (omega (arith, same, below_mark y two))
once_by false false x y k r q one two small other same longs =
    let parts = both_parts (to_be_bytes w64 x) r (to_be_bytes w64 y) q longs refl in
    (sym (from_be_bytes-to_be_bytes_8 x small) ∙ ap (from_be_bytes w64) parts.0 ∙ from_be_bytes-to_be_bytes_8 y other, parts.1, refl)

same_word : (x y : ℕ) (r q : List ℕ) → x < 2 ^ 32 → y < 2 ^ 32 → to_be_bytes w32 x ++ r ≡ to_be_bytes w32 y ++ q → (x ≡ y) × (r ≡ q)
same_word x y r q small other is =
    let parts = both_parts (to_be_bytes w32 x) r (to_be_bytes w32 y) q is refl in
    (sym (from_be_bytes-to_be_bytes_4 x small) ∙ ap (from_be_bytes w32) parts.0 ∙ from_be_bytes-to_be_bytes_4 y other, parts.1)

pub same_line : (e f : IndexEntry) → e.id ≡ f.id → e.crc ≡ f.crc → e.offset ≡ f.offset → e ≡ f
same_line e f ids crcs offsets =
    let line : Id → ℕ → ℕ → IndexEntry = λ a b c. record { id = a; crc = b; offset = c } in
    ap (λ a. line a e.crc e.offset) ids ∙ ap (λ b. line f.id b e.offset) crcs ∙ ap (λ c. line f.id f.crc c) offsets

longs_grow : (b : Bool) (k : ℕ) → (if b then k else (k + 1)) ≤ k + 1
longs_grow true k = omega arith
longs_grow false k = omega arith

pub longs_more : (k : ℕ) (e : IndexEntry) → longs_with k e ≤ k + 1
longs_more k e = longs_grow (is_short e) k

pub lines_once : (xs ys : List IndexEntry) (i c s l : List ℕ) (k : ℕ) → All IsLine xs → All IsLine ys → length xs ≡ length ys → k + length xs < 2 ^ 31
    → AreRows i c s l k xs → AreRows i c s l k ys → xs ≡ ys
lines_once [] [] i c s l k all every long few one two = refl
lines_once [] (f ∷ fs) i c s l k all every long few one two = absurd (omega (arith, long))
lines_once (e ∷ es) [] i c s l k all every long few one two = absurd (omega (arith, long))
lines_once (e ∷ es) (f ∷ fs) i c s l k all every long few one two =
    let x = All-head IsLine e es all in
    let y = All-head IsLine f fs every in
    let below : k < 2 ^ 31 = omega (arith, few) in
    let widths : length e.id ≡ length f.id = x.id.long ∙ sym y.id.long in
    let ids = both_parts e.id (flat_map id_bytes es) f.id (flat_map id_bytes fs) (sym one.of_ids ∙ two.of_ids) widths in
    let crcs = same_word e.crc f.crc (flat_map crc_bytes es) (flat_map crc_bytes fs) x.crc y.crc (sym one.of_crcs ∙ two.of_crcs) in
    let shorts = same_word (short_of k e) (short_of k f) (short_offsets (longs_with k e) es) (short_offsets (longs_with k f) fs) (short_fits k e below) (short_fits k f below)
    (sym (rows_begin i c s l k e es one) ∙ rows_begin i c s l k f fs two) in
    let longs = once_by (is_short e) (is_short f) e.offset f.offset k (flat_map long_bytes es) (flat_map long_bytes fs) refl refl x.offset y.offset shorts.0 (sym one.of_longs ∙ two.of_longs) in
    let line = same_line e f ids.0 crcs.0 longs.0 in
    let others = lines_once es fs (flat_map id_bytes es) (flat_map crc_bytes es) (short_offsets (longs_with k e) es) (flat_map long_bytes es) (longs_with k e)
    (All-tail IsLine e es all) (All-tail IsLine f fs every) (omega (arith, long)) (omega (arith, few, longs_more k e))
    (record { of_ids = refl; of_crcs = refl; of_offsets = refl; of_longs = refl })
    (record { of_ids = ids.1; of_crcs = crcs.1; of_offsets = shorts.1 ∙ ap (λ n. short_offsets n fs) (sym longs.2); of_longs = longs.1 }) in
    ap (λ a. a ∷ es) line ∙ ap (λ rest. f ∷ rest) others

pub count_fits : (lines : List IndexEntry) → AreEntries lines → length lines < 2 ^ 32
count_fits lines are = let few = are.few in omega (arith, few)

-- ---- reading one more entry

one_of : (read : List IndexEntry) (line : IndexEntry) (rest lines : List IndexEntry) → lines ≡ read ++ line ∷ rest → All IsLine lines → IsLine line
one_of read line rest lines parts all =
    let inside : length read < length lines = omega (arith, ap length parts, length-append read (line ∷ rest)) in
    subst IsLine (ap (λ l. get_or l (length read) line) parts ∙ get_or_at read line rest line (length read) refl) (all (length read) line inside)

module _ (ids crcs offsets longs_table : List ℕ) (read lines : List IndexEntry) (are : AreEntries lines) (before : length read < length lines) where
  no_more : (more : List IndexEntry) (longs : ℕ) → lines ≡ read ++ more → longs ≤ length read → AreRows ids crcs offsets longs_table longs more
      → ((k : ℕ) (line : IndexEntry) (others : List IndexEntry) → IsLine line → k < 2 ^ 31 → AreRows ids crcs offsets longs_table k (line ∷ others) → ⊥) → ⊥
  no_more [] longs parts few rows step = let n = ap length parts in let m = length-append read [] in absurd (omega (arith, n, m, before))
  no_more (line ∷ others) longs parts few rows step =
      let most = are.few in
      step longs line others (one_of read line others lines parts are.lines) (omega (arith, few, before, most)) rows

  pub left_none : AreLeft ids crcs offsets longs_table read lines
      → ((k : ℕ) (line : IndexEntry) (others : List IndexEntry) → IsLine line → k < 2 ^ 31 → AreRows ids crcs offsets longs_table k (line ∷ others) → ⊥) → ⊥
  left_none left step = no_more left.more left.longs left.parts left.few left.rows step

  module _ (i c s l : List ℕ) (entry : IndexEntry) (new : List IndexEntry) (grown : new ≡ read ++ entry ∷ [])
      (step : (k : ℕ) (line : IndexEntry) (others : List IndexEntry) → IsLine line → k < 2 ^ 31 → AreRows ids crcs offsets longs_table k (line ∷ others) → (entry ≡ line) × AreRows i c s l (longs_with k line) others) where
    one_more_line : (more : List IndexEntry) (longs : ℕ) → lines ≡ read ++ more → longs ≤ length read → AreRows ids crcs offsets longs_table longs more → AreLeft i c s l new lines
    one_more_line [] longs parts few rows = let n = ap length parts in let m = length-append read [] in absurd (omega (arith, n, m, before))
    one_more_line (line ∷ others) longs parts few rows =
        let most = are.few in
        let next = step longs line others (one_of read line others lines parts are.lines) (omega (arith, few, before, most)) rows in
        record {
          more = others;
          longs = longs_with longs line;
          parts = parts ∙ sym (append_assoc read (line ∷ []) others) ∙ ap (λ e. (read ++ e ∷ []) ++ others) (sym next.0) ∙ ap (λ r. r ++ others) (sym grown);
          few = omega (arith, few, longs_more longs line, ap length grown, length-append read (entry ∷ []));
          rows = next.1;
        }

    pub left_more : AreLeft ids crcs offsets longs_table read lines → AreLeft i c s l new lines
    left_more left = one_more_line left.more left.longs left.parts left.few left.rows

pub one_longer : (read new : List IndexEntry) (entry : IndexEntry) (n : ℕ) → new ≡ read ++ entry ∷ [] → length read ≡ n → length new ≡ n + 1
one_longer read new entry n grown counted = omega (arith, ap length grown, length-append read (entry ∷ []), counted)

-- ---- the text of an index

front_but : (n : ℕ) (a own l x : List ℕ) → l ≡ a ++ own → length own ≡ n → x ≡ take (length l - n) l → x ≡ a
front_but n a own l x parts long cut = front_of (length l - n) a own l x parts (omega (arith, ap length parts, length-append a own, long)) cut

back_but : (n : ℕ) (a own l x : List ℕ) → l ≡ a ++ own → length own ≡ n → x ≡ drop (length l - n) l → x ≡ own
back_but n a own l x parts long cut = back_of (length l - n) a own l x parts (omega (arith, ap length parts, length-append a own, long)) cut

-- the parts of an index: the text without the index's own checksum, the tables, and the checksum of the pack
module _ (index : Index) (bytes text tables trailer : List ℕ) (has : HasText index) (is : IsIndex index bytes) (cut : text ≡ take (length bytes - 20) bytes)
    (front : tables ≡ take (length text - 20) text) (back : trailer ≡ drop (length text - 20) text) where
  pub body_is : text ≡ index_body index
  body_is = front_but 20 (index_body index) is.own bytes text is.parts is.long cut

  pub tables_are : tables ≡ index_tables index.entries
  tables_are = front_but 20 (index_tables index.entries) index.checksum text tables body_is has.checksum.long front

  pub trailer_is : trailer ≡ index.checksum
  trailer_is = back_but 20 (index_tables index.entries) index.checksum text trailer body_is has.checksum.long back

pub found_lines : {T : Type 0} (o : Option T) (v : T) (items : T → List IndexEntry) (lines : List IndexEntry) → o ≡ Some v → MatchOption o ⊥ (λ e. items e ≡ lines) → items v ≡ lines
found_lines None v items lines is found = absurd found
found_lines (Some w) v items lines is found = cc

pub same_body : (entries lines : List IndexEntry) (one other : Id) → entries ≡ lines → one ≡ other → index_body (record { entries = entries; checksum = one }) ≡ index_body (record { entries = lines; checksum = other })
same_body entries lines one other same ids = ap (λ es. index_body (record { entries = es; checksum = one })) same ∙ ap (λ id. index_body (record { entries = lines; checksum = id })) ids

-- ---- at most one index for the same text

number_of : (lines : List IndexEntry) (bytes : List ℕ) → AreEntries lines → bytes ≡ index_tables lines → from_be_bytes w32 (take 4 (drop 1028 bytes)) ≡ length lines
number_of lines bytes are is =
    let number = to_be_bytes w32 (length lines) in
    let after = back_of 1028 (index_header ++ fan_out 255 lines) (number ++ index_rows lines) bytes (drop 1028 bytes) (is ∙ counted_tables lines are.lines) (length-front lines) refl in
    word (length lines) (take 4 (drop 1028 bytes)) (count_fits lines are) (front_of 4 number (index_rows lines) (drop 1028 bytes) (take 4 (drop 1028 bytes)) after refl refl)

rows_of : (lines : List IndexEntry) (bytes : List ℕ) → AreEntries lines → bytes ≡ index_tables lines → drop 4 (drop 1028 bytes) ≡ index_rows lines
rows_of lines bytes are is =
    let number = to_be_bytes w32 (length lines) in
    let after = back_of 1028 (index_header ++ fan_out 255 lines) (number ++ index_rows lines) bytes (drop 1028 bytes) (is ∙ counted_tables lines are.lines) (length-front lines) refl in
    back_of 4 number (index_rows lines) (drop 1028 bytes) (drop 4 (drop 1028 bytes)) after refl refl

tables_once : (xs ys : List IndexEntry) → AreEntries xs → AreEntries ys → index_tables xs ≡ index_tables ys → xs ≡ ys
tables_once xs ys are every same =
    let bytes = index_tables xs in
    let number = sym (number_of xs bytes are refl) ∙ number_of ys bytes every same in
    let rows = sym (rows_of xs bytes are refl) ∙ rows_of ys bytes every same in
    let few = are.few in
    let ids = both_parts (flat_map id_bytes xs) (flat_map crc_bytes xs ++ (short_offsets 0 xs ++ flat_map long_bytes xs)) (flat_map id_bytes ys) (flat_map crc_bytes ys ++ (short_offsets 0 ys ++ flat_map long_bytes ys))
    rows (length-ids xs are.lines ∙ ap (λ n. n * 20) number ∙ sym (length-ids ys every.lines)) in
    let crcs = both_parts (flat_map crc_bytes xs) (short_offsets 0 xs ++ flat_map long_bytes xs) (flat_map crc_bytes ys) (short_offsets 0 ys ++ flat_map long_bytes ys)
    ids.1 (length-crcs xs ∙ ap (λ n. n * 4) number ∙ sym (length-crcs ys)) in
    let shorts = both_parts (short_offsets 0 xs) (flat_map long_bytes xs) (short_offsets 0 ys) (flat_map long_bytes ys)
    crcs.1 (length-shorts 0 xs ∙ ap (λ n. n * 4) number ∙ sym (length-shorts 0 ys)) in
    lines_once xs ys (flat_map id_bytes xs) (flat_map crc_bytes xs) (short_offsets 0 xs) (flat_map long_bytes xs) 0 are.lines every.lines number (omega (arith, few))
    (record { of_ids = refl; of_crcs = refl; of_offsets = refl; of_longs = refl })
    (record { of_ids = ids.0; of_crcs = crcs.0; of_offsets = shorts.0; of_longs = shorts.1 })

same_index : (a b : Index) → a.entries ≡ b.entries → a.checksum ≡ b.checksum → a ≡ b
same_index a b entries checksum =
    let index : List IndexEntry → Id → Index = λ es id. record { entries = es; checksum = id } in
    ap (λ es. index es a.checksum) entries ∙ ap (λ id. index b.entries id) checksum

pub indexes_once : (text : List ℕ) (a b : Index) → HasText a → HasText b → IsIndex a text → IsIndex b text → a ≡ b
indexes_once text a b has had is was =
    let body = take (length text - 20) text in
    let tables = sym (tables_are a text body (take (length body - 20) body) (drop (length body - 20) body) has is refl refl refl)
    ∙ tables_are b text body (take (length body - 20) body) (drop (length body - 20) body) had was refl refl refl in
    let checksums = sym (trailer_is a text body (take (length body - 20) body) (drop (length body - 20) body) has is refl refl refl)
    ∙ trailer_is b text body (take (length body - 20) body) (drop (length body - 20) body) had was refl refl refl in
    same_index a b (tables_once a.entries b.entries has.entries had.entries tables) checksums

length-digest : (h : List ℕ) (n : ℕ) → length (digest_bytes h n) ≡ n * 4
unfolding digest_bytes
length-digest h zero = refl
length-digest h (suc n) = omega (arith, length-append (digest_bytes h n) (to_be_bytes w32 (slice_index h n)), length-digest h n)

pub length-sha1 : (m : List ℕ) → length (sha1 m) ≡ 20
unfolding sha1
length-sha1 m = length-digest (hash_after (padded_message m) (length (padded_message m) / 64)) 5

own_text : (index : Index) → IsIndex index (index_text index)
own_text index = record { own = sha1 (index_body index); long = length-sha1 (index_body index); parts = refl }

pub reads_back : (index : Index) (found : Option Index) → HasText index → ReadsIndex (index_text index) found → found ≡ Some index
reads_back index None has reads = absurd (reads index has (own_text index))
reads_back index (Some other) has reads = ap Some (indexes_once (index_text index) other index reads.0 has reads.1 (own_text index))

pub written_back : {T E : Type 0} (r : Result T E) (items : T → List ℕ) (index : Index) → HasText index → IfOk r (λ text. items text ≡ index_text index)
    → IfOk r (λ text. (found : Option Index) → ReadsIndex (items text) found → found ≡ Some index)
written_back (Err e) items index has is = tt
written_back (Ok text) items index has is = λ found reads. reads_back index found has (subst (λ l. ReadsIndex l found) is reads)
