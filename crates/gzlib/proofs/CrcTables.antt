-- The entries of the CRC-32 tables are the values that `after_bytes` defines.
use Rattle.std.proofs.Common.{◌≡◌, ℕ, zero, suc, ◌+◌, ◌*◌, ◌<◌, List, [], ◌∷◌, get_or, refl, ap, ◌∙◌, arith}
use Rattle.gzlib.specs.Crc.{shift_bits}
use Rattle.gzlib.specs.steps.CrcTables.{after_bytes}
use Rattle.gzlib.specs.declared.crc_tables.TheConstants.{AFTER_1, AFTER_2, AFTER_3, AFTER_4, AFTER_5, AFTER_6, AFTER_7, AFTER_8}

-- `count` rows of the table for a shift by `bits` bits, starting with the row for the byte `from`
rows : ℕ → ℕ → ℕ → List ℕ
rows bits zero from = []
rows bits (suc count) from = shift_bits bits from ∷ rows bits count (suc from)

row_is : (bits count from i : ℕ) → i < count → get_or (rows bits count from) i 0 ≡ shift_bits bits (from + i)
unfolding rows
row_is bits zero from i h = absurd (omega (arith, h))
row_is bits (suc count) from zero h =
    let same : from ≡ from + zero = omega arith in
    ap (shift_bits bits) same
row_is bits (suc count) from (suc i) h =
    let next : suc from + i ≡ from + suc i = omega arith in
    row_is bits count (suc from) i (omega arith) ∙ ap (shift_bits bits) next

row_of : (table : List ℕ) (count i : ℕ) → table ≡ rows (8 * count) 256 0 → i < 256 → get_or table i 0 ≡ after_bytes count i
unfolding after_bytes
row_of table count i is h =
    let same : 0 + i ≡ i = omega arith in
    ap (λ (t : List ℕ). get_or t i 0) is ∙ row_is (8 * count) 256 0 i h ∙ ap (shift_bits (8 * count)) same

table_1 : AFTER_1 ≡ rows 8 256 0
unfolding rows
table_1 = refl

pub row_1 : (i : ℕ) → i < 256 → get_or AFTER_1 i 0 ≡ after_bytes 1 i
row_1 i h = row_of AFTER_1 1 i table_1 h

table_2 : AFTER_2 ≡ rows 16 256 0
unfolding rows
table_2 = refl

pub row_2 : (i : ℕ) → i < 256 → get_or AFTER_2 i 0 ≡ after_bytes 2 i
row_2 i h = row_of AFTER_2 2 i table_2 h

table_3 : AFTER_3 ≡ rows 24 256 0
unfolding rows
table_3 = refl

pub row_3 : (i : ℕ) → i < 256 → get_or AFTER_3 i 0 ≡ after_bytes 3 i
row_3 i h = row_of AFTER_3 3 i table_3 h

table_4 : AFTER_4 ≡ rows 32 256 0
unfolding rows
table_4 = refl

pub row_4 : (i : ℕ) → i < 256 → get_or AFTER_4 i 0 ≡ after_bytes 4 i
row_4 i h = row_of AFTER_4 4 i table_4 h

table_5 : AFTER_5 ≡ rows 40 256 0
unfolding rows
table_5 = refl

pub row_5 : (i : ℕ) → i < 256 → get_or AFTER_5 i 0 ≡ after_bytes 5 i
row_5 i h = row_of AFTER_5 5 i table_5 h

table_6 : AFTER_6 ≡ rows 48 256 0
unfolding rows
table_6 = refl

pub row_6 : (i : ℕ) → i < 256 → get_or AFTER_6 i 0 ≡ after_bytes 6 i
row_6 i h = row_of AFTER_6 6 i table_6 h

table_7 : AFTER_7 ≡ rows 56 256 0
unfolding rows
table_7 = refl

pub row_7 : (i : ℕ) → i < 256 → get_or AFTER_7 i 0 ≡ after_bytes 7 i
row_7 i h = row_of AFTER_7 7 i table_7 h

table_8 : AFTER_8 ≡ rows 64 256 0
unfolding rows
table_8 = refl

pub row_8 : (i : ℕ) → i < 256 → get_or AFTER_8 i 0 ≡ after_bytes 8 i
row_8 i h = row_of AFTER_8 8 i table_8 h
