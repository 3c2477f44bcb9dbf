use Rattle.std.proofs.Common.{◌≡◌, ◌∙◌, ◌*◌, ◌++◌, List, ℕ, length, ap, arith, sym}
use Rattle.std.specs.List.{flat_map}
use Rattle.gitpack.specs.Indexes.{AreEntries, crc_bytes, id_bytes, long_bytes, short_offsets}
use Rattle.gitpack.specs.declared.index.IndexEntry.{IndexEntry}
use Rattle.gitpack.proofs.RowLemmas.{back_of, front_of, length-crcs, length-ids, length-shorts, not_short}
use Rattle.gitpack.proofs.index_reading.split_tables.Goals as goal

ids_long : (count : ℕ) (lines : List IndexEntry) → AreEntries lines → count ≡ length lines → length (flat_map id_bytes lines) ≡ count * 20
ids_long count lines are counted = length-ids lines are.lines ∙ ap (λ n. n * 20) (sym counted)

crcs_long : (count : ℕ) (lines : List IndexEntry) → count ≡ length lines → length (flat_map crc_bytes lines) ≡ count * 4
crcs_long count lines counted = length-crcs lines ∙ ap (λ n. n * 4) (sym counted)

shorts_long : (count : ℕ) (lines : List IndexEntry) → count ≡ length lines → length (short_offsets 0 lines) ≡ count * 4
shorts_long count lines counted = length-shorts 0 lines ∙ ap (λ n. n * 4) (sym counted)

-- the tables after the table of CRC-32s, and the tables after the table of ids
abbrev after_crcs : List IndexEntry → List ℕ
after_crcs lines = short_offsets 0 lines ++ flat_map long_bytes lines

abbrev after_ids : List IndexEntry → List ℕ
after_ids lines = flat_map crc_bytes lines ++ after_crcs lines

pub returns-then-count-gt-MAX_ENTRIES : goal.returns-then-count-gt-MAX_ENTRIES
returns-then-count-gt-MAX_ENTRIES c lines are counted rows =
    let few = are.few in let over = c.if-count-gt-MAX_ENTRIES.true in omega (arith, few, over, counted)

pub returns-in_default : goal.returns-in_default
returns-in_default c lines are counted rows =
    not_short (c.args.count * 20) (flat_map id_bytes lines) (after_ids lines) c.args.rows.now rows (ids_long c.args.count lines are counted) c.in_default.ensures.cases

pub returns-in_default-split_at_checked : goal.returns-in_default-split_at_checked
returns-in_default-split_at_checked c lines are counted rows =
    let n = c.args.count in
    let rest = back_of (n * 20) (flat_map id_bytes lines) (after_ids lines) c.args.rows.now c.in-Some.rest.now rows (ids_long n lines are counted) c.in-Some.ensures.cases.2 in
    not_short (n * 4) (flat_map crc_bytes lines) (after_crcs lines) c.in-Some.rest.now rest (crcs_long n lines counted) c.in_default-split_at_checked.ensures.cases

pub returns-in_default-split_at_checked-2 : goal.returns-in_default-split_at_checked-2
returns-in_default-split_at_checked-2 c lines are counted rows =
    let n = c.args.count in
    let crcs = c.in-Some-split_at_checked in
    let rest = back_of (n * 20) (flat_map id_bytes lines) (after_ids lines) c.args.rows.now c.in-Some.rest.now rows (ids_long n lines are counted) c.in-Some.ensures.cases.2 in
    let others = back_of (n * 4) (flat_map crc_bytes lines) (after_crcs lines) c.in-Some.rest.now crcs.others.now rest (crcs_long n lines counted) crcs.ensures.cases.2 in
    not_short (n * 4) (short_offsets 0 lines) (flat_map long_bytes lines) crcs.others.now others (shorts_long n lines counted) c.in_default-split_at_checked-2.ensures.cases

pub returns : goal.returns
returns c lines are counted rows =
    let n = c.args.count in
    let crcs = c.in-Some-split_at_checked in
    let shorts = c.in-Some-split_at_checked-2 in
    let ids = flat_map id_bytes lines in
    let long = ids_long n lines are counted in
    let rest = back_of (n * 20) ids (after_ids lines) c.args.rows.now c.in-Some.rest.now rows long c.in-Some.ensures.cases.2 in
    let others = back_of (n * 4) (flat_map crc_bytes lines) (after_crcs lines) c.in-Some.rest.now crcs.others.now rest (crcs_long n lines counted) crcs.ensures.cases.2 in
    record {
      of_ids = front_of (n * 20) ids (after_ids lines) c.args.rows.now c.in-Some.ids.now rows long c.in-Some.ensures.cases.1;
      of_crcs = front_of (n * 4) (flat_map crc_bytes lines) (after_crcs lines) c.in-Some.rest.now crcs.crcs.now rest (crcs_long n lines counted) crcs.ensures.cases.1;
      of_offsets = front_of (n * 4) (short_offsets 0 lines) (flat_map long_bytes lines) crcs.others.now shorts.offsets.now others (shorts_long n lines counted) shorts.ensures.cases.1;
      of_longs = back_of (n * 4) (short_offsets 0 lines) (flat_map long_bytes lines) crcs.others.now shorts.long_offsets.now others (shorts_long n lines counted) shorts.ensures.cases.2;
    }
