use Rattle.std.proofs.Common.{◌∙◌, refl}
use Rattle.std.specs.List.{flat_map}
use Rattle.std.specs.Int.{w32, to_be_bytes}
use Rattle.gitpack.specs.Indexes.{crc_bytes, id_bytes, long_bytes, short_offsets}
use Rattle.gitpack.specs.steps.Rows.{longs_with, short_of}
use Rattle.gitpack.proofs.RowLemmas.{back_of, front_of, rows_begin, same_line, short_fits, word}
use Rattle.gitpack.proofs.index_reading.split_line.Goals as goal

pub returns-in_default-split_offset-clause-first : goal.returns-in_default-split_offset-clause-first
returns-in_default-split_offset-clause-first c longs line more is few rows =
    let t = c.args.tables in
    let begin = rows_begin t.ids.now t.crcs.now t.offsets.now t.long_offsets.now longs line more rows in
    let bytes = front_of 4 (to_be_bytes w32 (short_of longs line)) (short_offsets (longs_with longs line) more) t.offsets.now c.in-Some-split_first_chunk-2.short.now begin refl c.in-Some-split_first_chunk-2.ensures.cases.0 in
    let short = c.from_be_bytes-short.ensures ∙ word (short_of longs line) c.in-Some-split_first_chunk-2.short.now (short_fits longs line few) bytes in
    c.in_default-split_offset.ensures longs line (flat_map long_bytes more) is short rows.of_longs

pub returns-clause-first : goal.returns-clause-first
returns-clause-first c longs line more is few rows =
    let t = c.args.tables in
    let begin = rows_begin t.ids.now t.crcs.now t.offsets.now t.long_offsets.now longs line more rows in
    let shorts = c.in-Some-split_first_chunk-2 in
    let bytes = front_of 4 (to_be_bytes w32 (short_of longs line)) (short_offsets (longs_with longs line) more) t.offsets.now shorts.short.now begin refl shorts.ensures.cases.0 in
    let short = c.from_be_bytes-short.ensures ∙ word (short_of longs line) shorts.short.now (short_fits longs line few) bytes in
    let offset = c.in-Some-split_offset.ensures longs line (flat_map long_bytes more) is short rows.of_longs in
    let ids = c.in-Some.ensures.cases in
    let id = front_of 20 line.id (flat_map id_bytes more) t.ids.now c.in-Some.id.now rows.of_ids is.id.long ids.0 in
    let crcs = c.in-Some-split_first_chunk.ensures.cases in
    let crc = front_of 4 (to_be_bytes w32 line.crc) (flat_map crc_bytes more) t.crcs.now c.in-Some-split_first_chunk.crc.now rows.of_crcs refl crcs.0 in (
      same_line (record { id = c.id_of_bytes.result; crc = c.from_be_bytes.result; offset = c.in-Some-split_offset.offset }) line
          (c.id_of_bytes.ensures.bytes ∙ id) (c.from_be_bytes.ensures ∙ word line.crc c.in-Some-split_first_chunk.crc.now is.crc crc) offset.0,
      record {
        of_ids = back_of 20 line.id (flat_map id_bytes more) t.ids.now c.in-Some.ids.now rows.of_ids is.id.long ids.1;
        of_crcs = back_of 4 (to_be_bytes w32 line.crc) (flat_map crc_bytes more) t.crcs.now c.in-Some-split_first_chunk.crcs.now rows.of_crcs refl crcs.1;
        of_offsets = back_of 4 (to_be_bytes w32 (short_of longs line)) (short_offsets (longs_with longs line) more) t.offsets.now shorts.offsets.now begin refl shorts.ensures.cases.1;
        of_longs = offset.1;
      },
    )
