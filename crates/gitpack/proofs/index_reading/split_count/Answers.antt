use Rattle.std.proofs.Common.{◌∙◌, ◌++◌, length, refl}
use Rattle.std.specs.Int.{w32, to_be_bytes}
use Rattle.gitpack.specs.Indexes.{fan_out, index_header}
use Rattle.gitpack.specs.steps.Rows.{index_rows}
use Rattle.gitpack.proofs.RowLemmas.{back_of, count_fits, counted_tables, front_of, length-front, not_short, word}
use Rattle.gitpack.proofs.index_reading.split_count.Goals as goal

pub returns-in_default : goal.returns-in_default
returns-in_default c lines are text =
    not_short 1028 (index_header ++ fan_out 255 lines) (to_be_bytes w32 (length lines) ++ index_rows lines) c.args.bytes.now (text ∙ counted_tables lines are.lines) (length-front lines) c.in_default.ensures.cases

pub returns-in_default-split_first_chunk : goal.returns-in_default-split_first_chunk
returns-in_default-split_first_chunk c lines are text =
    let number = to_be_bytes w32 (length lines) in
    let after = back_of 1028 (index_header ++ fan_out 255 lines) (number ++ index_rows lines) c.args.bytes.now c.in-Some.after.now (text ∙ counted_tables lines are.lines) (length-front lines) c.in-Some.ensures.cases.2 in
    not_short 4 number (index_rows lines) c.in-Some.after.now after refl c.in_default-split_first_chunk.ensures.cases

pub returns : goal.returns
returns c lines are text =
    let number = to_be_bytes w32 (length lines) in
    let after = back_of 1028 (index_header ++ fan_out 255 lines) (number ++ index_rows lines) c.args.bytes.now c.in-Some.after.now (text ∙ counted_tables lines are.lines) (length-front lines) c.in-Some.ensures.cases.2 in
    let cut = c.in-Some-split_first_chunk.ensures.cases in (
      c.from_be_bytes.ensures
          ∙ word (length lines) c.in-Some-split_first_chunk.count.now (count_fits lines are) (front_of 4 number (index_rows lines) c.in-Some.after.now c.in-Some-split_first_chunk.count.now after refl cut.0),
      back_of 4 number (index_rows lines) c.in-Some.after.now c.in-Some-split_first_chunk.rows.now after refl cut.1,
    )
