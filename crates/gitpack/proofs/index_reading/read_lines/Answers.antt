use Rattle.std.proofs.Common.{arith, ◌<◌, [], ◌∷◌, ◌++◌, length}
use Rattle.std.proofs.lemmas.List.Elements.{All-push, All-same}
use Rattle.gitpack.specs.Indexes.{IsLine}
use Rattle.gitpack.proofs.RowLemmas.{left_more, left_none, one_longer}
use Rattle.gitpack.proofs.index_reading.read_lines.Goals as goal

pub returns-in_default-clause-whole : goal.returns-in_default-clause-whole
returns-in_default-clause-whole g c lines are counted rows =
    let t = c.loop-line.left in
    let inv = c.loop-line.invariant in
    let n = inv.counted in
    let before : length c.loop-line.entries.items < length lines = omega (arith, n, counted, c.loop-line-test.true) in
    left_none t.ids.now t.crcs.now t.offsets.now t.long_offsets.now c.loop-line.entries.items lines are before (inv.left lines are counted rows) c.in_default.ensures.first

pub loop-line-preserved : goal.loop-line-preserved
loop-line-preserved g c =
    let t = c.loop-line.left in
    let u = c.in-Some.more in
    let read = c.loop-line.entries.items in
    let inv = c.loop-line.invariant in
    let n = inv.counted in
    let grown = c.in_ok-push.ensures.items in
    record {
      lines = All-same IsLine c.push.new.self.items (read ++ c.in-Some.entry ∷ []) grown (All-push IsLine read c.in-Some.entry inv.lines c.in-Some.ensures.line);
      counted = one_longer read c.push.new.self.items c.in-Some.entry c.loop-line._line grown inv.counted;
      left = λ lines are counted rows.
          let before : length read < length lines = omega (arith, n, counted, c.loop-line-test.true) in
          left_more t.ids.now t.crcs.now t.offsets.now t.long_offsets.now read lines are before u.ids.now u.crcs.now u.offsets.now u.long_offsets.now c.in-Some.entry c.push.new.self.items grown
          c.in-Some.ensures.first (inv.left lines are counted rows);
    }
