use Rattle.std.proofs.Common.{◌≡◌, List, length}
use Rattle.std.specs.Prelude.{All}
use Rattle.gitpack.specs.Indexes.{AreEntries, IsLine}
use Rattle.gitpack.specs.declared.index.IndexEntry.{IndexEntry}
use Rattle.gitpack.specs.steps.Rows.{AreLeft, AreRows}
use Rattle.gitpack.proofs.index_reading.read_lines.Given as goal

abbrev pub invariant-loop-line : goal.invariant-loop-line
invariant-loop-line g l = record {
  lines : All IsLine l.entries.items;
  counted : length l.entries.items ≡ l._line;
  left : (lines : List IndexEntry) → AreEntries lines → l.count ≡ length lines
      → AreRows l.tables.ids.now l.tables.crcs.now l.tables.offsets.now l.tables.long_offsets.now 0 lines
      → AreLeft l.left.ids.now l.left.crcs.now l.left.offsets.now l.left.long_offsets.now l.entries.items lines;
}
