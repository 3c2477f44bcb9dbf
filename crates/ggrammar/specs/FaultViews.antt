-- A row of the table of faults, independent of where its texts are in memory.
use Rattle.ggrammar.specs.Faults.{WhyRow}
use Rattle.ggrammar.specs.declared.fault.WhyRow as lent

abbrev pub row_view : lent.WhyRow → WhyRow
row_view row = record { code = row.code; name = row.name.now; phrase = row.phrase.now }
