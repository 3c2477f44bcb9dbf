-- The value of a ref's line, with the bytes of the borrowed names but not their addresses.
use Rattle.std.specs.Option.{option_copied}
use Rattle.glsreply.specs.RefTexts.{RefLine}
use Rattle.glsreply.specs.declared.lent.LentLine.{LentLine}

abbrev pub lent_view : {A : Type 0} → LentLine A → RefLine
lent_view line =
    record { id = line.id; name = line.name.now; symref = option_copied line.symref; peeled = line.peeled }
