use Rattle.std.proofs.Common.{rules, ap, ◌∙◌}
use Rattle.gzlib.proofs.CrcTables.{row_2}
use Rattle.gzlib.specs.steps.CrcTables.{after_bytes}
use Rattle.gzlib.proofs.crc_tables.after_2.Goals as goal

pub returns : goal.returns
returns c = row_2 c.from.result (search rules) ∙ ap (after_bytes 2) c.from.ensures
