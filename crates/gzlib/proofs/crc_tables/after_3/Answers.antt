use Rattle.std.proofs.Common.{rules, ap, ◌∙◌}
use Rattle.gzlib.proofs.CrcTables.{row_3}
use Rattle.gzlib.specs.steps.CrcTables.{after_bytes}
use Rattle.gzlib.proofs.crc_tables.after_3.Goals as goal

pub returns : goal.returns
returns c = row_3 c.from.result (search rules) ∙ ap (after_bytes 3) c.from.ensures
