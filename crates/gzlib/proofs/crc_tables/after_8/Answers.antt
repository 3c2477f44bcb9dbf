use Rattle.std.proofs.Common.{rules, ap, ◌∙◌}
use Rattle.gzlib.proofs.CrcTables.{row_8}
use Rattle.gzlib.specs.steps.CrcTables.{after_bytes}
use Rattle.gzlib.proofs.crc_tables.after_8.Goals as goal

pub returns : goal.returns
returns c = row_8 c.from.result (search rules) ∙ ap (after_bytes 8) c.from.ensures
