use Rattle.std.proofs.Common.{rules, ap, ◌∙◌}
use Rattle.gzlib.proofs.CrcTables.{row_6}
use Rattle.gzlib.specs.steps.CrcTables.{after_bytes}
use Rattle.gzlib.proofs.crc_tables.after_6.Goals as goal

pub returns : goal.returns
returns c = row_6 c.from.result (search rules) ∙ ap (after_bytes 6) c.from.ensures
