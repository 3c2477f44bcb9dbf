use Rattle.std.proofs.Common.{rules, ap, ◌∙◌}
use Rattle.gzlib.proofs.CrcTables.{row_7}
use Rattle.gzlib.specs.steps.CrcTables.{after_bytes}
use Rattle.gzlib.proofs.crc_tables.after_7.Goals as goal

pub returns : goal.returns
returns c = row_7 c.from.result (search rules) ∙ ap (after_bytes 7) c.from.ensures
