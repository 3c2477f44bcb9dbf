use Rattle.std.proofs.Common.{rules, ap, ◌∙◌}
use Rattle.gzlib.proofs.CrcTables.{row_4}
use Rattle.gzlib.specs.steps.CrcTables.{after_bytes}
use Rattle.gzlib.proofs.crc_tables.after_4.Goals as goal

pub returns : goal.returns
returns c = row_4 c.from.result (search rules) ∙ ap (after_bytes 4) c.from.ensures
