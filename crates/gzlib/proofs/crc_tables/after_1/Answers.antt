use Rattle.std.proofs.Common.{rules, ap, ◌∙◌}
use Rattle.gzlib.proofs.CrcTables.{row_1}
use Rattle.gzlib.specs.steps.CrcTables.{after_bytes}
use Rattle.gzlib.proofs.crc_tables.after_1.Goals as goal

pub returns : goal.returns
returns c = row_1 c.from.result (search rules) ∙ ap (after_bytes 1) c.from.ensures
