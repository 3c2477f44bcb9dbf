use Rattle.std.proofs.Common.{rules, ap, ◌∙◌}
use Rattle.gzlib.proofs.CrcTables.{row_5}
use Rattle.gzlib.specs.steps.CrcTables.{after_bytes}
use Rattle.gzlib.proofs.crc_tables.after_5.Goals as goal

pub returns : goal.returns
returns c = row_5 c.from.result (search rules) ∙ ap (after_bytes 5) c.from.ensures
