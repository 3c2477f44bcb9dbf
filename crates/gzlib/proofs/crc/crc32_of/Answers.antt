use Rattle.std.proofs.Common.{[]}
use Rattle.gzlib.proofs.crc.crc32_of.Goals as goal

pub returns : goal.returns
returns c = c.sum.ensures c.args.bytes.now (c.update.ensures [] c.new-crc.ensures)
