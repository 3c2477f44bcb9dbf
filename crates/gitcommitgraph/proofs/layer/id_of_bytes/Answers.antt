use Rattle.std.proofs.Common.{arith}
use Rattle.gitcommitgraph.proofs.ChainLemmas.{is_made}
use Rattle.gitcommitgraph.proofs.layer.id_of_bytes.Goals as goal

pub unwrap-requires : goal.unwrap-requires
unwrap-requires c = is_made c.args.bytes.now c.from_bytes.result (omega arith) c.from_bytes.ensures
