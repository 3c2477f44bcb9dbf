use Rattle.std.proofs.Common.{length, arith, eq-eqb}
use Rattle.std.specs.Prelude.{slice_index}
use Rattle.gitrefs.proofs.Cutting.{found_first}
use Rattle.gitrefs.proofs.words.cut_line.Goals as goal

pub returns-in-None : goal.returns-in-None
returns-in-None c front rest is =
    let f = found_first c.args.text.now front 10 rest is in
    c.in-None.ensures (length front) (omega arith) f.0 (eq-eqb (slice_index c.args.text.now (length front)) 10 f.1)
