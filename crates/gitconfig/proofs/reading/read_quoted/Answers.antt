use Rattle.gitconfig.proofs.ReadingLemmas.{quoted_end}
use Rattle.gitconfig.proofs.reading.read_quoted.Goals as goal

pub returns-in-Some-strip-clause-name : goal.returns-in-Some-strip-clause-name
returns-in-Some-strip-clause-name g c =
    let inv = c.loop-byte.invariant in
    (inv.0, quoted_end c.args.text.now c.loop-byte.rest.now c.in-Some-strip.rest.now inv.0 inv.2 c.in-Some-strip.ensures, inv.1)
