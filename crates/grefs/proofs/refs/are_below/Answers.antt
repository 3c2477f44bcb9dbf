use Rattle.std.proofs.Common.{is_lt, sym, ◌∙◌, ap}
use Rattle.grefs.proofs.RefLemmas.{last_decides}
use Rattle.grefs.proofs.refs.are_below.Goals as goal

pub returns-in-Some : goal.returns-in-Some
returns-in-Some g c =
    last_decides c.args.refs.now c.in-Some.last.now c.args.name.now c.is_lt.result (sym c.in-Some.ensures.value) c.requires
    (rw c.as_bytes.ensures.bytes at (c.is_lt.ensures ∙ ap is_lt c.cmp.ensures))
