use Rattle.std.proofs.Common.{sym, ◌+◌}
use Rattle.std.proofs.lemmas.List.{take_rest}
use Rattle.grefs.proofs.SpecLemmas.{with_colon, without_colon}
use Rattle.grefs.proofs.refspec.parse.read_rest.Goals as goal

pub returns-in-Some : goal.returns-in-Some
returns-in-Some g c =
    with_colon c.names_are_clean.ensures c.args.forced c.args.text.now c.in-Some.at (sym c.in-Some.ensures.place) _
    (rw (take_rest c.args.text.now (c.in-Some.at + 1)) at c.read_sides.ensures)

pub returns-in-None : goal.returns-in-None
returns-in-None g c = without_colon c.names_are_clean.ensures c.args.forced c.args.text.now (sym c.in-None.ensures.place)
