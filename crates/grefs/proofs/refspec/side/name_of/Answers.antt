use Rattle.std.proofs.Common.{inl, ◌++◌}
use Rattle.grefs.proofs.SpecLemmas.{too_long_name}
use Rattle.grefs.proofs.refspec.side.name_of.Goals as goal

pub returns-in-None : goal.returns-in-None
returns-in-None g c = inl (too_long_name (c.args.front.now ++ c.args.back.now) c.in-None.ensures)
