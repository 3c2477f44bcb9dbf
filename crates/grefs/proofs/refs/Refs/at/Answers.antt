use Rattle.std.proofs.Common.{sym, refl}
use Rattle.std.proofs.lemmas.Bool.{ltb-true}
use Rattle.std.proofs.lemmas.Option.{slice_get_read}
use Rattle.grefs.proofs.refs.Refs.at.Goals as goal

pub returns-clause-pair : goal.returns-clause-pair
returns-clause-pair g c =
    let facts = c.in_ok-pair.ensures.lookup in
    let inside = ltb-true _ _ (sym facts.0) in
    rw (← c.self.view_is, ← c.deref.ensures.value) (slice_get_read _ _ c.args.place c.in_ok-pair.pair.now refl inside facts.1)
