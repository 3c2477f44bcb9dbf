use Rattle.std.proofs.Common.{◌≡◌, List, Some, subst}
use Rattle.std.proofs.lemmas.Option.{MatchOption-at_some}
use Rattle.std.specs.List.{slice_get}
use Rattle.gclientrepo.specs.Asks.{ask_of_aim}
use Rattle.gclientrepo.specs.declared.ask.Ask.{Ask}
use Rattle.gclientrepo.proofs.AskLemmas.{at_place}
use Rattle.gclientrepo.proofs.asks.Asks.aim.Goals as goal

pub returns : goal.returns
returns g c =
    let at = MatchOption-at_some _ _ c.unwrap.result c.unwrap.ensures (at_place g.row.A.Denot c.self.inside.aims.entries c.args.place c.get_index.result c.get_index.ensures.entry) in
    subst (λ (asks : List (Ask g.row.A.Denot)). slice_get asks c.args.place ≡ Some (ask_of_aim (c.unwrap.result.0.now, c.unwrap.result.1.now))) c.self.view_is at
