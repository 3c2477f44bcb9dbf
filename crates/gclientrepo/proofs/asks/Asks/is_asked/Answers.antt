use Rattle.std.proofs.Common.{List, ◌∙◌, ap}
use Rattle.gclientrepo.specs.Asks.{is_asked}
use Rattle.gclientrepo.specs.declared.ask.Ask.{Ask}
use Rattle.gclientrepo.proofs.AskLemmas.{asked_pairs}
use Rattle.gclientrepo.proofs.asks.Asks.is_asked.Goals as goal

pub returns : goal.returns
returns g c =
    c.contains_key.ensures ∙ asked_pairs g.row.A.Denot c.self.inside.aims.entries c.args.name.now ∙ ap (λ (asks : List (Ask g.row.A.Denot)). is_asked asks c.args.name.now) c.self.view_is
