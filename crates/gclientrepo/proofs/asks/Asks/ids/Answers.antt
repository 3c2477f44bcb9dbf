use Rattle.std.proofs.Common.{◌≡◌, ℕ, List, IfOk, ap, ◌∙◌, map, subst}
use Rattle.std.specs.Map.{values_of}
use Rattle.gclientrepo.specs.Asks.{asked_ids}
use Rattle.gclientrepo.specs.declared.ask.Ask.{Ask}
use Rattle.gclientrepo.specs.declared.asks.Aim.{Aim}
use Rattle.gclientrepo.proofs.AskLemmas.{ids_pairs}
use Rattle.gclientrepo.proofs.asks.Asks.ids.Goals as goal

pub returns : goal.returns
returns g c =
    let is : map (λ (aim : Aim). aim.id) (values_of c.self.inside.aims.entries) ≡ asked_ids c.args.self.now =
    ids_pairs g.row.A.Denot c.self.inside.aims.entries ∙ ap (λ (asks : List (Ask g.row.A.Denot)). asked_ids asks) c.self.view_is in
    subst (λ (l : List (List ℕ)). IfOk c.ids_of.result (λ ids. ids.items ≡ l)) is c.ids_of.ensures
