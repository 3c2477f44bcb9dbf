use Rattle.std.proofs.Common.{◌≡◌, [], ap, refl, sym, ◌∙◌, subst, rules}
use Rattle.grequest.specs.RequestValues.{asked_by_request}
use Rattle.grequest.specs.Asked.{Asked, Ls}
use Rattle.gsession.specs.Requesting.{IsNext, ls_request, waiting_for}
use Rattle.gsession.proofs.session.Session.ask_for_refs.Goals as goal

pub returns-clause-made : goal.returns-clause-made
returns-clause-made g c =
    λ graph.
    let old = c.args.self.now in
    let is : asked_by_request c.in_ok-copy.copy ≡ Ls (ls_request old.refspecs old.offers_unborn) =
    c.in_ok-copy.ensures.asked ∙ c.in_ok-request.ensures.asked ∙ search rules in (
      [],
      subst (λ (asked : Asked). IsNext old graph asked []) (sym is) (c.requires.stage, refl, refl),
      search rules ∙ ap (λ (asked : Asked). waiting_for old asked []) (sym is),
    )
