use Rattle.std.proofs.Common.{◌≡◌, [], ◌∷◌, refl, subst}
use Rattle.glsreply.specs.RefTexts.{RefLine}
use Rattle.gsession.specs.Asking.{asks_by}
use Rattle.gsession.proofs.AskLemmas.{HasAdded, adds_none, adds_one}
use Rattle.gsession.proofs.asks.ask_of_line.Goals as goal

pub returns-in_default : goal.returns-in_default
returns-in_default g c =
    let spec = c.args.spec.now in
    let asks = c.args.asks.now in
    subst (λ (line : RefLine). HasAdded asks (asks_by spec (line ∷ [])) asks) c.line.view_is
    (adds_none spec _ asks asks (rw c.in_default.is at c.in_ok-name.ensures) refl)

pub returns : goal.returns
returns g c =
    let spec = c.args.spec.now in
    let asks = c.args.asks.now in
    let finds = rw c.in-Some.is at c.in_ok-name.ensures in
    let forced : c.is_forced.result ≡ spec.forced = c.is_forced.ensures.forced in
    subst (λ (line : RefLine). HasAdded asks (asks_by spec (line ∷ [])) c.add.new.self) c.line.view_is
    (adds_one spec _ _ asks c.add.new.self finds.0 finds.1 (rw forced at c.in_ok-add.ensures.ok))
