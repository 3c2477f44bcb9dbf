use Rattle.std.proofs.Common.{◌≡◌, None, subst}
use Rattle.ghello.specs.Offers.{check_fault}
use Rattle.gfetch.proofs.SideLemmas.{advert_heard}
use Rattle.gfetch.proofs.client.Client.accept_advert.Goals as goal

pub returns-in-Ok-clause-accepts : goal.returns-in-Ok-clause-accepts
returns-in-Ok-clause-accepts g c =
    rw (← c.self.view_is) (advert_heard c.self.inside.session c.hear.new.self c.args.advert.now c.hear.result
    (subst (λ f. check_fault f c.args.advert.now ≡ None) c.format.ensures c.in-Ok.ensures) c.hear.ensures)
