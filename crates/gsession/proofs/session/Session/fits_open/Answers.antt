use Rattle.std.proofs.Common.{sym, ap, subst}
use Rattle.gfetchreply.specs.FetchReplies.{Reading}
use Rattle.gfetchreply.specs.Views.{head_in}
use Rattle.gfetchreply.specs.declared.value.FetchHead.{FetchHead}
use Rattle.gsession.specs.steps.Calls.{FitsHead}
use Rattle.gsession.proofs.ReplyLemmas.{acks_fit, fits_acks}
use Rattle.gsession.proofs.session.Session.fits_open.Goals as goal

pub returns-in-Acks-clause-fits : goal.returns-in-Acks-clause-fits
returns-in-Acks-clause-fits g c = λ goes.
    let there = c.in-Some.ensures in (
      there.0,
      there.1,
      subst (λ (h : FetchHead g.row.A.Denot). FitsHead there.0 (head_in h)) (sym c.in-Acks.is)
          (fits_acks _ _ (ap (λ (r : Reading). r.direct) there.2) goes),
    )

pub returns-in-Acks-clause-all : goal.returns-in-Acks-clause-all
returns-in-Acks-clause-all g c = λ fits.
    let there = c.in-Some.ensures in
    let fit = subst (λ (h : FetchHead g.row.A.Denot). FitsHead fits.0 (head_in h)) c.in-Acks.is fits.2 in
    acks_fit c.args.self.now there.0 fits.0 _ (ap (λ (r : Reading). r.direct) there.2) there.1 fits.1 fit
