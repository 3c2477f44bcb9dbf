use Rattle.std.proofs.Common.{◌∙◌, ◌+◌, ◌++◌, ◌≤◌, ◌<◌, length, ap, subst, sym, arith}
use Rattle.gdag.specs.Graphs.{History}
use Rattle.gdag.specs.Offer.{IsOffer}
use Rattle.gwalk.specs.Offers.{AreOffers}
use Rattle.grequest.specs.Asked.{max_haves}
use Rattle.gsession.specs.Requesting.{batch_size}
use Rattle.gsession.specs.Sessions.{SessionState, IsSession}
use Rattle.gsession.proofs.CommonLemmas.{batch_none, batch_room, offer_fits}
use Rattle.gsession.proofs.session.Session.batch.Goals as goal

pub next-requires : goal.next-requires
next-requires g c =
    let s = c.args.self.now in
    let of = c.in_ok-walk.ensures.offers in (
      s.tips,
      of.heard,
      of.rest,
      s.sent,
      c.as_slice.ensures.value ∙ ap (λ (s : SessionState g.row.A.Denot). s.commons) c.self.view_is ∙ of.commons,
      subst (λ (h : History g.row.A.Denot). AreOffers h.entries s.tips of.heard s.sent c.in_ok-walk.walk)
          (sym c.graph.ensures) of.are,
    )

pub returns-then-len-max_haves-clause-batch : goal.returns-then-len-max_haves-clause-batch
returns-then-len-max_haves-clause-batch g c =
    let s = c.args.self.now in
    let of = c.in_ok-walk.ensures.offers in
    let commons = c.as_slice.ensures.value ∙ ap (λ (s : SessionState g.row.A.Denot). s.commons) c.self.view_is in
    let size = c.batch_size.ensures ∙ ap (λ (s : SessionState g.row.A.Denot). batch_size s.options.max_batch s.rounds) c.self.view_is in
    let answers : IsOffer c.args.repo.now.graph.entries s.tips s.commons s.sent (batch_size s.options.max_batch s.rounds)
    c.in_ok-offer.offer.items × AreOffers c.args.repo.now.graph.entries s.tips s.commons
    (s.sent ++ c.in_ok-offer.offer.items) c.next.new.self =
    rw (c.graph.ensures, commons, size) at
    (c.in_ok-offer.ensures.answer s.tips of.heard of.rest s.sent (commons ∙ of.commons)
    (subst (λ (h : History g.row.A.Denot). AreOffers h.entries s.tips of.heard s.sent c.in_ok-walk.walk)
    (sym c.graph.ensures) of.are)) in
    let offer = c.in_ok-offer.offer.items in
    let few = c.self.invariant.0.commons.few in
    let most = c.max_haves.ensures in
    let room : length c.self.inside.commons.items + length offer ≤ max_haves c.self.inside.options.limits =
    omega (arith, few, most) in
    let fits = subst (λ (s : SessionState g.row.A.Denot). length s.commons + length offer ≤ max_haves s.options.limits)
    c.self.view_is room in
    record {
      offer = offer;
      offered = answers.0;
      is = batch_room c.args.self.now.options.limits c.args.self.now.commons offer fits;
    }

pub returns-then-len-max_haves-clause-fits : goal.returns-then-len-max_haves-clause-fits
returns-then-len-max_haves-clause-fits g c =
    let s = c.args.self.now in
    let of = c.in_ok-walk.ensures.offers in
    let commons = c.as_slice.ensures.value ∙ ap (λ (s : SessionState g.row.A.Denot). s.commons) c.self.view_is in
    let size = c.batch_size.ensures ∙ ap (λ (s : SessionState g.row.A.Denot). batch_size s.options.max_batch s.rounds) c.self.view_is in
    let answers : IsOffer c.args.repo.now.graph.entries s.tips s.commons s.sent (batch_size s.options.max_batch s.rounds)
    c.in_ok-offer.offer.items × AreOffers c.args.repo.now.graph.entries s.tips s.commons
    (s.sent ++ c.in_ok-offer.offer.items) c.next.new.self =
    rw (c.graph.ensures, commons, size) at
    (c.in_ok-offer.ensures.answer s.tips of.heard of.rest s.sent (commons ∙ of.commons)
    (subst (λ (h : History g.row.A.Denot). AreOffers h.entries s.tips of.heard s.sent c.in_ok-walk.walk)
    (sym c.graph.ensures) of.are)) in
    let offer = c.in_ok-offer.offer.items in
    let few = c.self.invariant.0.commons.few in
    let most = c.max_haves.ensures in
    let room : length c.self.inside.commons.items + length offer ≤ max_haves c.self.inside.options.limits =
    omega (arith, few, most) in
    let fits = subst (λ (s : SessionState g.row.A.Denot). length s.commons + length offer ≤ max_haves s.options.limits)
    c.self.view_is room in
    offer_fits c.offers_are_exact.ensures c.positions_are_nodes.ensures c.ids_have_one_format.ensures c.args.self.now
    c.args.repo.now.graph _ offer (subst IsSession c.self.view_is c.self.invariant.0) c.laws.ensures.graph
    answers.0 fits

pub returns-then-len-max_haves-clause-offers : goal.returns-then-len-max_haves-clause-offers
returns-then-len-max_haves-clause-offers g c =
    let s = c.args.self.now in
    let of = c.in_ok-walk.ensures.offers in
    let commons = c.as_slice.ensures.value ∙ ap (λ (s : SessionState g.row.A.Denot). s.commons) c.self.view_is in
    let size = c.batch_size.ensures ∙ ap (λ (s : SessionState g.row.A.Denot). batch_size s.options.max_batch s.rounds) c.self.view_is in
    let answers : IsOffer c.args.repo.now.graph.entries s.tips s.commons s.sent (batch_size s.options.max_batch s.rounds)
    c.in_ok-offer.offer.items × AreOffers c.args.repo.now.graph.entries s.tips s.commons
    (s.sent ++ c.in_ok-offer.offer.items) c.next.new.self =
    rw (c.graph.ensures, commons, size) at
    (c.in_ok-offer.ensures.answer s.tips of.heard of.rest s.sent (commons ∙ of.commons)
    (subst (λ (h : History g.row.A.Denot). AreOffers h.entries s.tips of.heard s.sent c.in_ok-walk.walk)
    (sym c.graph.ensures) of.are)) in
    answers.1

pub returns-else-len-max_haves-clause-batch : goal.returns-else-len-max_haves-clause-batch
returns-else-len-max_haves-clause-batch g c =
    let s = c.args.self.now in
    let of = c.in_ok-walk.ensures.offers in
    let commons = c.as_slice.ensures.value ∙ ap (λ (s : SessionState g.row.A.Denot). s.commons) c.self.view_is in
    let size = c.batch_size.ensures ∙ ap (λ (s : SessionState g.row.A.Denot). batch_size s.options.max_batch s.rounds) c.self.view_is in
    let answers : IsOffer c.args.repo.now.graph.entries s.tips s.commons s.sent (batch_size s.options.max_batch s.rounds)
    c.in_ok-offer.offer.items × AreOffers c.args.repo.now.graph.entries s.tips s.commons
    (s.sent ++ c.in_ok-offer.offer.items) c.next.new.self =
    rw (c.graph.ensures, commons, size) at
    (c.in_ok-offer.ensures.answer s.tips of.heard of.rest s.sent (commons ∙ of.commons)
    (subst (λ (h : History g.row.A.Denot). AreOffers h.entries s.tips of.heard s.sent c.in_ok-walk.walk)
    (sym c.graph.ensures) of.are)) in
    let offer = c.in_ok-offer.offer.items in
    let few = c.self.invariant.0.commons.few in
    let most = c.max_haves.ensures in
    let over : max_haves c.self.inside.options.limits < length c.self.inside.commons.items + length offer =
    omega (arith, few, most) in
    let past = subst (λ (s : SessionState g.row.A.Denot). max_haves s.options.limits < length s.commons + length offer)
    c.self.view_is over in
    record {
      offer = offer;
      offered = answers.0;
      is = c.new.ensures.items ∙ batch_none c.args.self.now.options.limits c.args.self.now.commons offer past;
    }
