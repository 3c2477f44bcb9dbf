use Rattle.std.proofs.Common.{◌≡◌, false, None, refl, sym, ap, ap₂, subst, ◌∙◌}
use Rattle.gsession.specs.Requesting.{is_due}
use Rattle.gsession.specs.Sessions.{SessionState}
use Rattle.gsession.specs.declared.stage.Stage.TheVariants.{Listing, Fetching}
use Rattle.gsession.proofs.BuildLemmas.{made_next, none_waits, one_waits}
use Rattle.gsession.proofs.OfferLemmas.{listing_offers}
use Rattle.gsession.proofs.session.Session.make_request.Goals as goal

pub returns-in-Listing-clause-requests : goal.returns-in-Listing-clause-requests
returns-in-Listing-clause-requests g c =
    let s = c.args.self.now in
    let none : s.pending ≡ None = sym (ap (λ (s : SessionState g.row.A.Denot). s.pending) c.self.view_is)
    ∙ none_waits c.self.inside.pending (sym c.is_some.ensures ∙ c.if-is_some.false) in
    let listing : s.stage ≡ Listing =
    sym (ap (λ (s : SessionState g.row.A.Denot). s.stage) c.self.view_is) ∙ c.in-Listing.is in
    made_next s c.ask_for_refs.new.self c.args.repo.now.graph.entries c.ask_for_refs.result (ap₂ is_due listing none)
    (c.ask_for_refs.ensures.made c.args.repo.now.graph.entries)

pub returns-in-Fetching-clause-requests : goal.returns-in-Fetching-clause-requests
returns-in-Fetching-clause-requests g c =
    let s = c.args.self.now in
    let none : s.pending ≡ None = sym (ap (λ (s : SessionState g.row.A.Denot). s.pending) c.self.view_is)
    ∙ none_waits c.self.inside.pending (sym c.is_some.ensures ∙ c.if-is_some.false) in
    let fetching : s.stage ≡ Fetching =
    sym (ap (λ (s : SessionState g.row.A.Denot). s.stage) c.self.view_is) ∙ c.in-Fetching.is in
    made_next s c.ask_for_objects.new.self c.args.repo.now.graph.entries c.ask_for_objects.result
    (ap₂ is_due fetching none) c.ask_for_objects.ensures.made

pub returns-then-is_some-clause-requests : goal.returns-then-is_some-clause-requests
returns-then-is_some-clause-requests g c =
    let it = c.self.inside in (
      (
        subst (λ (s : SessionState g.row.A.Denot). is_due s.stage s.pending ≡ false) c.self.view_is
            (one_waits it.stage it.pending (sym c.is_some.ensures ∙ c.if-is_some.true)),
        refl,
      ),
      refl,
    )

pub ask_for_refs-requires-clause-pending : goal.ask_for_refs-requires-clause-pending
ask_for_refs-requires-clause-pending g c =
    sym (ap (λ (s : SessionState g.row.A.Denot). s.pending) c.self.view_is)
    ∙ none_waits c.self.inside.pending (sym c.is_some.ensures ∙ c.if-is_some.false)

pub ask_for_objects-requires-clause-pending : goal.ask_for_objects-requires-clause-pending
ask_for_objects-requires-clause-pending g c =
    sym (ap (λ (s : SessionState g.row.A.Denot). s.pending) c.self.view_is)
    ∙ none_waits c.self.inside.pending (sym c.is_some.ensures ∙ c.if-is_some.false)

pub returns-in-Listing-clause-offers : goal.returns-in-Listing-clause-offers
returns-in-Listing-clause-offers g c =
    let s = c.args.self.now in
    let listing : s.stage ≡ Listing =
    sym (ap (λ (s : SessionState g.row.A.Denot). s.stage) c.self.view_is) ∙ c.in-Listing.is in
    listing_offers s c.ask_for_refs.new.self c.args.repo.now.graph.entries c.ask_for_refs.result c.args.offers.now
    listing (c.ask_for_refs.ensures.made c.args.repo.now.graph.entries) c.requires
