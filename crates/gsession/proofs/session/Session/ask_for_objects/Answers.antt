use Rattle.gsession.proofs.BuildLemmas.{fetches_next}
use Rattle.gsession.proofs.OfferLemmas.{asked_objects}
use Rattle.gsession.proofs.session.Session.ask_for_objects.Goals as goal

pub returns-clause-made : goal.returns-clause-made
returns-clause-made g c =
    let batch = c.as_slice.ensures.value in
    let made = c.in_ok-ask_with.ensures.made in
    fetches_next c.args.self.now c.ask_with.new.self c.args.repo.now.graph.entries _ c.in_ok-batch.batch.items
    c.requires.stage c.in_ok-batch.ensures.batch (rw batch at made.0) (rw batch at made.1)

pub returns-clause-offers : goal.returns-clause-offers
returns-clause-offers g c =
    let batch = c.as_slice.ensures.value in
    let made = c.in_ok-ask_with.ensures.made in
    asked_objects c.args.self.now c.ask_with.new.self c.args.repo.now.graph.entries _ _ c.in_ok-batch.batch.items
    c.batch.new.offers (rw batch at made.0) (rw batch at made.1) c.in_ok-batch.ensures.offers
