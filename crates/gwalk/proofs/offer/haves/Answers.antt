use Rattle.std.proofs.Common.{[], refl}
use Rattle.gwalk.proofs.offer.haves.Goals as goal

pub next-requires : goal.next-requires
next-requires g c = (c.args.tips.now, [], c.args.commons.now, c.args.sent.now, refl, c.in_ok-offers.ensures.offers)

pub returns-clause-answer : goal.returns-clause-answer
returns-clause-answer g c =
    (c.in_ok-ids.ensures.answer c.args.tips.now [] c.args.commons.now c.args.sent.now refl c.in_ok-offers.ensures.offers).0
