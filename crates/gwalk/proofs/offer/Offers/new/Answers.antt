use Rattle.std.proofs.Common.{[], List, Bool, ℕ, refl, subst, sym}
use Rattle.std.proofs.lemmas.List.Elements.{All-nil}
use Rattle.gdag.proofs.IdLists.{with_new}
use Rattle.gdag.specs.Offer.{MayBeOffered}
use Rattle.gwalk.specs.Offers.{AreReached}
use Rattle.gwalk.proofs.Hearing.{none_reached}
use Rattle.gwalk.proofs.Walking.{underway}
use Rattle.gwalk.proofs.offer.Offers.new.Goals as goal

pub meet_all-requires-clause-has : goal.meet_all-requires-clause-has
meet_all-requires-clause-has g c = ([], c.in_ok-walk.ensures.met [])

pub returns-clause-offers : goal.returns-clause-offers
returns-clause-offers g c =
    let h = c.args.graph.now.entries in
    record {
      front = [];
      back = with_new [] c.args.tips.now;
      underway = underway h c.args.tips.now _ _ _ _ (c.in_ok-meet_all.ensures [] (c.in_ok-walk.ensures.met []));
      told = All-nil (λ (a : List ℕ). ¬ (MayBeOffered h [] c.args.sent.now a));
      known = subst (λ (marks : List Bool). AreReached h [] marks) (sym c.new-2.ensures.items) (none_reached h);
      heard = refl;
      met = c.in_ok-sent.ensures;
    }
