use Rattle.std.proofs.Common.{◌≡◌, ◌∙◌, ◌++◌, ◌∷◌, ap, subst, sym, List, ℕ}
use Rattle.grefs.specs.Laws.{MayComeNext}
use Rattle.grefs.specs.RefLists.{IsRefs, RefList}
use Rattle.gclientrepo.proofs.ref_map.RefMap.into_refs.Given.{Over}
use Rattle.gclientrepo.proofs.ref_map.RefMap.into_refs.Goals as goal

comes_next : (g : Over) (c : goal.After-refs-1 g) → MayComeNext c.loop-name.refs c.in-Some.name
comes_next g c =
    let refs = c.loop-name.refs in
    let ref : List ℕ × List ℕ = (c.in-Some.name, c.in-Some.id) in
    let all : c.into_iter-name-iterator.result ≡ c.self.inside.refs.entries = c.into_iter-name-iterator.ensures.into_iter_gives.0 in
    let parts : refs ++ ref ∷ c.next.new.self ≡ c.self.inside.refs.entries =
    ap (λ (rest : RefList). refs ++ rest) (sym c.in-Some.ensures.steps) ∙ c.loop-name.invariant ∙ all in
    c.refs_come_in_order.ensures refs ref c.next.new.self (subst IsRefs (sym parts) c.self.invariant)

pub push-requires-clause-name : goal.push-requires-clause-name
push-requires-clause-name g c = (comes_next g c).below

pub push-requires-clause-above : goal.push-requires-clause-above
push-requires-clause-above g c = (comes_next g c).above

pub push-requires-clause-room : goal.push-requires-clause-room
push-requires-clause-room g c = (comes_next g c).room
