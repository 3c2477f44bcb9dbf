use Rattle.std.proofs.Common.{ℕ, ◌+◌, ◌≤◌, List, length, take, drop, sym, ◌∙◌, subst, arith}
use Rattle.std.proofs.lemmas.Bool.{false≢true}
use Rattle.std.proofs.lemmas.List.{take_all}
use Rattle.std.proofs.lemmas.List.Elements.{All-more}
use Rattle.gdag.specs.Graphs.{Holds}
use Rattle.gdag.proofs.Growing.{at_front}
use Rattle.gdag.proofs.Holding.{not_held}
use Rattle.gdag.proofs.graph.Graph.first_absent.Goals as goal

pub returns-then-not-contains : goal.returns-then-not-contains
returns-then-not-contains g c = let ids = c.args.ids.now in let k = c.loop-id.id-index in record {
  front = take k ids;
  rest = drop (k + 1) ids;
  parts = at_front ids k c.id-item.result c.loop-id-test.true c.id-item.is;
  held = c.loop-id.invariant;
  absent = not_held c.args.self.now.entries c.id-item.result (λ h. false≢true (sym c.if-not-contains.true ∙ c.contains.ensures.1 h));
}

pub loop-id-preserved : goal.loop-id-preserved
loop-id-preserved g c =
    let P : List ℕ → Type 0 = λ id. Holds c.args.self.now.entries id in
    All-more P c.args.ids.now c.loop-id.id-index c.id-item.result c.loop-id-test.true c.loop-id.invariant (subst P c.id-item.is (c.contains.ensures.0 c.if-not-contains.false))

pub returns : goal.returns
returns g c =
    let past : length c.args.ids.now ≤ c.loop-id.id-index = omega (arith, c.loop-id-test.false) in
    rw (take_all c.loop-id.id-index c.args.ids.now past) at c.loop-id.invariant
