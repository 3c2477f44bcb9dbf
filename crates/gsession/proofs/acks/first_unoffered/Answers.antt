use Rattle.std.proofs.Common.{ℕ, ◌+◌, ◌≤◌, List, length, take, drop, Contains, sym, ◌∙◌, subst, arith}
use Rattle.std.proofs.lemmas.Bool.{false≢true}
use Rattle.std.proofs.lemmas.List.{take_all}
use Rattle.std.proofs.lemmas.List.Elements.{All-more}
use Rattle.gdag.proofs.Growing.{at_front}
use Rattle.gsession.proofs.acks.first_unoffered.Goals as goal

pub returns-then-not-is_offered : goal.returns-then-not-is_offered
returns-then-not-is_offered g c = let acks = c.args.acks.now in let k = c.loop-id.id-index in let id =
    c.id-item.result in record {
      front = take k acks;
      rest = drop (k + 1) acks;
      parts = at_front acks k id c.loop-id-test.true c.id-item.is;
      named = c.loop-id.invariant;
      strange = λ there. false≢true (sym c.if-not-is_offered.true ∙ c.is_offered.ensures.1 there);
    }

pub loop-id-preserved : goal.loop-id-preserved
loop-id-preserved g c =
    let P : List ℕ → Type 0 = Contains c.args.haves.now in
    All-more P c.args.acks.now c.loop-id.id-index c.id-item.result c.loop-id-test.true c.loop-id.invariant
    (subst P c.id-item.is (c.is_offered.ensures.0 c.if-not-is_offered.false))

pub returns : goal.returns
returns g c =
    let past : length c.args.acks.now ≤ c.loop-id.id-index = omega (arith, c.loop-id-test.false) in
    rw (take_all c.loop-id.id-index c.args.acks.now past) at c.loop-id.invariant
