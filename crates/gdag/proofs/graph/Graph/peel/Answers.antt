use Rattle.std.proofs.Common.{◌≡◌, ℕ, List, Some, ◌+◌, suc, add-one, ap, refl, sym, ◌∙◌, subst, arith}
use Rattle.std.proofs.lemmas.Slice.Eq.{bytes_eq-Decides}
use Rattle.gdag.specs.Peeling.{Tags}
use Rattle.gdag.proofs.PeelLemmas.{peel_stuck, peel_ends, peel_nameless, peel_long, peel_round, one_tag_more}
use Rattle.gdag.proofs.graph.Graph.peel.Goals as goal
use Rattle.gdag.proofs.graph.Graph.peel.Goals.{then-is_power_of_two, else-is_power_of_two}

pub loop-steps-init : goal.loop-steps-init
loop-steps-init g c = (refl, (0, omega arith, refl))

-- the graph does not contain the object
pub returns-in_err-node-clause-only : goal.returns-in_err-node-clause-only
returns-in_err-node-clause-only g c =
    λ c' peels. absurd (peel_stuck c.args.self.now.entries c.args.id.now c.loop-steps.at c' c.loop-steps.steps c.loop-steps.invariant.0 (λ node held. (let missing = c.in_err-node.ensures in cc)) peels)

-- the object is a commit
pub returns-in-Commit-clause-found : goal.returns-in-Commit-clause-found
returns-in-Commit-clause-found g c =
    (c.loop-steps.steps, c.loop-steps.invariant.0, record { node = c.in_ok-node.node.now; held = sym c.in_ok-node.ensures; commit = c.in-Commit.is })

pub returns-in-Commit-clause-only : goal.returns-in-Commit-clause-only
returns-in-Commit-clause-only g c =
    λ c' peels.
    ap (λ (x : List ℕ). Some x)
    (peel_ends c.args.self.now.entries c.args.id.now c.loop-steps.at c' c.loop-steps.steps c.loop-steps.invariant.0 (record { node = c.in_ok-node.node.now; held = sym c.in_ok-node.ensures; commit = c.in-Commit.is }) peels)

-- the object is a tag without a parent
pub returns-in_err-at-in-Tag-clause-only : goal.returns-in_err-at-in-Tag-clause-only
returns-in_err-at-in-Tag-clause-only g c =
    λ c' peels. absurd (peel_nameless c.args.self.now.entries c.args.id.now c.loop-steps.at c' c.loop-steps.steps c.in_ok-node.node.now c.loop-steps.invariant.0 (sym c.in_ok-node.ensures) c.in-Tag.is (rw c.as_slice.ensures at (sym c.in_err-at-in-Tag.ensures.value)) peels)

-- the chain returns to the id in `kept`
pub returns-then-eq-clause-only : goal.returns-then-eq-clause-only
returns-then-eq-clause-only g c =
    let more = one_tag_more c.args.self.now.entries c.loop-steps.steps c.args.id.now c.loop-steps.at c.in_ok-at-in-Tag.field-0.now c.in_ok-node.node.now c.loop-steps.invariant.0 (sym c.in_ok-node.ensures) c.in-Tag.is (rw c.as_slice.ensures at (sym c.in_ok-at-in-Tag.ensures.value)) in
    let kept = c.loop-steps.invariant.1 in
    let less = kept.1 in
    let same : c.in_ok-at-in-Tag.field-0.now ≡ c.loop-steps.kept = (bytes_eq-Decides c.in_ok-at-in-Tag.field-0.now c.loop-steps.kept).0 (sym c.eq.ensures ∙ c.if-eq.true) in
    λ c' peels. absurd (peel_round c.args.self.now.entries c.args.id.now c.loop-steps.kept c' kept.0 (suc c.loop-steps.steps) (omega (arith, less)) kept.2 (subst (Tags c.args.self.now.entries (suc c.loop-steps.steps) c.args.id.now) same more) peels)

-- the loop takes one more step along the chain
pub loop-steps-preserved : goal.loop-steps-preserved
loop-steps-preserved g c =
    let more = one_tag_more c.args.self.now.entries c.loop-steps.steps c.args.id.now c.loop-steps.at c.in_ok-at-in-Tag.field-0.now c.in_ok-node.node.now c.loop-steps.invariant.0 (sym c.in_ok-node.ensures) c.in-Tag.is (rw c.as_slice.ensures at (sym c.in_ok-at-in-Tag.ensures.value)) in
    let before = c.loop-steps.invariant.1 in
    let less = before.1 in (
      rw add-one more,
      elim c.if-is_power_of_two.branch [
        | then-is_power_of_two w ↦ (c.loop-steps.steps + 1, omega arith, rw add-one (subst (Tags c.args.self.now.entries (suc c.loop-steps.steps) c.args.id.now) (sym w.kept-is) more))
        | else-is_power_of_two w ↦ (before.0, omega (arith, less), subst (Tags c.args.self.now.entries before.0 c.args.id.now) (sym w.kept-is) before.2)
      ],
    )

-- the chain has at least as many tags as the graph has entries
pub returns-clause-only : goal.returns-clause-only
returns-clause-only g c =
    λ c' peels. absurd (peel_long c.args.self.now.entries c.loop-steps.steps c.args.id.now c.loop-steps.at c' (omega (arith, c.len-steps-end.ensures.len)) c.loop-steps.invariant.0 peels)
