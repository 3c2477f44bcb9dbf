use Rattle.std.proofs.Common.{◌≡◌, false, arith}
use Rattle.std.proofs.lemmas.List.{length-replicate}
use Rattle.gwalk.specs.steps.Passes.{open_below}
use Rattle.gwalk.proofs.Positions.{in_order, parents_first}
use Rattle.gwalk.proofs.PassCounting.{counted_none}
use Rattle.gwalk.proofs.Descending.{starts, ends}
use Rattle.gwalk.proofs.ordered.down.pass_down.Goals as goal

pub want_all-requires-clause-counted : goal.want_all-requires-clause-counted
want_all-requires-clause-counted g c = rw (c.in_ok-no_marks.ensures.marks, c.in_ok-no_marks-2.ensures.marks) (counted_none c.max-end.result)

pub want_all-requires-clause-below : goal.want_all-requires-clause-below
want_all-requires-clause-below g c = λ p x. (let h = c.end_of.ensures.below p x in omega arith)

pub know_all-requires-clause-below : goal.know_all-requires-clause-below
know_all-requires-clause-below g c = λ p x. (let h = c.end_of-2.ensures.below p x in omega arith)

pub loop-pass-init : goal.loop-pass-init
loop-pass-init g c =
    let held = c.args.graph.now.entries in
    let end = c.max-end.result in
    let wants = rw c.in_ok-no_marks.ensures.marks at c.want_all.ensures.wanted in
    let commons = rw (c.want_all.ensures.known, c.in_ok-no_marks-2.ensures.marks) at c.know_all.ensures.known in
    let long = length-replicate end false in
    let passed = starts held c.args.wants.now c.args.commons.now end c.want_all.new.self.wanted.items c.know_all.new.self.known.items wants commons long
    (λ p x. (let h = c.end_of.ensures.below p x in omega arith)) (λ p x. (let h = c.end_of-2.ensures.below p x in omega arith)) in
    record {
      counted = c.know_all.ensures.counted;
      passed = rw (c.know_all.ensures.wanted, c.know_all.ensures.next, c.want_all.ensures.next) passed;
      fits = (let l = wants.long in rw c.know_all.ensures.wanted (omega arith));
    }

-- the pass ends when no unvisited position is open
pub returns-clause-done : goal.returns-clause-done
returns-clause-done g c =
    let pass = c.loop-pass.pass in
    let last = c.loop-pass.invariant in
    let none : open_below pass.wanted.items pass.known.items pass.next ≡ 0 = omega (arith, last.counted.count) in
    ends c.args.graph.now.entries c.args.wants.now c.args.commons.now pass.wanted.items pass.known.items pass.next last.passed (parents_first c.args.graph.now.entries (in_order c.args.graph.now c.is_ordered.ensures.graph c.requires)) none

pub returns-clause-inside : goal.returns-clause-inside
returns-clause-inside g c = (c.loop-pass.invariant.counted.inside, c.loop-pass.invariant.fits)
