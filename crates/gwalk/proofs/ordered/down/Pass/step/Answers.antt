use Rattle.std.proofs.Common.{◌-◌, true, false, arith}
use Rattle.gwalk.proofs.Positions.{parents_below, read_mark}
use Rattle.gwalk.proofs.PassCounting.{next_open, next_shut, open_if, shut_known, shut_idle}
use Rattle.gwalk.proofs.Descending.{knows, wants_more, goes_by}
use Rattle.gwalk.proofs.ordered.down.Pass.step.Goals as goal

pub know_all-requires-clause-counted : goal.know_all-requires-clause-counted
know_all-requires-clause-counted g c =
    let self = c.args.self.now in
    let position = self.next - 1 in
    let marked = read_mark self.known.items _ position _ true c.as_slice.ensures.value c.is_marked.ensures c.if-is_marked.true in
    next_shut self.wanted.items self.known.items self.next position self.pending c.requires.counted (omega arith) (shut_known self.wanted.items self.known.items position marked)

pub know_all-requires-clause-below : goal.know_all-requires-clause-below
know_all-requires-clause-below g c =
    parents_below c.args.graph.now.entries (c.args.self.now.next - 1) _ c.requires.order (omega arith) c.parents.ensures

pub want_all-requires-clause-counted : goal.want_all-requires-clause-counted
want_all-requires-clause-counted g c =
    let self = c.args.self.now in
    let position = self.next - 1 in
    let free = read_mark self.known.items _ position _ false c.as_slice.ensures.value c.is_marked.ensures c.if-is_marked.false in
    let marked = read_mark self.wanted.items _ position _ true c.as_slice-else-is_marked.ensures.value c.is_marked-else-is_marked.ensures c.if-is_marked-2.true in
    (next_open self.wanted.items self.known.items self.next position self.pending c.requires.counted (omega arith) (open_if self.wanted.items self.known.items position marked free)).1

pub want_all-requires-clause-below : goal.want_all-requires-clause-below
want_all-requires-clause-below g c =
    parents_below c.args.graph.now.entries (c.args.self.now.next - 1) c.parents-then-is_marked-2.result.now c.requires.order (omega arith) c.parents-then-is_marked-2.ensures

pub returns-then-is_marked-clause-passed : goal.returns-then-is_marked-clause-passed
returns-then-is_marked-clause-passed g c =
    let self = c.args.self.now in
    let held = c.args.graph.now.entries in
    let position = self.next - 1 in
    let marked = read_mark self.known.items _ position _ true c.as_slice.ensures.value c.is_marked.ensures c.if-is_marked.true in
    let parents = c.parents.result.now in
    let below = parents_below held position parents c.requires.order (omega arith) c.parents.ensures in
    rw (c.know_all.ensures.wanted, c.know_all.ensures.next)
    (λ wants commons old. knows held _ _ _ _ self.next position (omega arith) old parents c.parents.ensures below _
    c.know_all.ensures.known marked)

pub returns-then-is_marked-2-clause-passed : goal.returns-then-is_marked-2-clause-passed
returns-then-is_marked-2-clause-passed g c =
    let self = c.args.self.now in
    let held = c.args.graph.now.entries in
    let position = self.next - 1 in
    let free = read_mark self.known.items _ position _ false c.as_slice.ensures.value c.is_marked.ensures c.if-is_marked.false in
    let marked = read_mark self.wanted.items _ position _ true c.as_slice-else-is_marked.ensures.value c.is_marked-else-is_marked.ensures c.if-is_marked-2.true in
    let parents = c.parents-then-is_marked-2.result.now in
    let below = parents_below held position parents c.requires.order (omega arith) c.parents-then-is_marked-2.ensures in
    rw (c.want_all.ensures.known, c.want_all.ensures.next)
    (λ wants commons old. wants_more held _ _ _ _ self.next position (omega arith) old parents
    c.parents-then-is_marked-2.ensures below _ c.want_all.ensures.wanted marked free)

pub returns-else-is_marked-2-clause-counted : goal.returns-else-is_marked-2-clause-counted
returns-else-is_marked-2-clause-counted g c =
    let self = c.args.self.now in
    let position = self.next - 1 in
    let idle = read_mark self.wanted.items _ position _ false c.as_slice-else-is_marked.ensures.value c.is_marked-else-is_marked.ensures c.if-is_marked-2.false in
    next_shut self.wanted.items self.known.items self.next position self.pending c.requires.counted (omega arith) (shut_idle self.wanted.items self.known.items position idle)

pub returns-else-is_marked-2-clause-passed : goal.returns-else-is_marked-2-clause-passed
returns-else-is_marked-2-clause-passed g c =
    let self = c.args.self.now in
    let held = c.args.graph.now.entries in
    let position = self.next - 1 in
    let free = read_mark self.known.items _ position _ false c.as_slice.ensures.value c.is_marked.ensures c.if-is_marked.false in
    let idle = read_mark self.wanted.items _ position _ false c.as_slice-else-is_marked.ensures.value c.is_marked-else-is_marked.ensures c.if-is_marked-2.false in
    λ wants commons old. goes_by held _ _ _ _ self.next position (omega arith) old idle free
