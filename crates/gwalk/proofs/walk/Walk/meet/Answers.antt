use Rattle.std.proofs.Common.{false, sym, ◌∙◌, arith}
use Rattle.gwalk.specs.Marks.{stop_at}
use Rattle.gwalk.proofs.Positions.{is_none}
use Rattle.gwalk.proofs.Counting.{counts_fit}
use Rattle.gwalk.proofs.Stopping.{stop_position, stop_length, stop_narrow}
use Rattle.std.proofs.lemmas.List.{get_or_read}
use Rattle.gwalk.proofs.Walking.{mark_inside, meets_lost, meets_again, meets_new}
use Rattle.gwalk.proofs.walk.Walk.meet.Goals as goal

pub returns-in_default : goal.returns-in_default
returns-in_default g c =
    λ ids h.
    let none = sym c.position.ensures ∙ is_none c.position.result c.in_default.not-Some in
    meets_lost _ ids _ _ _ _ h c.args.id.now (stop_position c.args.known.now c.args.graph.now.entries c.args.id.now ∙ none)

pub index-requires : goal.index-requires
index-requires g c =
    let position = stop_position c.args.known.now c.args.graph.now.entries c.args.id.now ∙ sym c.in-Some.ensures in
    let inside = mark_inside _ _ _ _ _ _ _ _ c.requires.has.1 position in
    omega arith

pub index_mut-requires : goal.index_mut-requires
index_mut-requires g c =
    let position = stop_position c.args.known.now c.args.graph.now.entries c.args.id.now ∙ sym c.in-Some.ensures in
    let inside = mark_inside _ _ _ _ _ _ _ _ c.requires.has.1 position in
    omega arith

pub overflow_add-self : goal.overflow_add-self
overflow_add-self g c =
    let position = stop_position c.args.known.now c.args.graph.now.entries c.args.id.now ∙ sym c.in-Some.ensures in
    let inside = mark_inside _ _ _ _ _ _ _ _ c.requires.has.1 position in
    let read = sym (get_or_read c.args.self.now.marks.items c.in-Some.position c.index.result.now inside c.index.ensures false) ∙ c.if-not-index.true in
    let few = c.requires.graph.few in
    let long = stop_length c.args.known.now c.args.graph.now.entries in
    let fits = counts_fit (stop_at c.args.known.now c.args.graph.now.entries) c.args.self.now.marks.items c.args.self.now.parent_count c.in-Some.position c.parents_past.result.now c.requires.has.1.parents_are inside read c.parents_past.ensures (omega (arith, few, long)) (stop_narrow c.args.known.now c.args.graph.now.entries c.requires.graph.shaped) in
    omega (arith, fits)

pub returns-in_ok-push : goal.returns-in_ok-push
returns-in_ok-push g c =
    λ ids h.
    let position = stop_position c.args.known.now c.args.graph.now.entries c.args.id.now ∙ sym c.in-Some.ensures in
    let inside = mark_inside _ _ _ _ _ _ _ _ h position in
    let read = sym (get_or_read c.args.self.now.marks.items c.in-Some.position c.index.result.now inside c.index.ensures false) ∙ c.if-not-index.true in
    rw c.in_ok-push.ensures.items (meets_new _ ids _ _ _ _ h c.args.id.now c.in-Some.position c.parents_past.result.now position read c.parents_past.ensures)

pub returns-else-not-index : goal.returns-else-not-index
returns-else-not-index g c =
    λ ids h.
    let position = stop_position c.args.known.now c.args.graph.now.entries c.args.id.now ∙ sym c.in-Some.ensures in
    let inside = mark_inside _ _ _ _ _ _ _ _ h position in
    let read = sym (get_or_read c.args.self.now.marks.items c.in-Some.position c.index.result.now inside c.index.ensures false) ∙ c.if-not-index.false in
    meets_again _ ids _ _ _ _ h c.args.id.now c.in-Some.position position read
