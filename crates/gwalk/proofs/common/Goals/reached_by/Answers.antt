use Rattle.std.proofs.Common.{◌++◌, ◌∷◌, [], false, refl, sym, ap, ◌∙◌, arith}
use Rattle.std.proofs.lemmas.Bool.{false≢true}
use Rattle.std.proofs.lemmas.List.{get_or_read}
use Rattle.gdag.specs.Levels.{is_in, new_ids}
use Rattle.gdag.specs.Reach.{here, Reaches}
use Rattle.gdag.proofs.IdLists.{with_new, contains_from_in, absent_from_in}
use Rattle.gdag.proofs.Reaching.{position_inside}
use Rattle.gwalk.proofs.Looking.{any_of, looks, found, found_absent, looks_on, looks_ends}
use Rattle.gwalk.proofs.Walking.{underway, next, goes, lent_parents}
use Rattle.gwalk.proofs.common.Goals.reached_by.Goals as goal

pub returns-then-contains : goal.returns-then-contains
returns-then-contains g c =
    λ ids are.
    let known = ap (λ l. is_in l c.args.start.now) (sym c.deref.ensures.value) ∙ sym c.contains.ensures.value in
    let among = contains_from_in c.args.self.now.absent.items c.args.start.now (known ∙ c.if-contains.true) in
    (λ t. any_of (λ x. Reaches c.args.graph.now.entries c.args.start.now x) ids c.args.start.now ((are.others c.args.start.now).0 among).0 here, λ any. refl)

pub meet-requires-clause-has : goal.meet-requires-clause-has
meet-requires-clause-has g c = ([], c.in_ok-walk.ensures.met [])

pub loop-at-init : goal.loop-at-init
loop-at-init g c =
    let known = ap (λ l. is_in l c.args.start.now) (sym c.deref.ensures.value) ∙ sym c.contains.ensures.value in
    let under = underway c.args.graph.now.entries (c.args.start.now ∷ []) c.meet.new.self.marks.items c.meet.new.self.met.items c.meet.new.self.missing c.meet.new.self.parent_count (c.in_ok-meet.ensures [] (c.in_ok-walk.ensures.met [])) in
    ([], with_new [] (c.args.start.now ∷ []), looks c.args.graph.now.entries c.args.start.now c.args.self.now.marks.items c.args.self.now.absent.items c.meet.new.self.marks.items c.meet.new.self.met.items c.meet.new.self.missing c.meet.new.self.parent_count under (absent_from_in c.args.self.now.absent.items c.args.start.now (known ∙ c.if-contains.false)))

pub returns-then-index : goal.returns-then-index
returns-then-index g c =
    λ ids are.
    let now = c.loop-at.invariant in
    let n = next c.args.graph.now.entries (c.args.start.now ∷ []) now.0 now.1 c.loop-at.walk.marks.items c.loop-at.walk.met.items c.loop-at.walk.missing c.loop-at.walk.parent_count c.loop-at.at now.2.underway c.index-position.result.now (omega arith) c.index-position.ensures in
    let inside = position_inside c.args.graph.now.entries n.id c.index-position.result.now n.position in
    let long = are.long in
    let read = sym (get_or_read c.args.self.now.marks.items c.index-position.result.now c.index.result.now (omega (arith, inside, long)) c.index.ensures false) ∙ c.if-index.true in
    (λ t. found c.args.graph.now.entries c.args.start.now c.args.self.now.marks.items c.args.self.now.absent.items now.0 now.1 c.loop-at.walk.marks.items c.loop-at.walk.met.items c.loop-at.walk.missing c.loop-at.walk.parent_count c.loop-at.at now.2 c.index-position.result.now n ids are read, λ any. refl)

pub returns-then-has_one : goal.returns-then-has_one
returns-then-has_one g c =
    λ ids are.
    let now = c.loop-at.invariant in
    let n = next c.args.graph.now.entries (c.args.start.now ∷ []) now.0 now.1 c.loop-at.walk.marks.items c.loop-at.walk.met.items c.loop-at.walk.missing c.loop-at.walk.parent_count c.loop-at.at now.2.underway c.index-position.result.now (omega arith) c.index-position.ensures in
    let lent = lent_parents c.args.graph.now.entries n.id c.index-position.result.now c.parents-parents.result.now n.position c.parents-parents.ensures in
    let hit = rw c.as_slice.ensures.value at (c.has_one.ensures.0 c.if-has_one.true) in
    (λ t. found_absent c.args.graph.now.entries c.args.start.now c.args.self.now.marks.items c.args.self.now.absent.items now.0 now.1 c.loop-at.walk.marks.items c.loop-at.walk.met.items c.loop-at.walk.missing c.loop-at.walk.parent_count c.loop-at.at now.2 c.index-position.result.now n ids c.parents-parents.result.now are lent hit, λ any. refl)

pub loop-at-preserved : goal.loop-at-preserved
loop-at-preserved g c =
    let now = c.loop-at.invariant in
    let n = next c.args.graph.now.entries (c.args.start.now ∷ []) now.0 now.1 c.loop-at.walk.marks.items c.loop-at.walk.met.items c.loop-at.walk.missing c.loop-at.walk.parent_count c.loop-at.at now.2.underway c.index-position.result.now (omega arith) c.index-position.ensures in
    let inside = position_inside c.args.graph.now.entries n.id c.index-position.result.now n.position in
    let long = c.requires.1.long in
    let read = sym (get_or_read c.args.self.now.marks.items c.index-position.result.now c.index.result.now (omega (arith, inside, long)) c.index.ensures false) ∙ c.if-index.false in
    let lent = lent_parents c.args.graph.now.entries n.id c.index-position.result.now c.parents-parents.result.now n.position c.parents-parents.ensures in
    let has = rw c.as_slice.ensures.value at c.has_one.ensures in
    let under = goes c.args.graph.now.entries (c.args.start.now ∷ []) now.0 now.1 c.loop-at.walk.marks.items c.loop-at.walk.met.items c.loop-at.walk.missing c.loop-at.walk.parent_count c.loop-at.at now.2.underway c.index-position.result.now n c.parents-parents.result.now lent c.meet_all.new.self.marks.items c.meet_all.new.self.met.items c.meet_all.new.self.missing c.meet_all.new.self.parent_count (c.in_ok-meet_all.ensures (now.0 ++ now.1) (now.2.underway).has_met) in
    (now.0 ++ (n.mid ++ n.id ∷ []), n.rest ++ new_ids (now.0 ++ now.1) c.parents-parents.result.now, looks_on c.args.graph.now.entries c.args.start.now c.args.self.now.marks.items c.args.self.now.absent.items now.0 now.1 c.loop-at.walk.marks.items c.loop-at.walk.met.items c.loop-at.walk.missing c.loop-at.walk.parent_count c.loop-at.at now.2 c.index-position.result.now n c.parents-parents.result.now read (λ any. false≢true (sym c.if-has_one.false ∙ has.1 any)) c.meet_all.new.self.marks.items c.meet_all.new.self.met.items c.meet_all.new.self.missing c.meet_all.new.self.parent_count under)

pub returns : goal.returns
returns g c =
    λ ids are.
    let now = c.loop-at.invariant in
    (λ t. absurd (false≢true t), λ any. absurd (looks_ends c.args.graph.now.entries c.args.start.now c.args.self.now.marks.items c.args.self.now.absent.items now.0 now.1 c.loop-at.walk.marks.items c.loop-at.walk.met.items c.loop-at.walk.missing c.loop-at.walk.parent_count c.loop-at.at now.2 (omega arith) ids are any))
