use Rattle.std.proofs.Common.{◌+◌, ◌≤◌, ap, length, subst, sym}
use Rattle.ggrammar.specs.declared.limits.Limits.{Limits}
use Rattle.grequest.specs.Asked.{max_haves}
use Rattle.grequest.specs.Building.{FormattedFetch}
use Rattle.ggrammar.proofs.BuildingLemmas.{only_memory}
use Rattle.gsession.proofs.BuildLemmas.{fits, has_room}
use Rattle.gsession.proofs.requests.add_haves.Goals as goal

pub no_memory-requires : goal.no_memory-requires
no_memory-requires g c =
    let now = c.loop-id.request in
    let old = c.args.request.now in
    let ids = c.args.haves.now in
    let room = subst (λ (l : Limits). length old.asked.haves + length ids ≤ max_haves l)
    (sym (ap (λ (r : FormattedFetch). r.limits) c.loop-id.invariant)) c.requires.room in
    only_memory _ _ c.in-Err.fault.why
    (fits old.format now.format ids c.loop-id.id-index c.id-item.result c.requires.ids c.loop-id-test.true c.id-item.is
    (ap (λ (r : FormattedFetch). r.format) c.loop-id.invariant))
    (has_room old.asked.haves now.asked.haves ids c.loop-id.id-index (max_haves now.limits)
    (ap (λ (r : FormattedFetch). r.asked.haves) c.loop-id.invariant) c.loop-id-test.true room)
    c.in-Err.ensures.2
