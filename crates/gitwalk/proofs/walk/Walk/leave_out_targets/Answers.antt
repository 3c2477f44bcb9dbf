use Rattle.std.proofs.Common.{◌≤◌, All, take, length, subst, arith}
use Rattle.std.proofs.lemmas.List.{take_all}
use Rattle.std.proofs.lemmas.List.Elements.{All-more}
use Rattle.gitwalk.specs.Gathering.{IsDecided}
use Rattle.gitwalk.specs.steps.Walking.{HasDecidedParents}
use Rattle.gitwalk.proofs.WalkLemmas.{keeps_on, parents_decided_more, parents_of, received_on, still_alone}
use Rattle.gitwalk.proofs.walk.Walk.leave_out_targets.Goals as goal

pub loop-entry-preserved : goal.loop-entry-preserved
loop-entry-preserved g c =
    let entries = c.args.entries.now in let k = c.loop-entry.entry-index in let entry = c.entry-item.result in
    let old = c.loop-entry.self in let new = c.leave_out_ids.new.self in let said = c.in_ok-leave_out_ids.ensures in let inv = c.loop-entry.invariant in
    let slice = c.as_slice.ensures in (
      received_on c.args.self.now old new inv.0 said.received,
      λ empty. said.empty (inv.1 empty),
      keeps_on c.args.self.now.fates old.fates new.fates inv.2 said.keeps,
      λ way. said.open entries (parents_of entries k entry _ c.loop-entry-test.true c.entry-item.is slice) (inv.3 way),
      λ alone. All-more (HasDecidedParents new.fates) entries k _ c.loop-entry-test.true (parents_decided_more old.fates new.fates said.keeps (take k entries) (inv.4 alone))
          (subst (HasDecidedParents new.fates) c.entry-item.is (subst (All (IsDecided new.fates)) slice (said.parents (still_alone c.args.self.now old alone inv.0)))),
    )

pub returns-clause-parents : goal.returns-clause-parents
returns-clause-parents g c alone =
    let entries = c.args.entries.now in
    let past : length entries ≤ c.loop-entry.entry-index = omega (arith, c.loop-entry-test.false) in
    rw (take_all c.loop-entry.entry-index entries past) at c.loop-entry.invariant.4 alone
