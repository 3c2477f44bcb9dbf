use Rattle.gitwalk.proofs.WalkLemmas.{keeps_on, parents_of, received_on}
use Rattle.gitwalk.proofs.walk.Walk.leave_out_below_commits.Goals as goal

pub loop-entry-preserved : goal.loop-entry-preserved
loop-entry-preserved g c =
    let entries = c.args.entries.now in let k = c.loop-entry.entry-index in let entry = c.entry-item.result in
    let old = c.loop-entry.self in let new = c.leave_out_below.new.self in let said = c.in_ok-leave_out_below.ensures in let inv = c.loop-entry.invariant in (
      received_on c.args.self.now old new inv.0 said.received,
      λ empty. said.empty (inv.1 empty),
      keeps_on c.args.self.now.fates old.fates new.fates inv.2 said.keeps,
      λ way. said.open entries (parents_of entries k entry _ c.loop-entry-test.true c.entry-item.is c.as_slice.ensures) (inv.3 way),
    )
