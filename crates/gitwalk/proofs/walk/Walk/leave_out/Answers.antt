use Rattle.std.proofs.Common.{◌≤◌, take, length, subst, sym, arith}
use Rattle.std.proofs.lemmas.List.{take_all}
use Rattle.std.proofs.lemmas.List.Elements.{All-get_or, All-more}
use Rattle.gitwalk.specs.Gathering.{IsDecided, IsParent}
use Rattle.gitwalk.proofs.WalkLemmas.{all_decided_more, keeps_on, received_on, still_alone}
use Rattle.gitwalk.proofs.walk.Walk.leave_out.Goals as goal

pub loop-id-preserved : goal.loop-id-preserved
loop-id-preserved g c =
    let ids = c.args.parents.now in let k = c.loop-id.id-index in
    let old = c.loop-id.self in let new = c.leave_out_one.new.self in let said = c.in_ok-leave_out_one.ensures in let inv = c.loop-id.invariant in (
      received_on c.args.self.now old new inv.0 said.received,
      λ empty. said.empty (inv.1 empty),
      keeps_on c.args.self.now.fates old.fates new.fates inv.2 said.keeps,
      λ entries all way. said.open entries (subst (IsParent entries) (sym c.id-item.is) (All-get_or (IsParent entries) ids k _ c.loop-id-test.true all)) (inv.3 entries all way),
      λ alone. All-more (IsDecided new.fates) ids k _ c.loop-id-test.true (all_decided_more old.fates new.fates said.keeps (take k ids) (inv.4 alone))
          (subst (IsDecided new.fates) c.id-item.is (said.parent (still_alone c.args.self.now old alone inv.0))),
    )

pub returns-clause-parents : goal.returns-clause-parents
returns-clause-parents g c alone =
    let ids = c.args.parents.now in
    let past : length ids ≤ c.loop-id.id-index = omega (arith, c.loop-id-test.false) in
    rw (take_all c.loop-id.id-index ids past) at c.loop-id.invariant.4 alone
