use Rattle.std.proofs.Common.{◌≤◌, take, length, subst, sym, arith}
use Rattle.std.proofs.lemmas.List.{take_all}
use Rattle.std.proofs.lemmas.List.Elements.{All-get_or, All-more}
use Rattle.gitwalk.specs.Gathering.{IsDecided, IsParent}
use Rattle.gitwalk.proofs.WalkLemmas.{all_decided_more, keeps_on, parent_alone, received_on, still_alone, trees_none}
use Rattle.gitwalk.proofs.walk.Walk.leave_out_ids.Goals as goal

pub loop-id-preserved : goal.loop-id-preserved
loop-id-preserved g c =
    let ids = c.args.parents.now in let k = c.loop-id.id-index in
    let old = c.loop-id.self in let new = c.settle.new.self in let said = c.in_ok-_found.ensures in let inv = c.loop-id.invariant in
    let one = parent_alone g.S.WalkedStore.has g.S.WalkedStore.located old new c.id-item.result c.in_ok-_found._found said.received said.trees said.settles in (
      received_on c.args.self.now old new inv.0 said.received,
      λ empty. trees_none old new (inv.1 empty) said.trees,
      keeps_on c.args.self.now.fates old.fates new.fates inv.2 one.0,
      λ entries all way. one.1 entries (subst (IsParent entries) (sym c.id-item.is) (All-get_or (IsParent entries) ids k _ c.loop-id-test.true all)) (inv.3 entries all way),
      λ alone. All-more (IsDecided new.fates) ids k _ c.loop-id-test.true (all_decided_more old.fates new.fates one.0 (take k ids) (inv.4 alone))
          (subst (IsDecided new.fates) c.id-item.is (one.2 (still_alone c.args.self.now old alone inv.0))),
    )

pub returns-clause-parents : goal.returns-clause-parents
returns-clause-parents g c alone =
    let ids = c.args.parents.now in
    let past : length ids ≤ c.loop-id.id-index = omega (arith, c.loop-id-test.false) in
    rw (take_all c.loop-id.id-index ids past) at c.loop-id.invariant.4 alone
