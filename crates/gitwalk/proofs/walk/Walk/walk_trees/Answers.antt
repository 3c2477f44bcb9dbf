use Rattle.gitwalk.specs.Entries.{ids_of}
use Rattle.gitwalk.proofs.WalkLemmas.{keeps_on, keeps_same, none_taken, received_on, stays_open, tree_step}
use Rattle.gitwalk.proofs.LookupLemmas.{look_stays, look_step}
use Rattle.gitwalk.proofs.walk.Walk.walk_trees.Goals as goal

pub returns-in_default-clause-empty : goal.returns-in_default-clause-empty
returns-in_default-clause-empty g c = c.take_tree.ensures.empty c.in_default.is

pub returns-in_default-clause-open : goal.returns-in_default-clause-open
returns-in_default-clause-open g c entries way =
    let old = c.loop.self in let new = c.take_tree.new.self in let took = c.take_tree.ensures in
    let same = none_taken old new c.take_tree.result c.in_default.is took.trees in
    stays_open g.S.WalkedStore.has entries (ids_of entries) old new took.received same took.fates (c.loop.invariant.2 entries way)

pub returns-in_default-clause-looks : goal.returns-in_default-clause-looks
returns-in_default-clause-looks g c way =
    let old = c.loop.self in let new = c.take_tree.new.self in let took = c.take_tree.ensures in
    let same = none_taken old new c.take_tree.result c.in_default.is took.trees in
    look_stays g.S.WalkedStore.has g.S.WalkedStore.located old new took.received same took.fates (c.loop.invariant.3 way)

pub loop-preserved : goal.loop-preserved
loop-preserved g c =
    let old = c.loop.self in let mid = c.take_tree.new.self in let new = c.walk_tree.new.self in
    let took = c.in-Some.ensures in let walk = c.in_ok-walk_tree.ensures in let inv = c.loop.invariant in (
      received_on c.args.self.now old new inv.0 (received_on old mid new took.received walk.2.notes.received),
      keeps_on c.args.self.now.fates old.fates new.fates inv.1
          (keeps_on old.fates mid.fates new.fates (keeps_same old.fates mid.fates took.fates) walk.2.notes.keeps),
      λ entries way. tree_step g.S.WalkedStore.has g.S.WalkedStore.located entries old mid new c.in-Some.tree walk.0 took.received took.fates took.trees walk.1 walk.2
          (inv.2 entries way),
      λ way. look_step g.S.WalkedStore.has g.S.WalkedStore.located old mid new c.in-Some.tree walk.0 took.received took.fates took.trees walk.1 walk.2
          (inv.3 way),
    )
