use Rattle.std.proofs.Common.{◌≡◌, ◌≤◌, List, take, length, ap, subst, ◌∙◌, arith}
use Rattle.std.proofs.lemmas.List.{take_all}
use Rattle.std.proofs.lemmas.List.Elements.{All-more, All-nil}
use Rattle.gitpack.specs.declared.indexing.IndexedEntry.{IndexedEntry}
use Rattle.gitwalk.specs.StoredTrees.{LeadsToKnown}
use Rattle.gitwalk.proofs.LookupLemmas.{known_more, looks_first, trees_read}
use Rattle.gitwalk.proofs.prerequisites.check_trees.Goals as goal

pub loop-link-init : goal.loop-link-init
loop-link-init g c =
    let begun = c.beside-walk.ensures in let walk = c.beside-walk.result in (
      begun.received,
      begun.trees,
      looks_first g.S.WalkedStore.has g.S.WalkedStore.located walk begun.fates,
      All-nil (LeadsToKnown walk.fates c.args.received.now),
    )

pub loop-link-preserved : goal.loop-link-preserved
loop-link-preserved g c =
    let links = c.args.prerequisites.now in let k = c.loop-link.link-index in let link = c.link-item.result in let objects = c.args.received.now in
    let old = c.loop-link.walk in let new = c.send_link.new.self in let said = c.in_ok-send_link.ensures in let inv = c.loop-link.invariant in
    let same : new.received.now ≡ objects = ap (λ r. r.now) said.received ∙ inv.0 in (
      same,
      said.empty,
      said.looks inv.2,
      All-more (LeadsToKnown new.fates objects) links k _ c.loop-link-test.true (known_more old.fates new.fates said.keeps objects (take k links) inv.3)
          (subst (LeadsToKnown new.fates objects) c.link-item.is (subst (λ (os : List IndexedEntry). LeadsToKnown new.fates os link) same (said.leads inv.2))),
    )

pub returns : goal.returns
returns g c =
    let links = c.args.prerequisites.now in let walk = c.loop-link.walk in let inv = c.loop-link.invariant in
    let past : length links ≤ c.loop-link.link-index = omega (arith, c.loop-link-test.false) in
    trees_read g.S.WalkedStore.has g.S.WalkedStore.located walk c.args.received.now links inv.0 inv.1 inv.2 (rw (take_all c.loop-link.link-index links past) at inv.3)
