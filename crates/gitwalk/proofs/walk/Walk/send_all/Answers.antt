use Rattle.std.proofs.Common.{◌≤◌, Contains, take, length, refl, subst, sym, arith}
use Rattle.std.proofs.lemmas.List.{take_all}
use Rattle.std.proofs.lemmas.List.Elements.{All-more, All-nil}
use Rattle.gitwalk.specs.steps.Walking.{IsOnlyListed, IsSentEntry}
use Rattle.gitwalk.proofs.WalkLemmas.{entries_sent_more, nothing_listed, one_listed, received_on, still_alone, trees_on}
use Rattle.gitwalk.proofs.walk.Walk.send_all.Goals as goal

pub loop-entry-init : goal.loop-entry-init
loop-entry-init g c = (
  refl,
  refl,
  λ alone empty. (subst (IsOnlyListed c.args.entries.now) (sym empty) (nothing_listed c.args.entries.now), All-nil (IsSentEntry c.args.self.now.fates)),
)

pub loop-entry-preserved : goal.loop-entry-preserved
loop-entry-preserved g c =
    let entries = c.args.entries.now in let k = c.loop-entry.entry-index in let entry = c.entry-item.result in
    let old = c.loop-entry.self in let new = c.settle.new.self in let said = c.in_ok-_found.ensures in let inv = c.loop-entry.invariant in (
      received_on c.args.self.now old new inv.0 said.received,
      trees_on c.args.self.now old new inv.1 said.trees,
      λ alone empty.
          let before = inv.2 alone empty in
          let here : Contains entries entry = (k, c.loop-entry-test.true, sym c.entry-item.is) in
          let one = one_listed g.S.WalkedStore.located entries old new entry _ c.in_ok-_found._found (still_alone c.args.self.now old alone inv.0) refl here said.settles before.0 in (
            one.0,
            All-more (IsSentEntry new.fates) entries k _ c.loop-entry-test.true (entries_sent_more old.fates new.fates one.1 (take k entries) before.1)
                (subst (IsSentEntry new.fates) c.entry-item.is one.2),
          ),
    )

pub returns-clause-each : goal.returns-clause-each
returns-clause-each g c alone empty =
    let entries = c.args.entries.now in
    let past : length entries ≤ c.loop-entry.entry-index = omega (arith, c.loop-entry-test.false) in
    rw (take_all c.loop-entry.entry-index entries past) at (c.loop-entry.invariant.2 alone empty).1
