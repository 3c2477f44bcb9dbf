use Rattle.std.proofs.Common.{◌≤◌, take, length, refl, subst, sym, arith}
use Rattle.std.proofs.lemmas.List.{take_all}
use Rattle.std.proofs.lemmas.List.Elements.{All-get_or, All-more}
use Rattle.gitwalk.specs.steps.Walking.{HasIdIn, IsSentEntry, IsWalkedEntry}
use Rattle.gitwalk.proofs.WalkLemmas.{entries_walked_more, fate_as_sent, keeps_on, received_on, sent_more, still_alone}
use Rattle.gitwalk.proofs.walk.Walk.send_trees.Goals as goal

pub loop-entry-preserved : goal.loop-entry-preserved
loop-entry-preserved g c =
    let entries = c.args.entries.now in let k = c.loop-entry.entry-index in let entry = c.entry-item.result in let has = g.S.WalkedStore.has in
    let start = c.args.self.now in let old = c.loop-entry.self in let new = c.walk_from.new.self in let said = c.in_ok-walk_from.ensures in let inv = c.loop-entry.invariant in (
      received_on c.args.self.now old new inv.0 said.received,
      λ empty. said.empty,
      keeps_on start.fates old.fates new.fates inv.2 said.keeps,
      λ all way. said.open entries
          (fate_as_sent old.fates entry.id _
          (sent_more start.fates old.fates inv.2 entry.id (subst (IsSentEntry start.fates) (sym c.entry-item.is) (All-get_or (IsSentEntry start.fates) entries k _ c.loop-entry-test.true all))) refl)
          (inv.3 all way),
      λ alone listed all.
          let W = IsWalkedEntry has listed new.fates in
          let among = subst (HasIdIn listed) (sym c.entry-item.is) (All-get_or (HasIdIn listed) entries k _ c.loop-entry-test.true all) in
          All-more W entries k _ c.loop-entry-test.true
          (entries_walked_more has listed old.fates new.fates said.keeps (take k entries) (inv.4 alone listed all))
          (subst W c.entry-item.is (said.walked (still_alone start old alone inv.0) listed among)),
    )

pub returns-clause-walked : goal.returns-clause-walked
returns-clause-walked g c alone listed all =
    let entries = c.args.entries.now in
    let past : length entries ≤ c.loop-entry.entry-index = omega (arith, c.loop-entry-test.false) in
    rw (take_all c.loop-entry.entry-index entries past) at c.loop-entry.invariant.4 alone listed all
