use Rattle.std.proofs.Common.{refl, subst}
use Rattle.gitwalk.specs.Entries.{ids_of}
use Rattle.gitwalk.specs.declared.fates.Fate.TheVariants.{NotSent}
use Rattle.gitwalk.specs.steps.Walking.{Settles}
use Rattle.gitwalk.proofs.WalkLemmas.{covered_decided, decided_more, fate_here, keeps_on, keeps_same, parent_left, puts_keeps, stays_open}
use Rattle.gitwalk.proofs.walk.Walk.leave_out_one.Goals as goal

pub returns-in_default-clause-keeps : goal.returns-in_default-clause-keeps
returns-in_default-clause-keeps g c =
    let old = c.args.self.now in let new = c.settle.new.self in let said = c.in_ok-_found.ensures in
    let settles = subst (λ f. Settles g.S.WalkedStore.located old c.args.id.now NotSent f new) c.in_default.is said.settles in
    keeps_same old.fates new.fates settles.1

pub returns-in_default-clause-open : goal.returns-in_default-clause-open
returns-in_default-clause-open g c entries parent way =
    let old = c.args.self.now in let new = c.settle.new.self in let said = c.in_ok-_found.ensures in
    let settles = subst (λ f. Settles g.S.WalkedStore.located old c.args.id.now NotSent f new) c.in_default.is said.settles in
    stays_open g.S.WalkedStore.has entries (ids_of entries) old new said.received said.trees settles.1 way

pub returns-in_default-clause-parent : goal.returns-in_default-clause-parent
returns-in_default-clause-parent g c alone =
    let old = c.args.self.now in let new = c.settle.new.self in let said = c.in_ok-_found.ensures in
    let settles = subst (λ f. Settles g.S.WalkedStore.located old c.args.id.now NotSent f new) c.in_default.is said.settles in
    decided_more old.fates new.fates (keeps_same old.fates new.fates settles.1) c.args.id.now (covered_decided old c.args.id.now alone settles.0)

pub returns-clause-keeps : goal.returns-clause-keeps
returns-clause-keeps g c =
    let old = c.args.self.now in let mid = c.settle.new.self in let said = c.in_ok-_found.ensures in
    let settles = subst (λ f. Settles g.S.WalkedStore.located old c.args.id.now NotSent f mid) c.in-Some.is said.settles in
    keeps_on old.fates mid.fates c.walk_from.new.self.fates (puts_keeps old.fates mid.fates c.args.id.now _ settles.undecided settles.puts) c.in_ok-walk_from.ensures.keeps

pub returns-clause-open : goal.returns-clause-open
returns-clause-open g c entries parent way =
    let old = c.args.self.now in let mid = c.settle.new.self in let said = c.in_ok-_found.ensures in
    let settles = subst (λ f. Settles g.S.WalkedStore.located old c.args.id.now NotSent f mid) c.in-Some.is said.settles in
    c.in_ok-walk_from.ensures.open entries
    (record { own = NotSent; decided = fate_here old.fates mid.fates c.args.id.now _ settles.puts; same = refl })
    (parent_left g.S.WalkedStore.has g.S.WalkedStore.located entries (ids_of entries) old mid c.args.id.now _ said.received said.trees parent refl settles way)

pub returns-clause-parent : goal.returns-clause-parent
returns-clause-parent g c alone =
    let old = c.args.self.now in let mid = c.settle.new.self in let said = c.in_ok-_found.ensures in
    let settles = subst (λ f. Settles g.S.WalkedStore.located old c.args.id.now NotSent f mid) c.in-Some.is said.settles in
    decided_more mid.fates c.walk_from.new.self.fates c.in_ok-walk_from.ensures.keeps c.args.id.now
    (NotSent, fate_here old.fates mid.fates c.args.id.now _ settles.puts)
