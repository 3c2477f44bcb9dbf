use Rattle.std.proofs.Common.{subst}
use Rattle.gcomplete.specs.Adding.{IsFit, IsJoined}
use Rattle.gcomplete.specs.Batches.{HasJudged}
use Rattle.gcomplete.specs.Stores.{Types}
use Rattle.gcomplete.proofs.Closing.{has_joined, holds_joined, judged_joined, keeps_joined}
use Rattle.gcomplete.proofs.store.ClosedStore.add_all.Goals as goal

pub returns-clause-adds : goal.returns-clause-adds
returns-clause-adds g c =
    let new = c.join.new.self in
    let F : Types → Type 0 = λ s. IsFit s c.args.batch in
    let J : Types → Type 0 = λ s. IsJoined s c.into_types.result new in
    let K : Types → Type 0 = λ b. IsJoined c.args.self.now b new in
    (subst F c.self.view_is c.in_default.ensures, subst K c.into_types.ensures (subst J c.self.view_is c.in_default-join.ensures))

pub invariant_of-self-2 : goal.invariant_of-self-2
invariant_of-self-2 g c =
    let adds = returns-clause-adds g c in
    let H : Types → Type 0 = HasJudged in
    has_joined c.args.self.now c.args.batch c.join.new.self (subst H c.self.view_is c.self.invariant) c.laws.ensures adds.0 adds.1

pub returns-clause-closed : goal.returns-clause-closed
returns-clause-closed g c = invariant_of-self-2 g c

pub returns-clause-joins : goal.returns-clause-joins
returns-clause-joins g c held objects are is =
    let adds = returns-clause-adds g c in
    judged_joined c.args.self.now c.args.batch held objects are is adds.0 c.join.new.self adds.1

pub returns-clause-keeps : goal.returns-clause-keeps
returns-clause-keeps g c =
    let adds = returns-clause-adds g c in
    keeps_joined c.args.self.now c.args.batch c.join.new.self adds.0 adds.1

pub returns-clause-holds : goal.returns-clause-holds
returns-clause-holds g c = holds_joined c.args.self.now c.args.batch.types c.join.new.self (returns-clause-adds g c).1
