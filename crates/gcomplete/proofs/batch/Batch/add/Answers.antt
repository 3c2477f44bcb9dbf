use Rattle.std.proofs.Common.{◌≡◌, Some, sym, ap, rules, ◌∙◌}
use denote.Enum.Bare.{same_true}
use Rattle.gitobject.specs.contracts.types.ObjectType.{the_type}
use Rattle.gcomplete.specs.Batches.{Noted}
use Rattle.gcomplete.specs.Stores.{kind_at, object_of}
use Rattle.gcomplete.proofs.Batching.{again}
use Rattle.gcomplete.proofs.batch.Batch.add.Goals as goal

pub returns-in-Some-clause-holds : goal.returns-in-Some-clause-holds
returns-in-Some-clause-holds g c =
    let kinds : c.in-Some.kept ≡ c.args.kind = same_true the_type (search rules) _ _ (sym c.if-eq.ensures) in
    ap (λ (n : Noted). kind_at n.types c.args.id.now) (sym c.self.view_is) ∙ sym c.in-Some.ensures ∙ ap (λ k. Some k) kinds

pub returns-in-Some-clause-adds : goal.returns-in-Some-clause-adds
returns-in-Some-clause-adds g c =
    again c.args.self.now c.args.id.now (object_of c.args.kind c.args.body.now) (returns-in-Some-clause-holds g c)
