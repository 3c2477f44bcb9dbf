use Rattle.std.proofs.Common.{arith, refl, ap, drop, length, ◌++◌, take, ◌∙◌, ◌≡◌}
use Rattle.std.proofs.lemmas.List.{length-take-le}
use Rattle.gitrepository.proofs.PartLemmas.{front, going_given}
use Rattle.gitrepository.proofs.outgoing.Outgoing.give.Goals as goal

pub returns-clause-given : goal.returns-clause-given
returns-clause-given g c = λ total before is.
    let count = c.min-count.result in
    let long : length c.copy_from_slice.new.self ≡ count = c.copy_from_slice.ensures.len ∙ length-take-le count c.args.out.now (omega (arith, c.min-count.ensures)) in
    going_given c.args.self.now _ count (take count (c.copy_from_slice.new.self ++ drop count c.args.out.now)) refl refl refl refl refl refl refl
    (
    front count c.copy_from_slice.new.self c.in-Some.rest.now (drop count c.args.out.now) long c.copy_from_slice.ensures.after
    ∙ ap (take count) c.in-Some.ensures.cases.2
    ∙ ap (λ l. take count (drop c.args.self.now.given l)) c.as_slice.ensures.value
    ) total before is
