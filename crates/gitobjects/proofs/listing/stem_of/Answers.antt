use Rattle.std.proofs.Common.{◌≡◌, ◌≢◌, nat_eq, ◌++◌, All, ap, sym, subst, ◌∙◌}
use Rattle.std.specs.Prelude.{codes}
use Rattle.std.specs.List.{IsAnyAnswer}
use Rattle.std.specs.Str.{IsUtf8}
use Rattle.gitobjects.proofs.ListingLemmas.{without_suffix, no_suffix, is_plain, is_not_plain, one_stem}
use Rattle.gitobjects.proofs.listing.stem_of.Goals as goal

pub returns-in-Ok : goal.returns-in-Ok
returns-in-Ok c =
    let cases = c.in-Some.ensures.cases in
    let same = sym c.in-Ok.ensures.cases.0 in
    let none = subst (IsAnyAnswer (λ y b. nat_eq y 47 ≡ b) c.in-Some.stem.now) c.if-contains.false c.contains.ensures.cases in
    record {
      is = without_suffix c.args.name.now (codes ".idx") c.in-Some.stem.now cases.0 cases.1 ∙ ap (λ l. l ++ codes ".idx") same;
      plain = subst (All (λ b. b ≢ 47)) same (is_plain 47 c.in-Some.stem.now none);
      text = subst IsUtf8 same c.in-Ok.ensures.cases.1;
    }

pub returns-in-Err : goal.returns-in-Err
returns-in-Err c = λ stem index.
    let cases = c.in-Some.ensures.cases in
    let is = without_suffix c.args.name.now (codes ".idx") c.in-Some.stem.now cases.0 cases.1 in
    c.in-Err.ensures.cases.0 (subst IsUtf8 (one_stem c.args.name.now c.in-Some.stem.now stem is index) index.text)

pub returns-then-contains : goal.returns-then-contains
returns-then-contains c = λ stem index.
    let cases = c.in-Some.ensures.cases in
    let is = without_suffix c.args.name.now (codes ".idx") c.in-Some.stem.now cases.0 cases.1 in
    let found = subst (IsAnyAnswer (λ y b. nat_eq y 47 ≡ b) c.in-Some.stem.now) c.if-contains.true c.contains.ensures.cases in
    is_not_plain 47 c.in-Some.stem.now found (subst (All (λ b. b ≢ 47)) (one_stem c.args.name.now c.in-Some.stem.now stem is index) index.plain)

pub returns-in_default : goal.returns-in_default
returns-in_default c = no_suffix c.args.name.now c.in_default.ensures.cases
