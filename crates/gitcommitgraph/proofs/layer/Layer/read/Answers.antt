use Rattle.std.proofs.Common.{subst}
use Rattle.std.proofs.lemmas.Result.{err_from_is_err_and}
use Rattle.gitcommitgraph.specs.Faults.{IsRefused}
use Rattle.gitcommitgraph.specs.steps.Layers.{AreTested, IsCut}
use Rattle.gitcommitgraph.proofs.TextLemmas.{file_is, text_is}
use Rattle.gitcommitgraph.proofs.layer.Layer.read.Goals as goal

pub invariant_of-result : goal.invariant_of-result
invariant_of-result g c =
    let places = c.in_ok-places.places in
    let cut = subst (λ b. IsCut b places) c.as_slice.ensures.value c.in_ok-places.ensures in
    let tested = subst (λ b. AreTested b places) c.as_slice-2.ensures.value c.in_ok-test_tables.ensures in
    file_is c.args.bytes.items places cut tested.ascending tested.fan_out tested.ended

pub returns : goal.returns
returns g c =
    let places = c.in_ok-places.places in
    let cut = subst (λ b. IsCut b places) c.as_slice.ensures.value c.in_ok-places.ensures in
    let tested = subst (λ b. AreTested b places) c.as_slice-2.ensures.value c.in_ok-test_tables.ensures in
    text_is c.args.bytes.items places cut tested.ascending tested.fan_out tested.ended

pub returns-in_err-places : goal.returns-in_err-places
returns-in_err-places g c =
    let p = err_from_is_err_and c.from_residual.result c.from_residual.ensures.1 in
    rw (p.1, p.2) (λ old. subst (λ b. IsRefused old b c.in_err-places.field-0.0) c.as_slice.ensures.value (c.in_err-places.ensures old))

pub returns-in_err-test_tables : goal.returns-in_err-test_tables
returns-in_err-test_tables g c =
    let p = err_from_is_err_and c.from_residual-in_err-test_tables.result c.from_residual-in_err-test_tables.ensures.1 in
    rw (p.1, p.2) (λ old. subst (λ b. IsRefused old b c.in_err-test_tables.field-0.0) c.as_slice-2.ensures.value (c.in_err-test_tables.ensures old))
