use Rattle.std.proofs.Common.{◌≡◌, ◌∷◌, [], ◌∙◌, ap}
use Rattle.std.specs.List.{slice_split}
use Rattle.std.specs.Option.{option_map_or}
use Rattle.ghello.specs.Hello.{is_nul}
use Rattle.ghello.proofs.HelloLemmas.{too_many_parts}
use Rattle.ghello.proofs.hello.hello_of.Goals as goal

pub returns-in-Some : goal.returns-in-Some
returns-in-Some c =
    let a : slice_split is_nul c.args.payload.now ≡ c.cut.result.0.now ∷ slice_split is_nul c.in_ok-rest.field-0.now = c.cut.ensures ∙ ap (λ r. c.cut.result.0.now ∷ option_map_or (λ rest. slice_split is_nul rest.now) r []) c.in_ok-rest.was in
    let b : slice_split is_nul c.in_ok-rest.field-0.now ≡ c.cut-2.result.0.now ∷ slice_split is_nul c.in_ok-rest-2.field-0.now = c.cut-2.ensures ∙ ap (λ r. c.cut-2.result.0.now ∷ option_map_or (λ rest. slice_split is_nul rest.now) r []) c.in_ok-rest-2.was in
    let d : slice_split is_nul c.in_ok-rest-2.field-0.now ≡ c.cut-3.result.0.now ∷ slice_split is_nul c.in_ok-rest-3.field-0.now = c.cut-3.ensures ∙ ap (λ r. c.cut-3.result.0.now ∷ option_map_or (λ rest. slice_split is_nul rest.now) r []) c.in_ok-rest-3.was in
    let e : slice_split is_nul c.in_ok-rest-3.field-0.now ≡ c.cut-4.result.0.now ∷ slice_split is_nul c.in_ok-rest-4.field-0.now = c.cut-4.ensures ∙ ap (λ r. c.cut-4.result.0.now ∷ option_map_or (λ rest. slice_split is_nul rest.now) r []) c.in_ok-rest-4.was in
    let f : slice_split is_nul c.in_ok-rest-4.field-0.now ≡ c.cut-5.result.0.now ∷ slice_split is_nul c.in-Some.field-0.now = c.cut-5.ensures ∙ ap (λ r. c.cut-5.result.0.now ∷ option_map_or (λ rest. slice_split is_nul rest.now) r []) c.in-Some.is in
    too_many_parts c.args.payload.now _ c.in_ok-rest.field-0.now _ c.in_ok-rest-2.field-0.now _ c.in_ok-rest-3.field-0.now _ c.in_ok-rest-4.field-0.now _ c.in-Some.field-0.now a b d e f
