use Rattle.std.proofs.Common.{List, ℕ, subst, ◌∙◌}
use Rattle.gcmd.specs.steps.Outputs.{SendsTo}
use Rattle.gcmd.proofs.print.FaultLine.print.Goals as goal

pub returns : goal.returns
returns g c =
    subst (λ (bytes : List ℕ). SendsTo g.E.Sink c.args.errors.now c.send.new.sink c.send.result bytes)
    (c.as_slice.ensures.value ∙ c.compose.ensures) c.send.ensures
