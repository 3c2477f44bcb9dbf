use Rattle.std.proofs.Common.{List, ◌∷◌, [], ◌++◌, ap₂, sym, ◌∙◌}
use Rattle.grefs.specs.Refspecs.{Refspec}
use Rattle.gdag.proofs.Growing.{take_one}
use Rattle.gsession.proofs.session.copy_specs.Goals as goal

pub loop-spec-preserved : goal.loop-spec-preserved
loop-spec-preserved g c =
    c.in_ok-push-in-Ok.ensures.items
    ∙ ap₂ (λ (l : List Refspec) (s : Refspec). l ++ s ∷ []) c.loop-spec.invariant c.in-Ok.ensures
    ∙ sym (take_one c.args.specs.now c.loop-spec.spec-index c.spec-item.result c.loop-spec-test.true c.spec-item.is)
