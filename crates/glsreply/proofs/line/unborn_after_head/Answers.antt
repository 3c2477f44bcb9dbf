use Rattle.std.proofs.Common.{◌∷◌, sym, ap, ◌∙◌}
use Rattle.glsreply.specs.steps.LineViews.{parts_left}
use Rattle.glsreply.specs.RefTexts.{unborn_after_head}
use Rattle.glsreply.proofs.LineLemmas.{two_parts}
use Rattle.glsreply.proofs.line.unborn_after_head.Goals as goal

pub returns-in_default-Some : goal.returns-in_default-Some
returns-in_default-Some c =
    let parts = ap parts_left c.in-Some.is ∙ c.cut.ensures.parts ∙ ap (λ rest. c.cut.result.0.now ∷ parts_left rest) c.in_default-Some.is-1 in
    two_parts c.cut.result.0.now c.in_default-Some._more.now ∙ ap unborn_after_head (sym parts)
