use Rattle.std.proofs.Common.{sym, ap, ◌∙◌, arith}
use Rattle.glsreply.specs.RefTexts.{UnbornForm}
use Rattle.glsreply.specs.steps.LineViews.{target_read}
use Rattle.glsreply.proofs.RefTextLemmas.{unborn_refused}
use Rattle.glsreply.proofs.reader.LsReplyReader.take_text.Goals as goal

pub returns-in-Unborn-Err-clause-takes : goal.returns-in-Unborn-Err-clause-takes
returns-in-Unborn-Err-clause-takes g c =
    unborn_refused c.args.self.now.format c.args.self.now.count c.args.text.now c.in-Unborn-Err.why (omega (arith, c.if-self-gt0.false))
    (ap (λ target. UnbornForm (target_read target)) (sym c.in-Unborn-Err.field-0-is) ∙ c.in-Unborn-Err.ensures)
