use Rattle.std.proofs.Common.{◌∙◌, Some, ap, sym}
use Rattle.gevents.proofs.Ending.{handed_out}
use Rattle.gevents.proofs.event_loop.EventLoop.part_with.Goals as goal

pub returns-in-Some-Talks : goal.returns-in-Some-Talks
returns-in-Some-Talks g c =
    let found = c.in-Some-Talks in
    handed_out _ found.peer c.args.end c.end-ended.result.0 (sym c.try_remove.ensures.value ∙ (found.is ∙ ap Some found.field-0-is))
    c.end-ended.ensures
