use Rattle.std.proofs.Common.{◌∙◌}
use Rattle.glsreply.specs.LentViews.{lent_view}
use Rattle.gserver.proofs.RefLemmas.{line_said}
use Rattle.gserver.proofs.ref_lines.say_line.Goals as goal

pub returns-in-Some : goal.returns-in-Some
returns-in-Some g c =
    rw c.in-Some.is (line_said (lent_view c.in-Some.line.now) c.as_bytes.result.now c.args.out.now c.put_text.new.self
    (c.as_bytes.ensures ∙ c.set.ensures.text) c.put_text.ensures)
