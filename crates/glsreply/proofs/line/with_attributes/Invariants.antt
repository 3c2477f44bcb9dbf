-- Adding the remaining attributes to the line so far has the same result as adding all attributes to the line without
-- attributes. The rest of the text becomes shorter.
use Rattle.std.proofs.Common.{◌≡◌, None, Ok}
use Rattle.glsreply.specs.RefTexts.{with_attributes}
use Rattle.glsreply.specs.steps.LineViews.{line_parts, parts_left}
use Rattle.glsreply.proofs.LineLemmas.{length_left}
use Rattle.glsreply.proofs.line.with_attributes.Given as goal

abbrev pub invariant-loop-rest : goal.invariant-loop-rest
invariant-loop-rest l =
    with_attributes l.format (Ok (line_parts l.id l.name l.symref l.peeled)) (parts_left l.rest)
    ≡ with_attributes l.format (Ok (line_parts l.id l.name None None)) (parts_left l.attributes)

abbrev pub decreases-loop-rest : goal.decreases-loop-rest
decreases-loop-rest l = length_left l.rest
