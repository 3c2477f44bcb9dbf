use Rattle.std.proofs.Common.{◌++◌, ◌≡◌, List, ℕ, ap, ◌∙◌}
use Rattle.std.proofs.lemmas.List.{append_assoc, take-append-drop}
use Rattle.gzlib.proofs.adler.Adler32.update.Goals as goal

pub loop-part-preserved : goal.loop-part-preserved
loop-part-preserved c = λ m has.
    let inv = c.loop-part.invariant m has in
    let parts : c.in-Some.part.now ++ c.in-Some.after.now ≡ c.loop-part.rest.now =
    rw (c.in-Some.ensures.cases.1, c.in-Some.ensures.cases.2) (take-append-drop 5552 c.loop-part.rest.now) in (
      inv.0 ++ c.in-Some.part.now,
      c.update_part.ensures inv.0 inv.1,
      append_assoc inv.0 c.in-Some.part.now c.in-Some.after.now ∙ ap (λ (xs : List ℕ). inv.0 ++ xs) parts ∙ inv.2,
    )
