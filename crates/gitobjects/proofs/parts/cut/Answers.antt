use Rattle.std.proofs.Common.{◌≢◌, arith, eq-eqb}
use Rattle.std.specs.Prelude.{slice_index}
use Rattle.std.proofs.lemmas.List.Elements.{All-from_get_or}
use Rattle.gitobjects.proofs.parts.cut.Goals as goal

pub returns-in-None-clause-parts : goal.returns-in-None-clause-parts
returns-in-None-clause-parts c =
    All-from_get_or (λ b. b ≢ c.args.byte) c.args.text.now 0
    (λ i inside is. c.in-None.ensures i (omega arith) inside (eq-eqb (slice_index c.args.text.now i) c.args.byte is))
