use Rattle.std.proofs.Common.{[], ap, ◌∙◌}
use Rattle.gdag.specs.Levels.{new_ids}
use Rattle.gwalk.specs.steps.Common.{ids_at}
use Rattle.gwalk.proofs.Looking.{ids_at_positions}
use Rattle.gwalk.proofs.common.common_ids.Goals as goal

pub ids_at-requires : goal.ids_at-requires
ids_at-requires g c = rw c.as_slice.ensures.value c.in_ok-walk.ensures.inside

pub returns-clause-answer : goal.returns-clause-answer
returns-clause-answer g c =
    let met = c.as_slice.ensures.value ∙ c.in_ok-walk.ensures.met_are in
    c.in_ok-ids_at.ensures ∙ ap (ids_at c.args.graph.now.entries) met ∙ ids_at_positions c.args.graph.now.entries (new_ids [] c.args.haves.now)
