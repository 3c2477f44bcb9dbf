use Rattle.std.proofs.Common.{sym, ◌∙◌}
use Rattle.gwalk.specs.Marks.{stop_at}
use Rattle.gwalk.proofs.Stopping.{stop_length}
use Rattle.gwalk.proofs.Walking.{meets_nothing}
use Rattle.gwalk.proofs.walk.Walk.new.Goals as goal

pub returns-clause-met : goal.returns-clause-met
returns-clause-met g c =
    λ known.
    let marks = c.in_ok-marks.ensures.items_if_clones_equal (λ y h. h) in
    rw (marks, c.new.ensures.items) (meets_nothing (stop_at known c.args.graph.now.entries) _ (c.len.ensures.len ∙ sym (stop_length known c.args.graph.now.entries)))
