use Rattle.std.proofs.Common.{◌≡◌, All, ap, sym, subst, ◌∙◌}
use Rattle.std.specs.Map.{values_of}
use Rattle.std.proofs.lemmas.Result.{IfOk-weaker}
use Rattle.gname.specs.Ids.{IsIdOf}
use Rattle.gdag.specs.Levels.{distinct_of}
use Rattle.gsession.proofs.CommonLemmas.{tip_ids}
use Rattle.gsession.proofs.session.tips_of.Goals as goal

pub returns-clause-ids : goal.returns-clause-ids
returns-clause-ids g c =
    let repo = c.args.repo.now in
    let held = c.laws.ensures in
    let ids : c.as_slice.result.now ≡ values_of repo.refs =
    c.as_slice.ensures.value ∙ c.in_ok-ids.ensures ∙ ap values_of c.refs.ensures in
    let all : All (IsIdOf repo.graph.format) (distinct_of (values_of repo.refs)) =
    tip_ids c.distinct_are_once.ensures c.positions_are_nodes.ensures repo.graph (values_of repo.refs) held.graph
    held.whole.connected_refs in
    IfOk-weaker c.distinct_ids.result (λ tips. tips.items ≡ distinct_of c.as_slice.result.now)
    (λ tips. All (IsIdOf repo.graph.format) tips.items)
    (λ tips is. subst (All (IsIdOf repo.graph.format)) (sym (is ∙ ap distinct_of ids)) all) c.distinct_ids.ensures
