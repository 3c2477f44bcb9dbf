use Rattle.std.proofs.Common.{◌∙◌}
use Rattle.gfetch.proofs.FetchLemmas.{is_fresh, same_start}
use Rattle.gfetch.proofs.fetching.begin_fetch.Goals as goal

pub returns-clause-begins : goal.returns-clause-begins
returns-clause-begins g c =
    let repo = c.args.repo.now in
    let plan = c.args.plan.now in
    let side = c.new-side in
    let same_repo = side.ensures.repo ∙ c.replace.ensures.value in
    record {
      fresh = is_fresh repo plan.specs.now plan.limit plan.ends plan.options _ side.result same_repo
          side.ensures.session c.in-Ok.ensures.begins c.in-Ok.ensures.few side.ensures.unborn side.ensures.fault;
      starts = same_start repo plan.specs.now plan.limit plan.ends plan.options _ side.result same_repo
          side.ensures.session c.in-Ok.ensures.begins;
    }
