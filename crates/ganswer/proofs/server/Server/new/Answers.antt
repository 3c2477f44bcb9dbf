use Rattle.std.proofs.Common.{subst, rules}
use Rattle.grefs.specs.RefLists.{RefList}
use Rattle.gdag.specs.Reach.{IsClosed}
use Rattle.ganswer.specs.LsAnswers.{KnowsPeels}
use Rattle.ganswer.specs.Servers.{HoldsRefs}
use Rattle.ganswer.specs.steps.Answers.{DanglesAt}
use Rattle.ganswer.proofs.ServerLemmas.{named_dangling}
use Rattle.ganswer.proofs.server.Server.new.Goals as goal

pub with_refs-requires-clause-held : goal.with_refs-requires-clause-held
with_refs-requires-clause-held g c =
    subst (HoldsRefs c.args.graph.entries) c.as_slice.ensures.refs c.in-Ok.ensures.held

pub with_refs-requires-clause-peels : goal.with_refs-requires-clause-peels
with_refs-requires-clause-peels g c =
    subst (λ (refs : RefList). KnowsPeels c.args.graph.entries refs c.in-Ok.peels.items) c.as_slice.ensures.refs
    c.in-Ok.ensures.peels

pub returns-in-Err : goal.returns-in-Err
returns-in-Err g c =
    let entries = c.args.graph.entries in
    let closed : IsClosed entries = search rules in (
      closed,
      named_dangling entries c.args.refs c.in-Err.place c.into_name.result
          (subst (λ (refs : RefList). DanglesAt entries refs c.in-Err.place) c.as_slice.ensures.refs c.in-Err.ensures.held)
          c.into_name.ensures,
    )
