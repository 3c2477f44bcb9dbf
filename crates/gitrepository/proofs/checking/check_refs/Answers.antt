use Rattle.std.proofs.Common.{subst}
use Rattle.gcomplete.proofs.Kept.{keeps_more}
use Rattle.gitrepository.specs.Checking.{AreRefsKept}
use Rattle.gitrepository.proofs.CheckLemmas.{head_still, refs_still}
use Rattle.gitrepository.proofs.checking.check_refs.Goals as goal

pub returns-in-Ok : goal.returns-in-Ok
returns-in-Ok g c =
    let first = c.read_refs.new.batch.types in let second = c.read_head.new.batch.types in let last = c.add_all.new.self in
    let holds = c.in-Ok.ensures.holds in
    let kept = subst (AreRefsKept first) c.as_slice.ensures.refs c.in_ok-read_refs.ensures in
    record {
      types = last;
      judged = c.add_all.ensures.closed;
      refs_kept = refs_still first last (keeps_more first second last c.in_ok-read_head.ensures.keeps holds) c.args.refs.now kept;
      head_kept = head_still second last holds c.args.head.now c.in_ok-read_head.ensures.kept;
      refs_counted = c.len.ensures.count;
      nodes_counted = c.commits_and_tags.ensures;
      objects_counted = c.len-in-Ok.ensures;
    }
