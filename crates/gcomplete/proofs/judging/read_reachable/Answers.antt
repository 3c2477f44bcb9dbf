use Rattle.std.proofs.lemmas.Result.{on_ok_weaker}
use Rattle.gcomplete.proofs.Kept.{keeps_more, kept_still}
use Rattle.gcomplete.proofs.judging.read_reachable.Goals as goal

pub returns-clause-kept : goal.returns-clause-kept
returns-clause-kept g c =
    let mid = c.read_one.new.batch.types in let last = c.read_links.new.batch.types in
    on_ok_weaker c.read_links.result (λ keeps. kept_still mid last keeps c.args.tip.now c.in_ok-read_one.ensures.kept) c.read_links.ensures

pub returns-clause-keeps : goal.returns-clause-keeps
returns-clause-keeps g c =
    let first = c.args.batch.now.types in let mid = c.read_one.new.batch.types in let last = c.read_links.new.batch.types in
    on_ok_weaker c.read_links.result (λ keeps. keeps_more first mid last c.in_ok-read_one.ensures.keeps keeps) c.read_links.ensures
