use Rattle.gcomplete.proofs.Kept.{all_kept_still}
use Rattle.gcomplete.proofs.judging.judge.Goals as goal

pub returns-in-Ok : goal.returns-in-Ok
returns-in-Ok g c =
    all_kept_still c.read_tips.new.batch.types c.add_all.new.self c.in-Ok.ensures.holds c.args.tips.now c.in_ok-read_tips.ensures
