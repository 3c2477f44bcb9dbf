use Rattle.gitwalk.proofs.WalkLemmas.{keeps_on, still_alone}
use Rattle.gitwalk.proofs.walk.Walk.leave_out_parents.Goals as goal

pub returns-clause-empty : goal.returns-clause-empty
returns-clause-empty g c empty = c.in_ok-leave_out_targets.ensures.empty (c.in_ok-leave_out_below_commits.ensures.empty empty)

pub returns-clause-keeps : goal.returns-clause-keeps
returns-clause-keeps g c =
    keeps_on c.args.self.now.fates c.leave_out_below_commits.new.self.fates c.leave_out_targets.new.self.fates
    c.in_ok-leave_out_below_commits.ensures.keeps c.in_ok-leave_out_targets.ensures.keeps

pub returns-clause-open : goal.returns-clause-open
returns-clause-open g c way = c.in_ok-leave_out_targets.ensures.open (c.in_ok-leave_out_below_commits.ensures.open way)

pub returns-clause-parents : goal.returns-clause-parents
returns-clause-parents g c alone =
    c.in_ok-leave_out_targets.ensures.parents (still_alone c.args.self.now c.leave_out_below_commits.new.self alone c.in_ok-leave_out_below_commits.ensures.received)
