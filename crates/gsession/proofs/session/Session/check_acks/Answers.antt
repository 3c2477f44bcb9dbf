use Rattle.std.proofs.Common.{◌++◌, refl}
use Rattle.gdag.specs.Levels.{distinct_of}
use Rattle.gsession.proofs.ReplyLemmas.{are_commons}
use Rattle.gsession.proofs.SessionLemmas.{open_fetch}
use Rattle.gsession.proofs.session.Session.check_acks.Goals as goal

pub returns-in-Some-clause-checks : goal.returns-in-Some-clause-checks
returns-in-Some-clause-checks g c = λ asked waits. rw (c.open_haves.ensures asked waits) at c.in-Some.ensures

pub returns-in-None-clause-checks : goal.returns-in-None-clause-checks
returns-in-None-clause-checks g c = λ asked waits. rw (c.open_haves.ensures asked waits) at c.in-None.ensures

pub returns-in-None-clause-commons : goal.returns-in-None-clause-commons
returns-in-None-clause-commons g c =
    are_commons c.args.self.now c.requires.0 c.args.acks.now (distinct_of (c.args.self.now.commons ++ c.args.acks.now))
    c.distinct_are_once.ensures
    (open_fetch c.args.self.now c.requires.0 c.laws.ensures c.requires.1)
    (returns-in-None-clause-checks g c c.requires.0 c.requires.1) refl
