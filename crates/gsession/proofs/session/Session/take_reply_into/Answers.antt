use Rattle.std.proofs.Common.{Ok}
use Rattle.gpkt.specs.Change.{change_of}
use Rattle.gsession.proofs.ReplyLemmas.{reply_grows}
use Rattle.gsession.proofs.session.Session.take_reply_into.Goals as goal

pub returns-in-Ok-clause-grows : goal.returns-in-Ok-clause-grows
returns-in-Ok-clause-grows g c =
    reply_grows g.K.KeepingIndexer.indexes g.K.KeepingIndexer.index_fails c.args.self.now
    c.args.repo.now
    (change_of g.S.Source.remaining c.args.reader.now.source c.read_objects.new.reader.source) c.read_objects.new.self
    c.read_objects.new.repo (Ok c.in-Ok.taken) c.in-Ok.ensures.takes
