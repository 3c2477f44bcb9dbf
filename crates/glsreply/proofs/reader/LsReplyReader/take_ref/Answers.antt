use Rattle.glsreply.proofs.RefTextLemmas.{line_refused}
use Rattle.glsreply.proofs.reader.LsReplyReader.take_ref.Goals as goal

pub returns-in-Err-clause-takes : goal.returns-in-Err-clause-takes
returns-in-Err-clause-takes g c =
    line_refused c.args.self.now.format c.args.self.now.count c.args.text.now c.in-Err.why c.in-Err.ensures
