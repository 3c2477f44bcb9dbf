use Rattle.glsreply.proofs.TableLemmas.{is_formed, is_read}
use Rattle.glsreply.proofs.reader.LsReplyReader.into_reply.Goals as goal

pub returns-clause-read : goal.returns-clause-read
returns-clause-read g c = λ ends lines whole held.
    is_read c.texts_have_one_reading.ensures c.args.format ends c.args.self lines c.checked.result whole held c.checked.ensures

pub returns-clause-formed : goal.returns-clause-formed
returns-clause-formed g c = is_formed c.args.format c.args.self c.checked.result c.checked.ensures
