use Rattle.std.proofs.Common.{sym, subst}
use Rattle.gpkt.specs.Change.{change_of}
use Rattle.ggrammar.specs.Kinds.{ReadsMessage}
use Rattle.glsreply.specs.LsReplies.{Says, judge}
use Rattle.glsreply.specs.WellFormed.{IsLsReplyIn}
use Rattle.glsreply.proofs.TableLemmas.{read_is, formed_is}
use Rattle.glsreply.proofs.reader.read_ls_reply_in.Goals as goal

pub finish-requires : goal.finish-requires
finish-requires g c = (
  c.args.format,
  formed_is c.args.format c.args.ends c.new-message.result c.read_message.new.message (change_of g.S.Source.remaining c.args.reader.now.source c.read_message.new.reader.source)
      c.new-message.ensures.format c.new-message.ensures.ends c.texts_have_one_reading.ensures c.in-Ok.ensures.read,
)

pub returns-in-Ok-clause-read : goal.returns-in-Ok-clause-read
returns-in-Ok-clause-read g c =
    subst (ReadsMessage (judge c.args.format c.args.ends) (Says c.args.format c.args.ends) (change_of g.S.Source.remaining c.args.reader.now.source c.read_message.new.reader.source)) (sym c.finish.ensures)
    (read_is c.args.format c.args.ends c.new-message.result c.read_message.new.message (change_of g.S.Source.remaining c.args.reader.now.source c.read_message.new.reader.source)
    c.new-message.ensures.format c.new-message.ensures.ends c.in-Ok.ensures.read)

pub returns-in-Ok-clause-formed : goal.returns-in-Ok-clause-formed
returns-in-Ok-clause-formed g c =
    subst (IsLsReplyIn c.args.format) (sym c.finish.ensures)
    (formed_is c.args.format c.args.ends c.new-message.result c.read_message.new.message (change_of g.S.Source.remaining c.args.reader.now.source c.read_message.new.reader.source)
    c.new-message.ensures.format c.new-message.ensures.ends c.texts_have_one_reading.ensures c.in-Ok.ensures.read)
