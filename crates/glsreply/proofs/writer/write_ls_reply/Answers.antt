use Rattle.std.proofs.Common.{subst}
use Rattle.std.specs.Option.{option_copied}
use Rattle.ggrammar.specs.Writing.{WritesPackets}
use Rattle.glsreply.specs.LsReplies.{canonical_reply, unborn_packets}
use Rattle.glsreply.proofs.ValueLemmas.{value_in}
use Rattle.glsreply.proofs.WritingLemmas.{coming, reply_parts}
use Rattle.glsreply.proofs.writer.write_ls_reply.Goals as goal

pub returns-in_err-write_unborn-clause-lines : goal.returns-in_err-write_unborn-clause-lines
returns-in_err-write_unborn-clause-lines g c =
    let law = c.writes_packets.ensures in
    let all = canonical_reply c.args.ends c.args.reply.now in
    let parts = reply_parts c.args.ends c.args.reply.now (option_copied c.unborn.result) c.unborn.ensures in
    (law.fails _ _ _ all all (unborn_packets (option_copied c.unborn.result)) (coming c.args.ends c.args.reply.now.lines) _ _ (law.starts _ all) parts
    c.in_err-write_unborn.ensures.lines c.from_residual.ensures.1)

pub returns-clause-lines : goal.returns-clause-lines
returns-clause-lines g c =
    let law = c.writes_packets.ensures in
    let all = canonical_reply c.args.ends c.args.reply.now in
    let parts = reply_parts c.args.ends c.args.reply.now (option_copied c.unborn.result) c.unborn.ensures in
    let rest = subst (λ lines. WritesPackets g.W.Sink.contents g.W.Sink.passed_on g.W.Sink.is_down g.W.Sink.loans c.write_unborn.new.writer c.write_refs.new.writer c.write_refs.result (coming c.args.ends lines)) c.lines-lines.ensures.lines c.write_refs.ensures in
    (law.ends _ _ _ all (coming c.args.ends c.args.reply.now.lines) _
    (law.after_part _ _ _ all all (unborn_packets (option_copied c.unborn.result)) (coming c.args.ends c.args.reply.now.lines) (law.starts _ all) parts c.in_ok-write_unborn.ensures.lines) rest)

pub returns-clause-form : goal.returns-clause-form
returns-clause-form g c = value_in c.ids_have_one_format.ensures c.args.reply.now c.lines-lines.ensures.formed

pub returns-in_err-write_unborn-clause-form : goal.returns-in_err-write_unborn-clause-form
returns-in_err-write_unborn-clause-form g c = value_in c.ids_have_one_format.ensures c.args.reply.now c.lines-lines.ensures.formed
