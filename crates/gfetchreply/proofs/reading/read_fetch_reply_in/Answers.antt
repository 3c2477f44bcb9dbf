use Rattle.std.proofs.Common.{ℕ, ◌≤◌, length, ap, sym, subst, arith}
use Rattle.gpkt.specs.Change.{change_of}
use Rattle.ggrammar.specs.Kinds.{ReadsMessage}
use Rattle.gfetchreply.specs.FetchHeads.{pack_of}
use Rattle.gfetchreply.specs.FetchReplies.{Says, judge}
use Rattle.gfetchreply.specs.Views.{reading_in}
use Rattle.gfetchreply.specs.declared.reading.FetchReading.{FetchReading}
use Rattle.gfetchreply.proofs.ReplyLemmas.{said, short_pack, short_reply}
use Rattle.gfetchreply.proofs.reading.read_fetch_reply_in.Goals as goal

pub with_pack-requires : goal.with_pack-requires
with_pack-requires g c =
    let short = short_pack _ _ _ _ _ _ c.read_fetch_reply_into_in.new.sink.items c.in-Ok.ensures.read c.new-pack.ensures.items (λ xs e. e) in
    omega (arith, short, c.laws.ensures, ap (λ (r : FetchReading ℕ). r.limit) c.with_stream_limit.ensures)

pub returns-in-Ok-clause-read : goal.returns-in-Ok-clause-read
returns-in-Ok-clause-read g c =
    let read = rw c.with_stream_limit.ensures at c.in-Ok.ensures.read in
    subst (λ r. ReadsMessage (judge (reading_in c.args.reading)) (Says (reading_in c.args.reading)) (change_of g.S.Source.remaining c.args.reader.now.source c.read_fetch_reply_into_in.new.reader.source) r)
    (sym c.with_pack.ensures.reply)
    (said _ _ _ _ _ _ c.read_fetch_reply_into_in.new.sink.items read c.new-pack.ensures.items (λ xs e. e))

pub returns-in-Ok-clause-short : goal.returns-in-Ok-clause-short
returns-in-Ok-clause-short g c =
    let read = rw c.with_stream_limit.ensures at c.in-Ok.ensures.read in
    subst (λ r. length (pack_of r) ≤ c.args.reading.limit) (sym c.with_pack.ensures.reply)
    (short_reply _ _ _ _ _ _ c.read_fetch_reply_into_in.new.sink.items read c.new-pack.ensures.items (λ xs e. e))

pub returns-in-Err-clause-read : goal.returns-in-Err-clause-read
returns-in-Err-clause-read g c =
    let read = rw c.with_stream_limit.ensures at c.in-Err.ensures.read in (read.packets, read.refused)

pub returns-in-Ok-clause-format : goal.returns-in-Ok-clause-format
returns-in-Ok-clause-format g c =
    let format = rw c.with_stream_limit.ensures at c.in-Ok.ensures.format in
    c.with_pack.ensures.format c.args.reading.limits c.args.reading.format format
