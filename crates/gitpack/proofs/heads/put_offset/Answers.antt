use Rattle.std.proofs.Common.{arith}
use Rattle.gitpack.proofs.HeadLemmas.{offset_more}
use Rattle.gitpack.proofs.heads.put_offset.Goals as goal

pub returns : goal.returns
returns g c =
    let big = c.if-high-eq0.false in
    let small = c.if-offset-ge-OFFSETS.false in
    offset_more c.args.offset c.args.out.now.items c.put_high.new.out.items c.push-2.new.self.items (omega (arith, big)) (omega (arith, small)) c.in_ok-put_high.ensures c.in_ok-push-2.ensures.items
