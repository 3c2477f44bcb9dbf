use Rattle.std.proofs.Common.{arith}
use Rattle.gitpack.proofs.HeadLemmas.{high_more}
use Rattle.gitpack.proofs.heads.+put_high.Goals as goal

pub returns : goal.returns
returns g t c =
    let big = c.if-high-eq0.false in
    high_more c.args.number c.args.out.now.items c.put_high.new.out.items c.push-2.new.self.items (omega (arith, big)) c.in_ok-put_high.ensures c.in_ok-push-2.ensures.items
