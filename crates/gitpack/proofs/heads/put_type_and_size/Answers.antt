use Rattle.std.proofs.Common.{arith}
use Rattle.gitpack.proofs.HeadLemmas.{type_more}
use Rattle.gitpack.proofs.heads.put_type_and_size.Goals as goal

pub returns : goal.returns
returns g c =
    let big = c.if-high-eq0.false in
    let small = c.if-size-ge-SIZES.false in
    type_more c.args.number c.args.size c.args.out.now.items c.push-2.new.self.items c.put_size.new.out.items c.requires (omega (arith, big)) (omega (arith, small)) c.in_ok-push-2.ensures.items c.in_ok-put_size.ensures
