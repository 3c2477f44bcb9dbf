use Rattle.std.proofs.Common.{arith}
use Rattle.gitpack.proofs.HeadLemmas.{on_ok, size_more}
use Rattle.gitpack.proofs.heads.+put_size.Goals as goal

pub returns : goal.returns
returns g t c =
    let big = c.if-high-eq0.false in
    on_ok c.put_size.result _ _ (size_more c.args.number c.args.out.now.items c.push-2.new.self.items c.put_size.new.out.items (omega (arith, big)) c.in_ok-push-2.ensures.items) c.put_size.ensures
