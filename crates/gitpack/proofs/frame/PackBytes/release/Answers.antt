use Rattle.std.proofs.Common.{arith, subst}
use Rattle.gitpack.proofs.ArrivingLemmas.{arrives_released}
use Rattle.gitpack.specs.steps.Arriving.{MayRelease}
use Rattle.gitpack.proofs.frame.PackBytes.release.Goals as goal

pub invariant_of-self : goal.invariant_of-self
invariant_of-self g c =
    let old = c.self.inside in
    let count = c.releasable-count.result in
    let may = subst (MayRelease old.head count) c.as_slice.ensures.value c.releasable-count.ensures.may in
    arrives_released (g.S.Spool.bytes old.spool) old.window.items c.drop_front.new.window.items old.first _ old.head old.hasher count c.drop_front.ensures (omega arith) may
    c.self.invariant
