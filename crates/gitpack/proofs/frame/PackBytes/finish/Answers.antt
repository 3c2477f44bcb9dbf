use Rattle.std.proofs.Common.{◌≡◌, ◌-◌, ◌++◌, length, take, subst}
use Rattle.gitpack.proofs.ArrivingLemmas.{complete_pack_is_framed}
use Rattle.gitpack.specs.Packs.{IsFramed}
use Rattle.gitpack.specs.steps.Arriving.{IsArriving}
use Rattle.gitpack.proofs.frame.PackBytes.finish.Goals as goal

pub returns-clause-frame : goal.returns-clause-frame
returns-clause-frame g c =
    let given = g.S.Spool.bytes c.self.inside.spool in
    let window = c.self.inside.window.items in
    let hasher = c.self.inside.hasher in
    let sum = c.finalize-sum.result in
    let parts = c.in-Some.ensures.parts in
    let ends : window ≡ take (length window - 20) window ++ sum = subst (λ l. l ≡ take (length l - 20) l ++ sum) c.as_slice.ensures.value parts.1 in
    let was = subst (λ h. IsArriving given c.self.inside.first window h hasher) c.in-Count.is c.self.invariant in
    subst (IsFramed c.in-Count.count c.in-Some.trailer) c.self.view_is
    (complete_pack_is_framed given window c.self.inside.first c.in-Count.count hasher sum c.in-Some.trailer was c.finalize-sum.ensures parts.0 ends)
