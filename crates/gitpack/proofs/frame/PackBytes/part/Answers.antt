use Rattle.std.proofs.Common.{◌≡◌, ◌-◌, length, take, subst}
use Rattle.gitpack.proofs.ArrivingLemmas.{part_of_window}
use Rattle.gitpack.specs.Packs.{IsPart}
use Rattle.gitpack.proofs.frame.PackBytes.part.Goals as goal

pub returns : goal.returns
returns g c =
    let pack = c.self.inside in
    let window = pack.window.items in
    let body = c.body_of.result.now in
    let is : body ≡ take (length window - 20) window = subst (λ l. body ≡ take (length l - 20) l) c.as_slice.ensures.value c.body_of.ensures in
    subst (λ l. IsPart l pack.first body) c.self.view_is (part_of_window (g.S.Spool.bytes pack.spool) window body pack.first pack.head pack.hasher c.self.invariant is)
