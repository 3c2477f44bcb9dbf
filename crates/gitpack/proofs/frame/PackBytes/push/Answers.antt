use Rattle.std.proofs.Common.{◌≡◌, ◌-◌, ◌++◌, ◌∙◌, length, take, drop, ap, subst}
use Rattle.sha1.specs.Sha1.{Holds}
use Rattle.gitpack.proofs.ArrivingLemmas.{arrives_more}
use Rattle.gitpack.specs.steps.Arriving.{HeadAfter}
use Rattle.gitpack.proofs.frame.PackBytes.push.Goals as goal

pub invariant_of-self-2 : goal.invariant_of-self-2
invariant_of-self-2 g c =
    let old = c.self.inside in
    let window = c.store.new.window.items in
    let head = c.head_after-self-inside.result in
    let hasher = c.update.new.self in
    let from = c.body_length-from.result in
    let to = c.body_length-to.result in
    let is : from ≡ length old.window.items - 20 = c.body_length-from.ensures ∙ ap (λ l. length l - 20) c.as_slice.ensures.value in
    let end : to ≡ length window - 20 = c.body_length-to.ensures ∙ ap (λ l. length l - 20) c.as_slice-2.ensures.value in
    let after : HeadAfter old.head (take to window) head = subst (λ l. HeadAfter old.head (take to l) head) c.as_slice-4.ensures.value c.head_after-self-inside.ensures in
    arrives_more (g.S.Spool.bytes old.spool) (g.S.Spool.bytes c.store.new.spool) old.window.items window c.args.piece.now old.first old.head head old.hasher hasher from to
    c.in_ok-store.ensures.spool_ok c.in_ok-store.ensures.window_ok is end
    (λ m holds. subst (λ l. Holds hasher (m ++ take (to - from) (drop from l))) c.as_slice-3.ensures.value (c.update.ensures m holds))
    after c.self.invariant
