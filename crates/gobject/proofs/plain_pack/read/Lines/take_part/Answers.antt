use Rattle.std.proofs.lemmas.Result.{err_from_is_err_and}
use Rattle.gobject.proofs.PlainPackReading.{HasRead-part, IsBadLine-part, TakesMemory-part}
use Rattle.gobject.proofs.plain_pack.read.Lines.take_part.Goals as goal

pub returns-in-Some : goal.returns-in-Some
returns-in-Some g c = λ before is h.
    let leads = rw (c.in-Some.is, c.replace-next.ensures.value) at c.in_ok-next.ensures.ok in
    HasRead-part c.args.self.now.next c.in-Some.next c.args.self.now.entries.items c.after_part.new.entries.items before c.args.part.now c.args.separator h leads

pub returns-in-None : goal.returns-in-None
returns-in-None g c = λ before more is h.
    let never = rw (c.in-None.is, c.replace-next.ensures.value) at c.in_ok-next.ensures.ok in
    rw c.bad_line-fault.ensures (IsBadLine-part c.id_texts_are_digits.ensures c.args.self.now.next c.args.self.now.entries.items before c.args.part.now c.args.separator more h is never)

pub returns-in_err-next : goal.returns-in_err-next
returns-in_err-next g c =
    let p = err_from_is_err_and c.from_residual.result c.from_residual.ensures.1 in
    let kept = rw c.replace-next.ensures.value at c.in_err-next.ensures.err in
    rw (p.1, p.2) (λ before more is h. TakesMemory-part c.args.self.now.next c.args.self.now.entries.items before c.args.part.now c.args.separator more h kept)
