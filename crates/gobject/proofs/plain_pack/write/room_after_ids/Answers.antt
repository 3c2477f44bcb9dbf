use Rattle.std.proofs.Common.{◌∷◌, ◌<◌, List, ℕ, length, ap, subst, arith}
use Rattle.std.proofs.lemmas.List.{append-nil}
use Rattle.gname.specs.Ids.{id_text}
use Rattle.gobject.proofs.PlainPackWriting.{left_none}
use Rattle.gobject.proofs.plain_pack.write.room_after_ids.Goals as goal

pub returns-in_err-left : goal.returns-in_err-left
returns-in_err-left c =
    let f : List ℕ → List ℕ = λ id. 32 ∷ id_text id in
    let in_ids : c.loop-id.id-index < length c.args.ids.now = omega arith in
    let one = ap (λ (t : List ℕ). length t) (append-nil (f c.id-item.result)) in
    let over : c.loop-id.left < length (f c.id-item.result) = subst (λ n. c.loop-id.left < n) one c.in_err-left.ensures in
    rw c.from_residual.ensures (left_none f c.args.ids.now c.loop-id.id-index c.id-item.result c.args.room c.loop-id.left in_ids c.id-item.is c.loop-id.invariant over)
