use Rattle.std.proofs.Common.{◌≡◌, ℕ, ◌-◌, ◌++◌, ◌∙◌, ap, sym, length, min, take}
use Rattle.gserver.proofs.TextLemmas.{added}
use Rattle.gserver.proofs.error_text.ErrText.add.Goals as goal

pub returns : goal.returns
returns c =
    let ok : c.try_extend_from_slice.new.self.items ≡ c.self.inside.text.items ++ take c.min-count.result c.args.words.now =
    rw c.unwrap.ensures at c.try_extend_from_slice.ensures.ok in
    let count : c.min-count.result ≡ min (512 - length c.self.inside.text.items) (length c.args.words.now) =
    c.min-count.ensures ∙ ap (λ (n : ℕ). min (512 - n) (length c.args.words.now)) c.len-room.ensures.value in
    added c.args.self.now c.self.inside.text.items c.args.words.now c.try_extend_from_slice.new.self.items
    (sym c.self.view_is) c.self.invariant
    (ok ∙ ap (λ (n : ℕ). c.self.inside.text.items ++ take n c.args.words.now) count)
