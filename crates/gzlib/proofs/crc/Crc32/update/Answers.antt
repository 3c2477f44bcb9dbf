use Rattle.std.proofs.Common.{◌∙◌, ◌++◌, ◌≡◌, ℕ, ap, sym}
use Rattle.std.proofs.lemmas.List.{take-append-drop}
use Rattle.gzlib.specs.Crc.{register_after}
use Rattle.gzlib.proofs.CrcLemmas.{register_after-append, HasCrcOf-append}
use Rattle.gzlib.proofs.crc.Crc32.update.Goals as goal

pub loop-eight-preserved : goal.loop-eight-preserved
loop-eight-preserved c =
    let parts : c.in-Some.eight.now ++ c.in-Some.after.now ≡ c.loop-eight.rest.now =
    rw (c.in-Some.ensures.cases.0, c.in-Some.ensures.cases.1) (take-append-drop 8 c.loop-eight.rest.now) in
    ap (λ (r : ℕ). register_after r c.in-Some.after.now) c.next_eight-register.ensures
    ∙ sym (register_after-append c.loop-eight.register c.in-Some.eight.now c.in-Some.after.now)
    ∙ ap (register_after c.loop-eight.register) parts
    ∙ c.loop-eight.invariant

pub returns : goal.returns
returns c = λ m has. HasCrcOf-append c.args.self.now _ m c.args.bytes.now has (c.next_few-self.ensures ∙ c.loop-eight.invariant)
