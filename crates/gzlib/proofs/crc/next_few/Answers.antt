use Rattle.std.proofs.Common.{◌∙◌, ℕ, get_or, sym, ap, arith, ◌≡◌, take}
use Rattle.std.proofs.lemmas.List.{take_all}
use Rattle.gzlib.proofs.CrcLemmas.{register_after_more}
use Rattle.gzlib.specs.Crc.{register_after, next_register}
use Rattle.gzlib.proofs.crc.next_few.Goals as goal

pub loop-byte-preserved : goal.loop-byte-preserved
loop-byte-preserved c =
    c.next_register-register.ensures
    ∙ ap (λ (r : ℕ). next_register r (get_or c.args.bytes.now c.loop-byte.byte-index 0)) c.loop-byte.invariant
    ∙ sym (register_after_more c.args.register c.args.bytes.now c.loop-byte.byte-index c.loop-byte-test.true)

pub returns : goal.returns
returns c =
    let all : take c.loop-byte.byte-index c.args.bytes.now ≡ c.args.bytes.now = take_all c.loop-byte.byte-index c.args.bytes.now (omega arith) in
    c.loop-byte.invariant ∙ ap (register_after c.args.register) all
