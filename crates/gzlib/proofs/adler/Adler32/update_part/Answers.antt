use Rattle.std.proofs.Common.{◌∙◌, ◌+◌, ◌%◌, ℕ, List, ap, arith, ◌≡◌, take, sum}
use Rattle.std.proofs.lemmas.List.{take_all}
use Rattle.gzlib.specs.Adler.{sum_of_sums}
use Rattle.gzlib.proofs.AdlerLemmas.{sum_more, sum_of_sums_more, HasAdlerOf-append}
use Rattle.gzlib.proofs.adler.Adler32.update_part.Goals as goal

pub loop-byte-preserved : goal.loop-byte-preserved
loop-byte-preserved c =
    let inv = c.loop-byte.invariant in
    let low = sum_more c.args.bytes.now c.loop-byte.byte-index c.loop-byte-test.true in
    let high = sum_of_sums_more c.args.self.now.low c.args.bytes.now c.loop-byte.byte-index c.loop-byte-test.true in
    (omega (arith, low, inv.0, c.from-low-in-loop-byte.ensures), omega (arith, high, inv.0, inv.1, c.from-low-in-loop-byte.ensures), omega arith, omega arith)

pub returns : goal.returns
returns c = λ m has.
    let all : take c.loop-byte.byte-index c.args.bytes.now ≡ c.args.bytes.now = take_all c.loop-byte.byte-index c.args.bytes.now (omega arith) in
    HasAdlerOf-append c.args.self.now _ m c.args.bytes.now has
    (ap (λ (k : ℕ). k % 65521) (c.loop-byte.invariant.0 ∙ ap (λ (xs : List ℕ). c.args.self.now.low + sum xs) all))
    (ap (λ (k : ℕ). k % 65521) (c.loop-byte.invariant.1 ∙ ap (λ (xs : List ℕ). c.args.self.now.high + sum_of_sums c.args.self.now.low xs) all))
