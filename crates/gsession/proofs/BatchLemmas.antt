-- The sizes of batches with the default options.
use Rattle.std.proofs.Common.{◌≡◌, ◌≤◌, ◌<◌, ◌^◌, ◌==◌, ℕ, zero, suc, min, false, if◌then◌else◌, refl, arith}
use Rattle.std.proofs.lemmas.Bool.{ne_eqb}
use Rattle.std.proofs.Math.Nat.{min-eq_left}
use Rattle.std.proofs.Math.Pow.{pow_mono}
use Rattle.gsession.specs.Requesting.{batch_size}

-- the batch sizes for the default maximum of 256, as a table
abbrev pub default_size : ℕ → ℕ
default_size rounds =
    if rounds == 0 then 16
    else if rounds == 1 then 32
    else if rounds == 2 then 64
    else if rounds == 3 then 128
    else 256

-- a session with the default options has these sizes
pub default_sizes : (rounds : ℕ) → batch_size 256 rounds ≡ default_size rounds
default_sizes zero = refl
default_sizes (suc zero) = refl
default_sizes (suc (suc zero)) = refl
default_sizes (suc (suc (suc zero))) = refl
default_sizes (suc (suc (suc (suc n)))) =
    let rounds = suc (suc (suc (suc n))) in
    let late : 4 ≤ min rounds 10 = omega arith in
    let large : 2 ^ 4 ≤ 2 ^ min rounds 10 = pow_mono late in
    let after : (k : ℕ) → k < 4 → rounds == k ≡ false = λ k low. ne_eqb rounds k (λ same. omega (arith, same, low)) in
    let past_0 = after 0 (omega arith) in
    let past_1 = after 1 (omega arith) in
    let past_2 = after 2 (omega arith) in
    let past_3 = after 3 (omega arith) in
    rw (past_0, past_1, past_2, past_3) (min-eq_left (omega (arith, large)))
