-- CRC-32 with tables. The shift of the exclusive or of two registers is the exclusive or of both shifted registers. A
-- shift by one byte only moves the bits above the lowest byte down.
use Rattle.std.proofs.Common.{◌≡◌, ℕ, zero, suc, ◌+◌, ◌*◌, ◌/◌, ◌%◌, ◌^◌, ◌<◌, ◌≤◌, ◌==◌, List, [], ◌∷◌, ◌++◌, Bool, true, false, length, length-drop, take, drop, drop-cons, get_or, refl, ap, sym, ◌∙◌, arith}
use Rattle.std.specs.Prelude.{if◌then◌else◌, bit_xor}
use Rattle.std.proofs.Math.Nat.{pow-suc}
use Rattle.std.proofs.lemmas.List.{take_more, at_drop_all}
use Rattle.std.proofs.lemmas.Nat.{xor_shr, xor_mod, xor_comm}
use Rattle.std.specs.Int.Bits.{xor_assoc, xor_shifted, xor_zero_l}
use Rattle.gzlib.specs.Crc.{shift_out, shift_bits, next_register, register_after, HasCrcOf}
use Rattle.gzlib.specs.steps.CrcTables.{after_bytes}
use Rattle.gzlib.specs.declared.crc.Crc32.{Crc32}

-- a choice between two numbers, each combined with `c`, is the chosen number combined with `c`
choose_xor : (b : Bool) (x y c : ℕ) → (if b then bit_xor x c else bit_xor y c) ≡ bit_xor (if b then x else y) c
choose_xor true x y c = refl
choose_xor false x y c = refl

xor_swap : (a c p : ℕ) → bit_xor (bit_xor a c) p ≡ bit_xor (bit_xor a p) c
xor_swap a c p = xor_assoc a c p ∙ ap (bit_xor a) (xor_comm c p) ∙ sym (xor_assoc a p c)

xor_zero : (a : ℕ) → bit_xor a 0 ≡ a
xor_zero a = xor_comm a 0

-- a shift by one bit only moves the bits above the lowest bit down
shift_out_high : (a c : ℕ) → shift_out (bit_xor a (c * 2)) ≡ bit_xor (shift_out a) c
shift_out_high a c =
    let down : c * 2 / 2 ≡ c = omega arith in
    let half : bit_xor a (c * 2) / 2 ≡ bit_xor (a / 2) c = xor_shr a (c * 2) 1 ∙ ap (bit_xor (a / 2)) down in
    let even : c * 2 % 2 ≡ 0 = omega arith in
    let twice : a % 2 % 2 ≡ a % 2 = omega arith in
    let low : bit_xor a (c * 2) % 2 ≡ a % 2 = xor_mod a (c * 2) 1 ∙ ap (bit_xor (a % 2)) even ∙ xor_zero (a % 2) in
    rw (half, low, xor_swap (a / 2) c 0xEDB8_8320) (choose_xor (a % 2 == 1) (bit_xor (a / 2) 0xEDB8_8320) (a / 2) c)

-- a shift by `k` bits only moves the bits above the lowest `k` bits down
shift_bits_high : (k a c : ℕ) → shift_bits k (bit_xor a (c * 2 ^ k)) ≡ bit_xor (shift_bits k a) c
shift_bits_high zero a c =
    let same : c * 1 ≡ c = omega arith in
    rw same refl
shift_bits_high (suc k) a c =
    let twice : c * 2 ^ suc k ≡ c * 2 ^ k * 2 = rw (pow-suc 2 k) (omega arith) in
    rw (twice, shift_out_high a (c * 2 ^ k)) (shift_bits_high k (shift_out a) c)

-- a register shifted by one byte: its higher bytes, moved down, combined with its lowest byte, shifted
shift_byte : (n : ℕ) → shift_bits 8 n ≡ bit_xor (n / 256) (shift_bits 8 (n % 256))
shift_byte n =
    let below : n % 256 < 2 ^ 8 = omega arith in
    let parts : bit_xor (n / 256 * 2 ^ 8) (n % 256) ≡ n = xor_shifted (n / 256) 8 (n % 256) below ∙ omega arith in
    let turned : n ≡ bit_xor (n % 256) (n / 256 * 2 ^ 8) = sym parts ∙ xor_comm (n / 256 * 2 ^ 8) (n % 256) in
    ap (shift_bits 8) turned ∙ shift_bits_high 8 (n % 256) (n / 256) ∙ xor_comm (shift_bits 8 (n % 256)) (n / 256)

-- the register after one more byte `b`, computed with the table entry for `i`, is the register of the definition
pub next_by_table : (r b i : ℕ) → b < 2 ^ 8 → i ≡ bit_xor b (r % 256) → bit_xor (r / 256) (after_bytes 1 i) ≡ next_register r b
unfolding next_register after_bytes
next_by_table r b i h e =
    let zero_high : b / 2 ^ 8 ≡ 0 = omega arith in
    let low_b : b % 2 ^ 8 ≡ b = omega arith in
    let high : bit_xor r b / 256 ≡ r / 256 = xor_shr r b 8 ∙ ap (bit_xor (r / 256)) zero_high ∙ xor_zero (r / 256) in
    let low : bit_xor r b % 256 ≡ i = xor_mod r b 8 ∙ ap (bit_xor (r % 256)) low_b ∙ xor_comm (r % 256) b ∙ sym e in
    sym (shift_byte (bit_xor r b) ∙ rw (high, low) refl)

-- combining two registers and then shifting them by one bit is the same as shifting first; `r` and `s` are the lowest
-- bits of the registers, and `x` and `y` are the higher bits
shift_out_each : (x y r s : ℕ) → r < 2 → s < 2
    → (if bit_xor r s == 1 then bit_xor (bit_xor x y) 0xEDB8_8320 else bit_xor x y)
    ≡ bit_xor (if r == 1 then bit_xor x 0xEDB8_8320 else x) (if s == 1 then bit_xor y 0xEDB8_8320 else y)
shift_out_each x y zero zero h k = refl
shift_out_each x y zero (suc zero) h k = xor_assoc x y 0xEDB8_8320
shift_out_each x y (suc zero) zero h k = xor_swap x y 0xEDB8_8320
shift_out_each x y (suc zero) (suc zero) h k =
    sym (
    xor_assoc x 0xEDB8_8320 (bit_xor y 0xEDB8_8320)
    ∙ ap (λ (n : ℕ). bit_xor x (bit_xor 0xEDB8_8320 n)) (xor_comm y 0xEDB8_8320)
    ∙ ap (bit_xor x) (sym (xor_assoc 0xEDB8_8320 0xEDB8_8320 y))
    )
shift_out_each x y zero (suc (suc s)) h k = absurd (omega (arith, k))
shift_out_each x y (suc zero) (suc (suc s)) h k = absurd (omega (arith, k))
shift_out_each x y (suc (suc r)) s h k = absurd (omega (arith, h))

shift_out_xor : (a b : ℕ) → shift_out (bit_xor a b) ≡ bit_xor (shift_out a) (shift_out b)
shift_out_xor a b =
    let half : bit_xor a b / 2 ≡ bit_xor (a / 2) (b / 2) = xor_shr a b 1 in
    let twice_a : a % 2 % 2 ≡ a % 2 = omega arith in
    let twice_b : b % 2 % 2 ≡ b % 2 = omega arith in
    let low : bit_xor a b % 2 ≡ bit_xor (a % 2) (b % 2) = xor_mod a b 1 in
    rw (half, low) (shift_out_each (a / 2) (b / 2) (a % 2) (b % 2) (omega arith) (omega arith))

shift_bits_xor : (k a b : ℕ) → shift_bits k (bit_xor a b) ≡ bit_xor (shift_bits k a) (shift_bits k b)
shift_bits_xor zero a b = refl
shift_bits_xor (suc k) a b = ap (shift_bits k) (shift_out_xor a b) ∙ shift_bits_xor k (shift_out a) (shift_out b)

shift_bits_add : (j k a : ℕ) → shift_bits (j + k) a ≡ shift_bits k (shift_bits j a)
shift_bits_add zero k a =
    let same : zero + k ≡ k = omega arith in
    rw same refl
shift_bits_add (suc j) k a =
    let next : suc j + k ≡ suc (j + k) = omega arith in
    rw next (shift_bits_add j k (shift_out a))

-- the register after these bytes, if it starts at `bit_xor p q`: `p`, shifted by the number of bytes, combined with the
-- register that starts at `q`
register_after_xor : (p q : ℕ) (bytes : List ℕ)
    → register_after (bit_xor p q) bytes ≡ bit_xor (shift_bits (8 * length bytes) p) (register_after q bytes)
unfolding next_register
register_after_xor p q [] = refl
register_after_xor p q (b ∷ bytes) =
    let parts : shift_bits 8 (bit_xor (bit_xor p q) b) ≡ bit_xor (shift_bits 8 p) (shift_bits 8 (bit_xor q b)) =
    ap (shift_bits 8) (xor_assoc p q b) ∙ shift_bits_xor 8 p (bit_xor q b) in
    let more : 8 * length (b ∷ bytes) ≡ 8 + 8 * length bytes = omega arith in
    ap (λ (r : ℕ). register_after r bytes) parts
    ∙ register_after_xor (shift_bits 8 p) (shift_bits 8 (bit_xor q b)) bytes
    ∙ ap (λ (n : ℕ). bit_xor n (register_after (shift_bits 8 (bit_xor q b)) bytes)) (sym (shift_bits_add 8 (8 * length bytes) p))
    ∙ ap (λ (n : ℕ). bit_xor (shift_bits n p) (register_after (shift_bits 8 (bit_xor q b)) bytes)) (sym more)

-- the register after `b` and more bytes: the table entry for `b` and the lowest byte of the register, combined with the
-- result for the higher bytes of the register
first_byte : (r b : ℕ) (bytes : List ℕ) → b < 2 ^ 8
    → register_after r (b ∷ bytes) ≡ bit_xor (after_bytes (suc (length bytes)) (bit_xor b (r % 256))) (register_after (r / 256) bytes)
unfolding next_register after_bytes
first_byte r b bytes h =
    let c = bit_xor b (r % 256) in
    let parts : next_register r b ≡ bit_xor (shift_bits 8 c) (r / 256) = sym (next_by_table r b c h refl) ∙ xor_comm (r / 256) (shift_bits 8 c) in
    let more : 8 * suc (length bytes) ≡ 8 + 8 * length bytes = omega arith in
    ap (λ (n : ℕ). register_after n bytes) parts
    ∙ register_after_xor (shift_bits 8 c) (r / 256) bytes
    ∙ ap (λ (n : ℕ). bit_xor n (register_after (r / 256) bytes)) (sym (shift_bits_add 8 (8 * length bytes) c))
    ∙ ap (λ (n : ℕ). bit_xor (shift_bits n c) (register_after (r / 256) bytes)) (sym more)

-- the same for the byte at index `i`, where `acc` combines the table entries of the earlier bytes
byte_more : (acc r q i k : ℕ) (bytes : List ℕ) → r / 256 ≡ q → i < length bytes → i + k ≡ length bytes → get_or bytes i 0 < 2 ^ 8
    → bit_xor acc (register_after r (drop i bytes))
    ≡ bit_xor (bit_xor acc (after_bytes k (bit_xor (get_or bytes i 0) (r % 256)))) (register_after q (drop (suc i) bytes))
byte_more acc r q i k bytes down h e small =
    let rest = drop (suc i) bytes in
    let now = bit_xor (get_or bytes i 0) (r % 256) in
    let count : suc (length rest) ≡ k = omega (arith, length-drop (suc i) bytes) in
    ap (λ (xs : List ℕ). bit_xor acc (register_after r xs)) (drop-cons bytes i 0 h)
    ∙ ap (bit_xor acc) (first_byte r (get_or bytes i 0) rest small)
    ∙ ap (λ (n : ℕ). bit_xor acc (bit_xor (after_bytes n now) (register_after (r / 256) rest))) count
    ∙ ap (λ (n : ℕ). bit_xor acc (bit_xor (after_bytes k now) (register_after n rest))) down
    ∙ sym (xor_assoc acc (after_bytes k now) (register_after q rest))

-- the same if the earlier bytes have used up all bytes of the register
byte_last : (acc i k : ℕ) (bytes : List ℕ) → i < length bytes → i + k ≡ length bytes → get_or bytes i 0 < 2 ^ 8
    → bit_xor acc (register_after 0 (drop i bytes))
    ≡ bit_xor (bit_xor acc (after_bytes k (get_or bytes i 0))) (register_after 0 (drop (suc i) bytes))
byte_last acc i k bytes h e small =
    byte_more acc 0 0 i k bytes refl h e small
    ∙ ap (λ (n : ℕ). bit_xor (bit_xor acc (after_bytes k n)) (register_after 0 (drop (suc i) bytes))) (xor_zero (get_or bytes i 0))

none_left : (acc : ℕ) (bytes : List ℕ) → length bytes ≤ 8 → bit_xor acc (register_after 0 (drop 8 bytes)) ≡ acc
none_left acc bytes h = at_drop_all (λ (xs : List ℕ). bit_xor acc (register_after 0 xs)) bytes 8 h ∙ xor_zero acc

-- the register after eight bytes: eight combined table entries
pub eight_bytes : (r : ℕ) (bytes : List ℕ) → r < 2 ^ 32 → length bytes ≡ 8 → ((i : ℕ) → get_or bytes i 0 < 2 ^ 8)
    → bit_xor (bit_xor (bit_xor (bit_xor (bit_xor (bit_xor (bit_xor
    (after_bytes 8 (bit_xor (get_or bytes 0 0) (r % 256)))
    (after_bytes 7 (bit_xor (get_or bytes 1 0) (r / 256 % 256))))
    (after_bytes 6 (bit_xor (get_or bytes 2 0) (r / 65536 % 256))))
    (after_bytes 5 (bit_xor (get_or bytes 3 0) (r / 16777216 % 256))))
    (after_bytes 4 (get_or bytes 4 0)))
    (after_bytes 3 (get_or bytes 5 0)))
    (after_bytes 2 (get_or bytes 6 0)))
    (after_bytes 1 (get_or bytes 7 0))
    ≡ register_after r bytes
eight_bytes r bytes fits len small =
    let second : r / 256 / 256 ≡ r / 65536 = omega arith in
    let third : r / 65536 / 256 ≡ r / 16777216 = omega arith in
    let fourth : r / 16777216 / 256 ≡ 0 = omega (arith, fits) in
    sym (
    sym (xor_zero_l (register_after r bytes))
    ∙ byte_more 0 r (r / 256) 0 8 bytes refl (omega (arith, len)) (omega (arith, len)) (small 0)
    ∙ ap (λ (n : ℕ). bit_xor n (register_after (r / 256) (drop 1 bytes))) (xor_zero_l (after_bytes 8 (bit_xor (get_or bytes 0 0) (r % 256))))
    ∙ byte_more _ (r / 256) (r / 65536) 1 7 bytes second (omega (arith, len)) (omega (arith, len)) (small 1)
    ∙ byte_more _ (r / 65536) (r / 16777216) 2 6 bytes third (omega (arith, len)) (omega (arith, len)) (small 2)
    ∙ byte_more _ (r / 16777216) 0 3 5 bytes fourth (omega (arith, len)) (omega (arith, len)) (small 3)
    ∙ byte_last _ 4 4 bytes (omega (arith, len)) (omega (arith, len)) (small 4)
    ∙ byte_last _ 5 3 bytes (omega (arith, len)) (omega (arith, len)) (small 5)
    ∙ byte_last _ 6 2 bytes (omega (arith, len)) (omega (arith, len)) (small 6)
    ∙ byte_last _ 7 1 bytes (omega (arith, len)) (omega (arith, len)) (small 7)
    ∙ none_left _ bytes (omega (arith, len))
    )

pub register_after-append : (r : ℕ) (xs ys : List ℕ) → register_after r (xs ++ ys) ≡ register_after (register_after r xs) ys
register_after-append r [] ys = refl
register_after-append r (x ∷ xs) ys = register_after-append (next_register r x) xs ys

pub register_after_more : (r : ℕ) (xs : List ℕ) (i : ℕ) → i < length xs
    → register_after r (take (i + 1) xs) ≡ next_register (register_after r (take i xs)) (get_or xs i 0)
register_after_more r xs i h = rw (take_more xs i 0 h) (register_after-append r (take i xs) (get_or xs i 0 ∷ []))

pub HasCrcOf-append : (s n : Crc32) (m xs : List ℕ) → HasCrcOf s m → n.register ≡ register_after s.register xs → HasCrcOf n (m ++ xs)
HasCrcOf-append s n m xs has e = e ∙ rw has (sym (register_after-append 0xFFFF_FFFF m xs))
