-- Bytes that are read or written in pieces.
use Rattle.std.proofs.Common.{◌≡◌, ℕ, ◌+◌, ◌-◌, ◌≤◌, List, ◌++◌, length, take, drop, Option, sym, ap, ◌∙◌, le_refl, drop_at, length-take-le, append_assoc, take-append-drop, arith, length-append}
use Rattle.std.proofs.KnownBytes.{Appends-trans}
use Rattle.std.proofs.lemmas.List.{take_rest}
use Rattle.std.proofs.lemmas.Slice.{take-put_mid_below}
use Rattle.std.specs.Io.KnownBytes.{Appends}
use Rattle.gpkt.specs.PacketWriting.{AppendsFront}
use borrow.Rule.Slice.PartMut.{put_mid, post_of}
use Rattle.gpkt.proofs.Steps.{change}
use lib.Seq.{take-add, take-append-le}

-- if `ys` is stored in the buffer `xs` from index `at`, its first `at + n` bytes are `at` old bytes and `n` new bytes
pub take-put_mid_front : (at k n : ℕ) (xs ys : List ℕ) → at ≤ length xs → n ≤ length ys → take (at + n) (put_mid at k xs ys) ≡ take at xs ++ take n ys
take-put_mid_front at k n xs ys within fits =
    let whole = put_mid at k xs ys in
    let front : take at whole ≡ take at xs = take-put_mid_below _ _ _ _ _ (le_refl _) within in
    let back : drop at whole ≡ ys ++ post_of at k xs = drop_at (take at xs) (ys ++ post_of at k xs) at (length-take-le at xs within) in
    take-add at n whole ∙ ap (λ l. l ++ take n (drop at whole)) front ∙ ap (λ l. take at xs ++ take n l) back ∙ ap (λ l. take at xs ++ l) (take-append-le n ys (post_of at k xs) fits)

-- the bytes already written and the bytes that remain, after `n` more bytes are written
pub split_more : (all done rest : List ℕ) (n : ℕ) → all ≡ done ++ rest → all ≡ (done ++ take n rest) ++ take (length rest - n) (drop n rest)
split_more all done rest n e =
    e ∙ ap (λ l. done ++ l) (sym (take-append-drop n rest)) ∙ sym (append_assoc done (take n rest) (drop n rest)) ∙ ap (λ l. (done ++ take n rest) ++ l) (sym (take_rest rest n))

-- a call that writes a proper prefix of `xs` writes a proper prefix of `xs ++ ys`
pub AppendsFront-more : (old new : Option (List ℕ)) (xs ys : List ℕ) → AppendsFront (change old new) xs → AppendsFront (change old new) (xs ++ ys)
AppendsFront-more old new xs ys (front, rest, split, some, appended) = (
  front,
  rest ++ ys,
  ap (λ l. l ++ ys) split ∙ append_assoc front rest ys,
  omega (arith, length-append rest ys),
  appended,
)

-- writing `xs` and then a proper prefix of `ys` writes a proper prefix of `xs ++ ys`
pub AppendsFront-after : (old mid new : Option (List ℕ)) (xs ys : List ℕ) → Appends old mid xs → AppendsFront (change mid new) ys → AppendsFront (change old new) (xs ++ ys)
AppendsFront-after old mid new xs ys first (front, rest, split, some, appended) = (
  xs ++ front,
  rest,
  ap (λ l. xs ++ l) split ∙ sym (append_assoc xs front rest),
  some,
  Appends-trans old mid new xs front first appended,
)
