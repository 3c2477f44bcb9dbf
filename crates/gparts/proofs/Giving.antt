-- The parts that are returned of a pack that was built completely.
use Rattle.std.proofs.Common.{◌≡◌, ◌<◌, ◌+◌, ◌-◌, ℕ, List, ◌++◌, length, take, drop, min, sym, ap, ◌∙◌, subst, arith, length-append, length-drop, take-append-drop}
use Rattle.std.proofs.lemmas.Grind.{common_steps}
use Rattle.std.proofs.lemmas.List.{drop-drop, nil_from_length}
use Rattle.std.proofs.Math.Seq.{take-append_seam}
use Rattle.gparts.specs.steps.Whole.{TakesSome}

-- a slice from offset `given` to the end of the pack has all bytes after the first `given`
to_end : (pack : List ℕ) (given : ℕ) → take (length pack - given) (drop given pack) ≡ drop given pack
to_end pack given = grind (arith, common_steps, length-drop given pack)

takes_from : (rest out front : List ℕ) (count : ℕ) → 0 < length out
    → count ≡ min (length rest) (length out) → front ≡ take count rest
    → TakesSome rest (drop count rest) count (front ++ drop count out)
takes_from rest out front count room is copied =
    let size : length front ≡ count = ap length copied ∙ grind (arith, common_steps) in
    let seam : take count (front ++ drop count out) ≡ front =
    subst (λ n. take n (front ++ drop count out) ≡ front) size (take-append_seam front (drop count out)) in
    record {
      fits = omega (arith, length-append front (drop count out), size);
      parts = sym (take-append-drop count rest) ∙ ap (λ l. l ++ drop count rest) (sym copied ∙ sym seam);
      all = λ none. nil_from_length rest (omega (arith, is, none, room));
    }

pub takes_front : (old pack lent out front : List ℕ) (given count : ℕ) → old ≡ drop given pack → 0 < length out
    → lent ≡ pack → count ≡ min (length (take (length lent - given) (drop given lent))) (length out)
    → front ≡ take count (take (length lent - given) (drop given lent))
    → TakesSome old (drop (given + count) pack) count (front ++ drop count out)
takes_front old pack lent out front given count view room same is copied =
    let rest : take (length lent - given) (drop given lent) ≡ drop given pack =
    to_end lent given ∙ ap (drop given) same in
    rw view (subst (λ l. TakesSome (drop given pack) l count (front ++ drop count out)) (drop-drop count given pack)
    (takes_from (drop given pack) out front count room
    (subst (λ r. count ≡ min (length r) (length out)) rest is) (subst (λ r. front ≡ take count r) rest copied)))
