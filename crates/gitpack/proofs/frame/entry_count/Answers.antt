use Rattle.std.proofs.Common.{length, ap, arith, ◌∷◌, []}
use Rattle.std.proofs.lemmas.List.{length-take-le}
use Rattle.gitpack.proofs.IndexLemmas.{header_read}
use Rattle.gitpack.proofs.frame.entry_count.Goals as goal

pub returns : goal.returns
returns c =
    let sign = c.in-Some.ensures.cases in
    let count = c.in-Some-split_first_chunk.ensures.cases in
    let left = count.2 in
    let enough = length-take-le 4 c.in-Some.after.now (omega (arith, left)) in (
      c.in-Some-split_first_chunk._rest.now,
      header_read (80 ∷ 65 ∷ 67 ∷ 75 ∷ 0 ∷ 0 ∷ 0 ∷ 2 ∷ []) c.args.pack.now c.in-Some.after.now c.in-Some-split_first_chunk.count.now c.in-Some-split_first_chunk._rest.now c.from_be_bytes.result
          sign.0 sign.1 count.0 count.1 (let same = ap length count.0 in omega (arith, same, enough)) (λ i. omega (arith, c.type_inv.pack i)) c.from_be_bytes.ensures,
    )
