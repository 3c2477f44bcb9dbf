use Rattle.std.proofs.Common.{◌≡◌, ◌+◌, ◌*◌, ◌-◌, ◌^◌, ◌++◌, ◌∷◌, [], get_or, length, sym, ap, subst, ◌∙◌, refl, arith}
use Rattle.gitpack.specs.Deltas.{IsSparse}
use Rattle.gitpack.proofs.DeltaLemmas.{no_sparse_at, pow_256, pow_less, sparse_first, sparse_one, sparse_rest, sparse_zero}
use Rattle.gitpack.proofs.delta.+split_sparse.Goals as goal

pub returns-then-count-eq0-clause-cases : goal.returns-then-count-eq0-clause-cases
returns-then-count-eq0-clause-cases t c = ([], no_sparse_at c.args.bits c.args.count c.if-count-eq0.true, refl)

pub returns-then-count-eq0-clause-bound : goal.returns-then-count-eq0-clause-bound
returns-then-count-eq0-clause-bound t c = let p = ap (λ n. 256 ^ n) c.if-count-eq0.true in omega (arith, p)

pub overflow_sub-count : goal.overflow_sub-count
overflow_sub-count t c = let some = c.if-count-eq0.false in omega (arith, some)

pub split_sparse-requires : goal.split_sparse-requires
split_sparse-requires t c =
    let some = c.if-count-eq0.false in let few = c.requires in let d = c.decreases in (omega (arith, some, d), omega (arith, few))

pub returns-in_default-clause-cases : goal.returns-in_default-clause-cases
returns-in_default-clause-cases t c number text rest is parts =
    let some = c.if-count-eq0.false in
    let more = sparse_rest c.args.bits c.args.count number text (omega (arith, some)) c.if-bits-eq0.true is in
    c.in_default.ensures.cases more.0 text rest more.1 parts

pub overflow_mul-result : goal.overflow_mul-result
overflow_mul-result t c =
    let p = pow_256 (c.args.count - 1) (let few = c.requires in omega (arith, few)) in let b = c.in-Some.ensures.bound in omega (arith, p, b)

pub returns-then-bits-eq0-clause-cases : goal.returns-then-bits-eq0-clause-cases
returns-then-bits-eq0-clause-cases t c =
    let some = c.if-count-eq0.false in
    let h = c.in-Some.ensures.cases in
    (h.0, sparse_zero c.args.bits c.args.count c.in-Some.high h.0 (omega (arith, some)) c.if-bits-eq0.true h.1, h.2)

pub returns-then-bits-eq0-clause-bound : goal.returns-then-bits-eq0-clause-bound
returns-then-bits-eq0-clause-bound t c =
    let some = c.if-count-eq0.false in
    let p = pow_less c.args.count (omega (arith, some)) in let b = c.in-Some.ensures.bound in omega (arith, p, b)

pub returns-in_default-split_first-clause-cases : goal.returns-in_default-split_first-clause-cases
returns-in_default-split_first-clause-cases t c number text rest is parts =
    let some = c.if-count-eq0.false in
    let more = sparse_first c.args.bits c.args.count number text (omega (arith, some)) c.if-bits-eq0.false is in
    let n = ap length (parts ∙ ap (λ l. l ++ rest) more.3) in
    let none = c.in_default-split_first.ensures.cases in
    absurd (omega (arith, n, none))

pub overflow_sub-count-2 : goal.overflow_sub-count-2
overflow_sub-count-2 t c = let some = c.if-count-eq0.false in omega (arith, some)

pub split_sparse-requires-2 : goal.split_sparse-requires-2
split_sparse-requires-2 t c =
    let some = c.if-count-eq0.false in let few = c.requires in let d = c.decreases in (omega (arith, some, d), omega (arith, few))

pub returns-in_default-split_sparse-clause-cases : goal.returns-in_default-split_sparse-clause-cases
returns-in_default-split_sparse-clause-cases t c number text rest is parts =
    let some = c.if-count-eq0.false in
    let more = sparse_first c.args.bits c.args.count number text (omega (arith, some)) c.if-bits-eq0.false is in
    let whole : c.in-Some-split_first.low.now ∷ c.in-Some-split_first.after.now ≡ more.0 ∷ (more.2 ++ rest) = sym c.in-Some-split_first.ensures.cases.0 ∙ parts ∙ ap (λ l. l ++ rest) more.3 in
    let tails : c.in-Some-split_first.after.now ≡ more.2 ++ rest = cc in
    c.in_default-split_sparse.ensures.cases more.1 more.2 rest more.4 tails

pub overflow_mul-result-2 : goal.overflow_mul-result-2
overflow_mul-result-2 t c =
    let p = pow_256 (c.args.count - 1) (let few = c.requires in omega (arith, few)) in let b = c.in-Some-split_sparse.ensures.bound in omega (arith, p, b)

pub overflow_add-result : goal.overflow_add-result
overflow_add-result t c =
    let p = pow_256 (c.args.count - 1) (let few = c.requires in omega (arith, few)) in
    let b = c.in-Some-split_sparse.ensures.bound in
    let low = c.type_inv.bytes 0 in
    let first = ap (λ l. get_or l 0 0) c.in-Some-split_first.ensures.cases.0 in
    let is = c.from.ensures in
    omega (arith, p, b, low, first, is)

pub returns-clause-cases : goal.returns-clause-cases
returns-clause-cases t c =
    let some = c.if-count-eq0.false in
    let h = c.in-Some-split_sparse.ensures.cases in
    let low = c.in-Some-split_first.low.now in
    let is = sparse_one c.args.bits c.args.count low c.in-Some-split_sparse.high h.0 (omega (arith, some)) c.if-bits-eq0.false h.1 in
    let same = ap (λ n. n + 256 * c.in-Some-split_sparse.high) (sym c.from.ensures) in
    (low ∷ h.0, subst (λ n. IsSparse c.args.bits c.args.count n (low ∷ h.0)) same is, c.in-Some-split_first.ensures.cases.0 ∙ ap (λ l. low ∷ l) h.2)

pub returns-clause-bound : goal.returns-clause-bound
returns-clause-bound t c =
    let some = c.if-count-eq0.false in
    let p = pow_less c.args.count (omega (arith, some)) in
    let b = c.in-Some-split_sparse.ensures.bound in
    let low = c.type_inv.bytes 0 in
    let first = ap (λ l. get_or l 0 0) c.in-Some-split_first.ensures.cases.0 in
    let is = c.from.ensures in
    omega (arith, p, b, low, first, is)
