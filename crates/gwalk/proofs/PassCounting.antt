-- The number of open positions.
use Rattle.std.proofs.Common.{◌≡◌, inl, inr, ℕ, zero, suc, ◌+◌, ◌-◌, ◌<◌, ◌≤◌, Bool, true, false, not, ◌&&◌, List, length, replicate, set, refl, sym, ap, ◌∙◌, arith, add-one}
use Rattle.std.proofs.lemmas.List.{length-set, length-replicate}
use Rattle.std.proofs.lemmas.Bool.{cases_eq, cases_Bool, and_from, and_left, and_right, not_from_true, not_from_false, false_from_ne_true}
use Rattle.gwalk.specs.steps.Passes.{IsCounted, is_marked, is_open, one, open_below}
use Rattle.gwalk.proofs.Positions.{set_elsewhere, none_marked}

module _ (wanted known wanted' known' : List Bool) where
  pub same_below : (n : ℕ) → ((p : ℕ) → p < n → is_open wanted known p ≡ is_open wanted' known' p) → open_below wanted known n ≡ open_below wanted' known' n
  unfolding open_below
  same_below zero same = refl
  same_below (suc n) same =
      let before = same_below n (λ p below. same p (omega arith)) in
      let here = ap one (same n (omega arith)) in
      omega (arith, before, here)

  -- the number of open positions after the marks of one position change
  pub changed_at : (q n : ℕ) → q < n → ((p : ℕ) → (p ≡ q → ⊥) → is_open wanted known p ≡ is_open wanted' known' p) → open_below wanted' known' n + one (is_open wanted known q) ≡ open_below wanted known n + one (is_open wanted' known' q)
  unfolding open_below
  changed_at q zero below same = absurd (omega arith)
  changed_at q (suc n) below same =
      elim (cases_eq q n) [
        | inl e ↦
            let before = same_below n (λ p within. same p (λ h. (let k : n < n = omega arith in omega arith))) in
            let old = ap (λ m. one (is_open wanted known m)) e in
            let new = ap (λ m. one (is_open wanted' known' m)) e in
            omega (arith, before, old, new)
        | inr other ↦
            let within : q < n = omega arith in
            let before = changed_at q n within same in
            let here = ap one (same n (λ h. other (sym h))) in
            omega (arith, before, here)
      ]

module _ (wanted known : List Bool) where
  pub open_most : (n : ℕ) → open_below wanted known n ≤ n
  unfolding open_below
  open_most zero = omega arith
  open_most (suc n) =
      let before = open_most n in
      elim (cases_Bool (is_open wanted known n)) [
        | inl e ↦ (let c : one (is_open wanted known n) ≡ 1 = ap one e in omega (arith, before, c))
        | inr e ↦ (let c : one (is_open wanted known n) ≡ 0 = ap one e in omega (arith, before, c))
      ]

  pub open_least : (q n : ℕ) → q < n → is_open wanted known q ≡ true → 1 ≤ open_below wanted known n
  unfolding open_below
  open_least q zero below is = absurd (omega arith)
  open_least q (suc n) below is =
      elim (cases_eq q n) [
        | inl e ↦ (let c : one (is_open wanted known n) ≡ 1 = ap one (ap (is_open wanted known) (sym e) ∙ is) in omega (arith, c))
        | inr other ↦ (let before = open_least q n (omega arith) is in omega (arith, before))
      ]

-- `pending` counts the open positions below `next`
pub counts : (wanted known : List Bool) (next pending : ℕ) → length known ≡ length wanted → next ≤ length wanted →
    pending ≡ open_below wanted known next → IsCounted wanted known next pending
unfolding open_below
counts wanted known next pending long inside count =
    record { long = long; inside = inside; count = count; some = by next count }
  where
    by : (n : ℕ) → pending ≡ open_below wanted known n → 0 < pending → 1 ≤ n
    by zero is some = absurd (omega arith)
    by (suc n) is some = omega arith

-- ---- marking one position

-- an open position below `next` is counted
pub in_count : (wanted known : List Bool) (next pending position : ℕ) → IsCounted wanted known next pending → position < next → one (is_open wanted known position) ≤ pending
in_count wanted known next pending position counted below =
    elim (cases_Bool (is_open wanted known position)) [
      | inl e ↦ (let c : one (is_open wanted known position) ≡ 1 = ap one e in let least = open_least wanted known position next below e in omega arith)
      | inr e ↦ (let c : one (is_open wanted known position) ≡ 0 = ap one e in omega arith)
    ]

pub wants_count : (wanted known : List Bool) (next pending position : ℕ) → IsCounted wanted known next pending → position < next → IsCounted (set wanted position true) known next (pending - one (is_open wanted known position) + one (is_open (set wanted position true) known position))
wants_count wanted known next pending position counted below =
    let in' = in_count wanted known next pending position counted below in
    let change = changed_at wanted known (set wanted position true) known position next below (λ p other. ap (λ b. b && not (is_marked known p)) (sym (set_elsewhere wanted p position other))) in
    let l = length-set wanted position true in
    counts (set wanted position true) known next _ (counted.long ∙ sym l) (omega arith) (omega arith)

pub knows_count : (wanted known : List Bool) (next pending position : ℕ) → IsCounted wanted known next pending → position < next → IsCounted wanted (set known position true) next (pending - one (is_open wanted known position) + one (is_open wanted (set known position true) position))
knows_count wanted known next pending position counted below =
    let in' = in_count wanted known next pending position counted below in
    let change = changed_at wanted known wanted (set known position true) position next below (λ p other. ap (λ b. is_marked wanted p && not b) (sym (set_elsewhere known p position other))) in
    let l = length-set known position true in
    counts wanted (set known position true) next _ (l ∙ counted.long) counted.inside (omega arith)

-- the count is at most the number of marks
pub count_fits : (wanted known : List Bool) (next pending : ℕ) → IsCounted wanted known next pending → pending ≤ length wanted
count_fits wanted known next pending counted = let most = open_most wanted known next in omega arith

-- ---- the next position down

-- the count after the next lower position is visited
module _ (wanted known : List Bool) (next position pending : ℕ) (counted : IsCounted wanted known next pending) (is : next ≡ position + 1) where
  step_count : pending ≡ open_below wanted known position + one (is_open wanted known position)
  unfolding open_below
  step_count = counted.count ∙ ap (open_below wanted known) (is ∙ add-one position)

  pub next_open : is_open wanted known position ≡ true → (1 ≤ pending) × IsCounted wanted known position (pending - 1)
  next_open is_so =
      let count = step_count in
      let c : one (is_open wanted known position) ≡ 1 = ap one is_so in
      (omega arith, counts wanted known position (pending - 1) counted.long (omega arith) (omega arith))

  pub next_shut : is_open wanted known position ≡ false → IsCounted wanted known position pending
  next_shut shut =
      let count = step_count in
      let c : one (is_open wanted known position) ≡ 0 = ap one shut in
      counts wanted known position pending counted.long (omega arith) (omega arith)

pub open_if : (wanted known : List Bool) (p : ℕ) → is_marked wanted p ≡ true → is_marked known p ≡ false → is_open wanted known p ≡ true
open_if wanted known p w k = and_from (is_marked wanted p) (not (is_marked known p)) w (not_from_false (is_marked known p) k)

pub shut_known : (wanted known : List Bool) (p : ℕ) → is_marked known p ≡ true → is_open wanted known p ≡ false
shut_known wanted known p k = and_right (is_marked wanted p) (not (is_marked known p)) (not_from_true (is_marked known p) k)

pub shut_idle : (wanted known : List Bool) (p : ℕ) → is_marked wanted p ≡ false → is_open wanted known p ≡ false
shut_idle wanted known p w = and_left (is_marked wanted p) (not (is_marked known p)) w

-- ---- the start of the pass

count_unmarked : (n m : ℕ) → open_below (replicate n false) (replicate n false) m ≡ 0
unfolding open_below
count_unmarked n zero = refl
count_unmarked n (suc m) =
    let none = replicate n false in
    let before = count_unmarked n m in
    let free = false_from_ne_true (is_marked none m) (none_marked n m) in
    let c : one (is_open none none m) ≡ 0 = ap one (shut_idle none none m free) in
    omega arith

pub counted_none : (n : ℕ) → IsCounted (replicate n false) (replicate n false) n 0
counted_none n =
    let none = replicate n false in
    let l = length-replicate n false in counts none none n 0 refl (omega arith) (sym (count_unmarked n n))
