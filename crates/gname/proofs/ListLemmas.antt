-- Facts about lists, for this crate and for crates that depend on it.
use Rattle.std.proofs.Common.{◌≡◌, ℕ, ◌≤◌, Bool, List, [], ◌∷◌, ◌++◌, length, None, arith}
use Rattle.std.specs.Prelude.{All, position}
use Rattle.std.specs.List.{position_or_len}
use Rattle.std.proofs.lemmas.Bool.Decides.{nat_tests}
use Rattle.std.proofs.lemmas.List.Elements.{All-cons, All-head, All-nil, All-tail}

-- if no position passes the test, `position_or_len` returns at least the length of the list
pub position-None : (p : ℕ → Bool) (xs : List ℕ) → position p xs ≡ None → length xs ≤ position_or_len p xs
position-None p xs h = grind (arith, nat_tests)

-- if P holds for each element of `xs ++ x ∷ []`, P holds for each element of `xs` and for `x`
pub All-parts : {X : Type 0} (P : X → Type 0) (xs : List X) (x : X) → All P (xs ++ x ∷ []) → All P xs × P x
All-parts P [] x h = (All-nil P, All-head P x [] h)
All-parts P (y ∷ xs) x h =
    let rest = All-parts P xs x (All-tail P y (xs ++ x ∷ []) h) in
    (All-cons P y xs (All-head P y (xs ++ x ∷ []) h) rest.0, rest.1)
