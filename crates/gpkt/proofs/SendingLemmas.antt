-- The written and flushed bytes of consecutive calls to a sink.
use Rattle.std.proofs.Common.{◌≡◌, ℕ, Bool, List, [], ◌++◌, Option, Some, None, refl, sym, ap, subst, ◌∙◌, append-nil}
use Rattle.std.proofs.KnownBytes.{Appends-trans}
use Rattle.std.specs.Io.KnownBytes.{Appends, Keeps}
use Rattle.std.specs.Prelude.{IsSome}
use Rattle.gpkt.specs.Devices.{KeepsPassed}
use Rattle.gpkt.specs.Sending.{output_of, IsUnwritten, Passes, SendsAndFails, SendsSome}

-- ---- bytes before and after

pub keeps_on : (a b c : Option (List ℕ)) → Keeps a b → KeepsPassed (record { old = b; new = c })
    → KeepsPassed (record { old = a; new = c })
keeps_on None b c kept h = tt
keeps_on (Some xs) None c kept h = absurd kept
keeps_on (Some xs) (Some ys) None kept h = absurd h
keeps_on (Some xs) (Some ys) (Some zs) kept h = (h.0, h.1 ∙ ap (λ (bytes : List ℕ). bytes ++ h.0) kept)

pub keeps_still : (a b : Option (List ℕ)) → Keeps a b → KeepsPassed (record { old = a; new = b })
keeps_still None b kept = tt
keeps_still (Some xs) None kept = absurd kept
keeps_still (Some xs) (Some ys) kept = ([], kept ∙ sym (append-nil xs))

pub appends_join : (a b c : Option (List ℕ)) (xs ys : List ℕ) → Appends a b xs → Appends b c ys → Appends a c (xs ++ ys)
appends_join = Appends-trans

pub appends_known : (a b : Option (List ℕ)) (xs : List ℕ) → Appends a b xs → IsSome a → IsSome b
appends_known None b xs h known = cc
appends_known (Some ps) None xs h known = absurd h
appends_known (Some ps) (Some qs) xs h known = refl

pub appends_to : (old xs : List ℕ) (a b : Option (List ℕ)) → a ≡ Some old → Appends a b xs → b ≡ Some (old ++ xs)
appends_to old xs None b is h = cc
appends_to old xs (Some ps) None is h = absurd h
appends_to old xs (Some ps) (Some qs) is h = let same : ps ≡ old = cc in cc

-- if the known flushed bytes are `old` and stay flushed, the flushed bytes after the call begin with `old`
pub passes_on_from : (old : List ℕ) (b c : Option (List ℕ)) → b ≡ Some old
    → KeepsPassed (record { old = b; new = c }) → (more : List ℕ) × (c ≡ Some (old ++ more))
passes_on_from old None c is h = cc
passes_on_from old (Some qs) None is h = absurd h
passes_on_from old (Some qs) (Some rs) is h = let same : qs ≡ old = cc in (h.0, cc)

pub is_some : (a b : Option (List ℕ)) → a ≡ b → IsSome b → IsSome a
is_some a b same known = subst IsSome (sym same) known

-- ---- consecutive calls

module _ {W : Type 0} (contents passed_on : W → Option (List ℕ)) (is_down : W → Bool) where
  -- if one call writes and flushes `xs` and the next call `ys`, the two calls write and flush `xs ++ ys`
  pub passes_join : (a b c : W) (xs ys : List ℕ) → Passes (output_of contents passed_on is_down a b) xs
      → Passes (output_of contents passed_on is_down b c) ys → Passes (output_of contents passed_on is_down a c) (xs ++ ys)
  passes_join a b c xs ys first next = record {
    written = appends_join (contents a) (contents b) (contents c) xs ys first.written next.written;
    passed_on = λ known passed.
        let mid : IsSome (contents b) = appends_known (contents a) (contents b) xs first.written known in
        next.passed_on mid (is_some (passed_on b) (contents b) (first.passed_on known passed) mid);
    up = next.up;
  }

  -- if one call writes and flushes `xs` and the next call fails after a prefix of `due`, the two calls do both
  pub fails_after : (a b c : W) (xs due : List ℕ) → Passes (output_of contents passed_on is_down a b) xs
      → SendsSome (output_of contents passed_on is_down b c) due
      → KeepsPassed (output_of contents passed_on is_down b c).passed_on
      → SendsAndFails (output_of contents passed_on is_down a c) xs due
  fails_after a b c xs due first next kept = record {
    front = next.front;
    rest = next.rest;
    parts = next.parts;
    written = appends_join (contents a) (contents b) (contents c) xs next.front first.written next.written;
    passed_on = λ old is passed.
        let known : IsSome (contents a) = is_some (contents a) (Some old) is refl in
        let mid : passed_on b ≡ Some (old ++ xs) =
        first.passed_on known passed ∙ appends_to old xs (contents a) (contents b) is first.written in
        passes_on_from (old ++ xs) (passed_on b) (passed_on c) mid kept;
    down = next.down;
  }

  -- if one call writes and flushes `xs` and the next call writes nothing, the two calls write and flush `xs`
  pub passes_still : (a b c : W) (xs : List ℕ) → Passes (output_of contents passed_on is_down a b) xs
      → IsUnwritten (output_of contents passed_on is_down b c) → Passes (output_of contents passed_on is_down a c) xs
  passes_still a b c xs first still = record {
    written = subst (λ (now : Option (List ℕ)). Appends (contents a) now xs) (sym still.written) first.written;
    passed_on = λ known passed. still.passed_on ∙ (first.passed_on known passed ∙ sym still.written);
    up = still.down ∙ first.up;
  }
