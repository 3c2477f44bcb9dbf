-- The space-separated parts of a text, and parsing them.
use Rattle.std.proofs.Common.{◌≡◌, ℕ, ◌+◌, ◌-◌, inl, inr, false, Err, List, [], ◌∷◌, length, take, drop, Some, None, refl, sym, subst, ap, ◌∙◌, arith}
use Rattle.std.specs.Prelude.{position, Option}
use Rattle.std.specs.Borrow.{Bor}
use Rattle.std.specs.List.{slice_split, position_or_len, onto_first}
use Rattle.std.proofs.lemmas.Bool.{cases_Bool}
use Rattle.std.proofs.lemmas.List.{take_rest}
use Rattle.std.proofs.lemmas.List.Elements.{All-from_get_or}
use Rattle.std.proofs.lemmas.List.Quantifiers.{position-Some}
use Rattle.std.proofs.lemmas.List.Splits.{slice_split_first, slice_split_none, slice_split-cons_yes, slice_split-cons_no}
use Rattle.std.proofs.lemmas.List.Sums.{position_or_len_is, fails_before_first}
use Rattle.ggrammar.specs.declared.fault.Why.TheVariants.{BadText}
use Rattle.gname.proofs.ListLemmas.{position-None}
use Rattle.glsreply.specs.RefTexts.{parts_of, unborn_after_head}
use Rattle.ggrammar.specs.Texts.{is_space}

-- the first part of a text ends at its first space, and the other parts are those of the rest
pub parts-at : (text : List ℕ) (at : ℕ) → Some at ≡ position is_space text
    → parts_of text ≡ take at text ∷ parts_of (take (length text - (at + 1)) (drop (at + 1) text))
unfolding parts_of
parts-at text at e =
    let h = position-Some is_space text at 0 (sym e) in
    let same : position_or_len is_space text ≡ at = position_or_len_is is_space text at 0 (omega (arith, h.0)) h.2 (λ _. h.1) in
    subst (λ (n : ℕ). slice_split is_space text ≡ take n text ∷ slice_split is_space (take (length text - (n + 1)) (drop (n + 1) text))) same
    (rw take_rest (slice_split_first is_space text 0 (omega (arith, same, h.0))))

-- a text without a space is one part
pub parts-one : (text : List ℕ) → None ≡ position is_space text → parts_of text ≡ text ∷ []
unfolding parts_of
parts-one text e =
    slice_split_none is_space text (All-from_get_or (λ (byte : ℕ). is_space byte ≡ false) text 0 (λ k lt. fails_before_first is_space text k 0 (omega (arith, lt, position-None is_space text (sym e)))))

-- a text has a first part
parts-some : (text : List ℕ) → (first : List ℕ) × (rest : List (List ℕ)) × (slice_split is_space text ≡ first ∷ rest)
parts-some [] = ([], [], refl)
parts-some (x ∷ xs) =
    let more = parts-some xs in
    elim (cases_Bool (is_space x)) [
      | inl yes' ↦ ([], slice_split is_space xs, slice_split-cons_yes is_space x xs yes')
      | inr no' ↦ (x ∷ more.0, more.1, slice_split-cons_no is_space x xs no' ∙ ap (onto_first x) more.2)
    ]

-- two or more parts after `HEAD` are rejected with `BadText`
pub two_parts : (first text : List ℕ) → Err BadText ≡ unborn_after_head (first ∷ parts_of text)
unfolding parts_of
two_parts first text = let h = parts-some text in sym (ap (λ (parts : List (List ℕ)). unborn_after_head (first ∷ parts)) h.2)

-- the length of the rest of a text plus one, or 0 if there is no rest
abbrev pub length_left : Option (Bor (List ℕ)) → ℕ
length_left None = 0
length_left (Some rest) = length rest.now + 1
