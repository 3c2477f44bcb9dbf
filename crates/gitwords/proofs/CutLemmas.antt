-- Texts that are split at a byte.
use Rattle.std.proofs.Common.{◌≡◌, ◌≢◌, ℕ, ◌+◌, ◌<◌, ◌&&◌, true, inl, inr, refl, List, [], ◌∷◌, ◌++◌, length, take, drop, get_or, All, Option, None, Some, MatchOption, sym, ap, subst, ◌∙◌, lit<, arith}
use Rattle.std.specs.Borrow.{Bor}
use Rattle.std.specs.Char.{digit_value}
use Rattle.std.specs.Str.Parse.{AllDigits, IsNumeral}
use Rattle.std.specs.List.{list_all}
use Rattle.std.specs.Prelude.{nat_le}
use Rattle.std.specs.Str.Pattern.{RFindsChar, SplitsAroundMatch}
use Rattle.std.proofs.lemmas.Bool.{and_parts, false≢true}
use Rattle.std.proofs.lemmas.List.{drop_more, get_or-take, length-append, length-take, take-append-drop}
use Rattle.std.proofs.lemmas.List.Elements.{All-cons, All-from_get_or, All-head, All-nil, All-tail}
use Rattle.std.proofs.lemmas.List.Folds.{list_all-append}
use Rattle.std.proofs.lemmas.Str.Pattern.{NoCharPasses-char, drop_at_char}
use Rattle.gitwords.specs.Urls.{IsHost, is_name_byte, max_host}

-- ---- uniqueness of a split

-- a text with the byte `s` between two parts does not consist only of bytes other than `s`
pub no_in : (s : ℕ) (front back : List ℕ) → ¬ (All (λ b. b ≢ s) (front ++ s ∷ back))
no_in s [] back all = All-head (λ b. b ≢ s) s back all refl
no_in s (b ∷ front) back all = no_in s front back (All-tail (λ b. b ≢ s) b (front ++ s ∷ back) all)

-- a text can be split at its first byte `s` in only one way
pub cut_first : (s : ℕ) (x y u v : List ℕ) → All (λ b. b ≢ s) x → All (λ b. b ≢ s) y → x ++ s ∷ u ≡ y ++ s ∷ v → (x ≡ y) × (u ≡ v)
cut_first s [] [] u v one two is = (refl, cc)
cut_first s [] (c ∷ y) u v one two is =
    let same : s ≡ c = cc in absurd (All-head (λ b. b ≢ s) c y two (sym same))
cut_first s (c ∷ x) [] u v one two is =
    let same : c ≡ s = cc in absurd (All-head (λ b. b ≢ s) c x one same)
cut_first s (c ∷ x) (d ∷ y) u v one two is =
    let heads : c ≡ d = cc in
    let tails : x ++ s ∷ u ≡ y ++ s ∷ v = cc in
    let rest = cut_first s x y u v (All-tail (λ b. b ≢ s) c x one) (All-tail (λ b. b ≢ s) d y two) tails in
    let front = rest.0 in
    (cc, rest.1)

-- a text can be split at its last byte `s` in only one way
pub cut_last : (s : ℕ) (x y u v : List ℕ) → All (λ b. b ≢ s) u → All (λ b. b ≢ s) v → x ++ s ∷ u ≡ y ++ s ∷ v → (x ≡ y) × (u ≡ v)
cut_last s [] [] u v one two is = (refl, cc)
cut_last s [] (d ∷ y) u v one two is =
    let tails : u ≡ y ++ s ∷ v = cc in absurd (no_in s y v (subst (All (λ b. b ≢ s)) tails one))
cut_last s (c ∷ x) [] u v one two is =
    let tails : v ≡ x ++ s ∷ u = cc in absurd (no_in s x u (subst (All (λ b. b ≢ s)) tails two))
cut_last s (c ∷ x) (d ∷ y) u v one two is =
    let heads : c ≡ d = cc in
    let tails : x ++ s ∷ u ≡ y ++ s ∷ v = cc in
    let rest = cut_last s x y u v one two tails in
    let front = rest.0 in
    (cc, rest.1)

-- ---- the first slash

pub path_parts : (text front back : List ℕ) (at : ℕ) → front ≡ take at text → back ≡ drop at text → (at < length text) × (get_or text at 0 ≡ 47) × ((i : ℕ) → i < at → get_or text i 0 ≢ 47)
    → (text ≡ front ++ back) × All (λ b. b ≢ 47) front × ((rest : List ℕ) × (back ≡ 47 ∷ rest))
path_parts text front back at before after found = (
  sym (take-append-drop at text) ∙ ap (λ l. l ++ drop at text) (sym before) ∙ ap (λ l. front ++ l) (sym after),
  All-from_get_or (λ b. b ≢ 47) front 0 (λ i inside e.
      let low : i < at = omega (arith, inside, ap length before, length-take at text) in
      found.2 i low (sym (get_or-take at text i 0 low) ∙ ap (λ l. get_or l i 0) (sym before) ∙ e)),
  (drop (at + 1) text, after ∙ drop_more text at 0 found.0 ∙ ap (λ b. b ∷ drop (at + 1) text) found.1),
)

-- ---- the last colon

pub colon_parts : (text : List ℕ) (r : Option (Bor (List ℕ) × Bor (List ℕ)))
    → MatchOption r (RFindsChar 58 text None) (λ x. SplitsAroundMatch (RFindsChar 58) text x.0.now x.1.now)
    → MatchOption r (All (λ b. b ≢ 58) text) (λ x. (text ≡ x.0.now ++ 58 ∷ x.1.now) × All (λ b. b ≢ 58) x.1.now)
colon_parts text None found = All-from_get_or (λ b. b ≢ 58) text 0 (λ i inside. NoCharPasses-char 58 text i found (lit< tt) inside)
colon_parts text (Some (front, back)) (i, j, found, before, after, order, until, past) =
    let parts : text ≡ front.now ++ 58 ∷ back.now =
    sym (take-append-drop i text)
    ∙ ap (λ rest. take i text ++ rest) (drop_at_char 58 text i j found.1 (lit< tt))
    ∙ ap (λ rest. take i text ++ 58 ∷ rest) (sym after)
    ∙ ap (λ start. start ++ 58 ∷ back.now) (sym before) in
    let clean : All (λ b. b ≢ 58) (drop j text) = All-from_get_or (λ b. b ≢ 58) (drop j text) 0 (λ k inside. NoCharPasses-char 58 (drop j text) k found.0 (lit< tt) inside) in
    (parts, subst (All (λ b. b ≢ 58)) (sym after) clean)

-- ---- brackets

pub no_bracket : (text : List ℕ) → ((rest : List ℕ) → text ≢ 91 ∷ rest) → (inner : List ℕ) → ¬ (text ≡ 91 ∷ (inner ++ 93 ∷ []))
no_bracket text none inner is = none (inner ++ 93 ∷ []) is

module _ (text rest : List ℕ) (begins : text ≡ 91 ∷ rest) where
  pub bracket_parts : (r : Option (Bor (List ℕ))) → MatchOption r ((front : List ℕ) → rest ≢ front ++ 93 ∷ []) (λ x. rest ≡ x.now ++ 93 ∷ [])
      → MatchOption r ((inner : List ℕ) → ¬ (text ≡ 91 ∷ (inner ++ 93 ∷ []))) (λ inner. text ≡ 91 ∷ (inner.now ++ 93 ∷ []))
  bracket_parts None open_end = λ inner is. (let same : 91 ∷ rest ≡ 91 ∷ (inner ++ 93 ∷ []) = sym begins ∙ is in open_end inner cc)
  bracket_parts (Some x) ends = begins ∙ ap (λ l. 91 ∷ l) ends

-- ---- digits

-- a text of decimal digits contains no colon
pub numeral_clean : (digits : List ℕ) → AllDigits 10 digits → All (λ b. b ≢ 58) digits
numeral_clean [] all = All-nil (λ b. b ≢ 58)
numeral_clean (b ∷ digits) all =
    All-cons (λ b. b ≢ 58) b digits (λ e. (let low : digit_value 58 < 10 = subst (λ d. digit_value d < 10) e all.0 in absurd (omega arith))) (numeral_clean digits all.1)

-- ---- hosts and ports

digits_end : (front : List ℕ) → ¬ (AllDigits 10 (front ++ 93 ∷ []))
digits_end [] digits = let low = digits.0 in absurd (omega (arith, low))
digits_end (b ∷ front) digits = digits_end front digits.1

-- a text that ends with a bracket does not end with a colon and decimal digits
pub no_numeral : (front host digits : List ℕ) → IsNumeral 10 digits → ¬ (front ++ 93 ∷ [] ≡ host ++ 58 ∷ digits)
no_numeral [] [] digits numeral is = let same : ◌≡◌ {A = ℕ} 93 58 = cc in absurd (omega (arith, same))
no_numeral [] (c ∷ host) digits numeral is = absurd (omega (arith, ap length is, length-append host (58 ∷ digits)))
no_numeral (b ∷ front) [] digits numeral is =
    let tails : front ++ 93 ∷ [] ≡ digits = cc in digits_end front (subst (AllDigits 10) (sym tails) numeral.1)
no_numeral (b ∷ front) (c ∷ host) digits numeral is =
    let tails : front ++ 93 ∷ [] ≡ host ++ 58 ∷ digits = cc in no_numeral front host digits numeral tails

-- a text that ends with a colon and decimal digits is not a host
pub no_host : (text host digits : List ℕ) → text ≡ host ++ 58 ∷ digits → IsNumeral 10 digits → ¬ (IsHost text)
no_host text host digits parts numeral (inl name) =
    let both = and_parts (nat_le 1 (length text) && nat_le (length text) max_host) (list_all is_name_byte text) name in
    let all : list_all is_name_byte (host ++ 58 ∷ digits) ≡ true = subst (λ l. list_all is_name_byte l ≡ true) parts both.1 in
    let last = and_parts (list_all is_name_byte host) (list_all is_name_byte (58 ∷ digits)) (sym (list_all-append is_name_byte host (58 ∷ digits)) ∙ all) in
    false≢true last.1
no_host text host digits parts numeral (inr (inner, address, is, spells)) = no_numeral (91 ∷ inner) host digits numeral (sym is ∙ parts)
