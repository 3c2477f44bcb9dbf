-- Lines of a text: no line contains an LF, so a text has only one list of lines.
use Rattle.std.specs.Prelude.{⊤}
use Rattle.std.proofs.Common.{◌≡◌, ◌≢◌, ℕ, suc, ◌<◌, List, [], ◌∷◌, ◌++◌, refl, sym, ◌∙◌, ap, ap₂, arith}
use Rattle.std.proofs.lemmas.List.{append_assoc, append-nil}
use Rattle.std.proofs.lemmas.List.Elements.{All-head, All-tail}
use Rattle.gname.specs.Laws.{IsClean}
use Rattle.gobject.specs.PlainPackText.{IsInLine, line, text_of}

-- the line contains no LF
abbrev pub IsLine : List ℕ → Type 0
IsLine [] = ⊤
IsLine (b ∷ bs) = (b ≢ 10) × IsLine bs

-- none of the lines contains an LF
abbrev pub AreLines : List (List ℕ) → Type 0
AreLines [] = ⊤
AreLines (first ∷ lines) = IsLine first × AreLines lines

pub line_from : (text : List ℕ) → IsInLine text → IsLine text
line_from [] none = tt
line_from (b ∷ bs) none = (none 0, line_from bs (λ k. none (suc k)))

pub clean_line : (text : List ℕ) → IsClean text → IsLine text
clean_line [] clean = tt
clean_line (b ∷ bs) clean =
    let above = All-head (λ (c : ℕ). 32 < c) b bs clean in
    ((λ is. omega (arith, above, is)), clean_line bs (All-tail (λ (c : ℕ). 32 < c) b bs clean))

pub line-append : (xs ys : List ℕ) → IsLine xs → IsLine ys → IsLine (xs ++ ys)
line-append [] ys lx ly = ly
line-append (x ∷ xs) ys lx ly = (lx.0, line-append xs ys lx.1 ly)

pub lines-append : (xs ys : List (List ℕ)) → AreLines xs → AreLines ys → AreLines (xs ++ ys)
lines-append [] ys lx ly = ly
lines-append (x ∷ xs) ys lx ly = (lx.0, lines-append xs ys lx.1 ly)

pub front_lines : (xs ys : List (List ℕ)) → AreLines (xs ++ ys) → AreLines xs
front_lines [] ys each = tt
front_lines (x ∷ xs) ys each = (each.0, front_lines xs ys each.1)

pub back_lines : (xs ys : List (List ℕ)) → AreLines (xs ++ ys) → AreLines ys
back_lines [] ys each = each
back_lines (x ∷ xs) ys each = back_lines xs ys each.1

-- the first line of a text, and the text after its LF, are unique
pub one_line : (a b r s : List ℕ) → IsLine a → IsLine b → line a ++ r ≡ line b ++ s → (a ≡ b) × (r ≡ s)
one_line [] [] r s la lb e = (refl, (cc))
one_line [] (y ∷ b) r s la lb e = absurd (lb.0 (cc))
one_line (x ∷ a) [] r s la lb e = absurd (la.0 (cc))
one_line (x ∷ a) (y ∷ b) r s la lb e =
    let rest = one_line a b r s la.1 lb.1 (cc) in
    let first : x ≡ y = cc in
    (ap₂ (λ (n : ℕ) (t : List ℕ). n ∷ t) first rest.0, rest.1)

-- a text without an LF does not begin with a line and its LF
pub not_a_line : (first after rest : List ℕ) → IsLine rest → rest ≡ line first ++ after → ⊥
not_a_line [] after [] clean e = cc
not_a_line [] after (b ∷ rest) clean e = clean.0 (cc)
not_a_line (x ∷ first) after [] clean e = cc
not_a_line (x ∷ first) after (b ∷ rest) clean e = not_a_line first after rest clean.1 (cc)

-- if a text begins with some lines, they are the first of its lines
pub more_lines : (lines whole : List (List ℕ)) (rest : List ℕ) → AreLines lines → AreLines whole → text_of whole ≡ text_of lines ++ rest → (more : List (List ℕ)) × (whole ≡ lines ++ more) × (rest ≡ text_of more)
more_lines [] whole rest ll lw e = (whole, refl, sym e)
more_lines (first ∷ lines) [] rest ll lw e =
    absurd (not_a_line first (text_of lines ++ rest) [] tt (e ∙ append_assoc (line first) (text_of lines) rest))
more_lines (first ∷ lines) (other ∷ whole) rest ll lw e =
    let here = one_line other first (text_of whole) (text_of lines ++ rest) lw.0 ll.0 (e ∙ append_assoc (line first) (text_of lines) rest) in
    let further = more_lines lines whole rest ll.1 lw.1 here.1 in
    (further.0, ap (λ (l : List ℕ). l ∷ whole) here.0 ∙ ap (λ (ls : List (List ℕ)). first ∷ ls) further.1, further.2)

-- if the rest of a text has no LF, the rest is empty
pub no_line_left : (lines whole : List (List ℕ)) (rest : List ℕ) → AreLines lines → AreLines whole → IsLine rest → text_of whole ≡ text_of lines ++ rest → (rest ≡ []) × (whole ≡ lines)
no_line_left lines whole rest ll lw clean e =
    let left = more_lines lines whole rest ll lw e in none_left left.0 left.1 left.2
  where
    none_left : (more : List (List ℕ)) → whole ≡ lines ++ more → rest ≡ text_of more → (rest ≡ []) × (whole ≡ lines)
    none_left [] parts same = (same, parts ∙ append-nil lines)
    none_left (first ∷ more) parts same = absurd (not_a_line first (text_of more) rest clean same)

-- a text has at most one list of lines
pub one_list : (a b : List (List ℕ)) → AreLines a → AreLines b → text_of a ≡ text_of b → a ≡ b
one_list [] [] la lb e = refl
one_list [] (y ∷ b) la lb e = absurd (not_a_line y (text_of b) [] tt e)
one_list (x ∷ a) [] la lb e = absurd (not_a_line x (text_of a) [] tt (sym e))
one_list (x ∷ a) (y ∷ b) la lb e =
    let here = one_line x y (text_of a) (text_of b) la.0 lb.0 e in
    ap (λ (l : List ℕ). l ∷ a) here.0 ∙ ap (λ (ls : List (List ℕ)). y ∷ ls) (one_list a b la.1 lb.1 here.1)
