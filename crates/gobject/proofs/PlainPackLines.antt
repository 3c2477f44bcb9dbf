-- Parts, lines and ids at the front of a text.
use Rattle.std.proofs.Common.{◌≡◌, ◌≢◌, ◌⊎◌, inl, inr, ℕ, zero, suc, ◌+◌, ◌/◌, ◌%◌, ◌≤◌, Bool, true, false, cond, eqb, ltb, List, [], ◌∷◌, ◌++◌, length, get_or, Ok, Err, refl, ap, sym, ◌∙◌, append_assoc, arith}
use Rattle.std.specs.Fmt.{digit_glyph, digits_onto, digits, decimal}
use Rattle.std.proofs.Math.Seq.{get_or-append_seam}
use Rattle.std.proofs.lemmas.Bool.{false≢true, cases_eq, cases_lt}
use Rattle.std.proofs.lemmas.List.{append-nil, append_cancel_left, get_or_past}
use Rattle.hex.specs.Hex.{is_hex_digit}
use Rattle.gname.specs.Ids.{IsIdText, ReadsId, format_of}
use Rattle.gname.specs.declared.ids.OidFault.{OidFault}
use Rattle.gname.specs.declared.ids.OidFault.TheVariants.{Length, Digit}
use Rattle.gname.specs.declared.formats.Format.{Format}
use Rattle.gname.specs.declared.formats.Format.TheVariants.{Sha1, Sha256}
use Rattle.gname.specs.Formats.{id_text_length}
use Rattle.gname.specs.Laws.{IdTextsAreDigits, IdsHaveOneFormat, TextsSpellOneId}
use Rattle.gname.proofs.IdLemmas.{few_digits}
use Rattle.gobject.specs.declared.node.Kind.{Kind}
use Rattle.gobject.specs.declared.node.Kind.TheVariants.{Commit, Tag}
use Rattle.gobject.specs.declared.plain_pack.read.Separator.{Separator}
use Rattle.gobject.specs.declared.plain_pack.read.Separator.TheVariants.{Space, LineFeed}
use Rattle.gobject.specs.PlainPackText.{line, text_of, header, letter, IsInLine, IsIdsText}
use Rattle.gobject.specs.PlainPackReading.{IsPart}
use Rattle.gobject.specs.steps.PlainPackReading.{NoId, format_of_digits, separator_byte}

-- ---- parts

-- the empty part
pub IsPart-nil : IsPart []
IsPart-nil = λ at. (λ is. absurd (omega arith), λ is. absurd (omega arith))

pub IsPart-cons : (byte : ℕ) (text : List ℕ) → byte ≢ 32 → byte ≢ 10 → IsPart text → IsPart (byte ∷ text)
IsPart-cons byte text space feed h zero = (space, feed)
IsPart-cons byte text space feed h (suc at) = h at

pub IsPart-append : (a b : List ℕ) → IsPart a → IsPart b → IsPart (a ++ b)
IsPart-append [] b h k = k
IsPart-append (byte ∷ a) b h k = IsPart-cons byte (a ++ b) (h 0).0 (h 0).1 (IsPart-append a b (λ at. h (suc at)) k)

-- a hexadecimal digit is not a separator
hex_other : (byte : ℕ) → is_hex_digit byte ≡ true → (byte ≢ 32) × (byte ≢ 10)
hex_other byte h = (λ is. false≢true (rw is at h), λ is. false≢true (rw is at h))

pub IsPart-id : IdTextsAreDigits → (digits id : List ℕ) → IsIdText digits id → IsPart digits
IsPart-id law text id h = λ at.
    elim (cases_lt at (length text)) [
      | inl lt ↦ hex_other (get_or text at 0) ((law text id h).digits at 0 lt)
      | inr le ↦ let past = get_or_past text at 0 le in (λ is. absurd (omega arith), λ is. absurd (omega arith))
    ]

-- an id has at most 64 digits
pub length-id-most : (digits id : List ℕ) → IsIdText digits id → length digits ≤ 64
length-id-most text id h = let few = few_digits (format_of id) in omega (arith, h.long, few)

-- the number of digits of an id determines the format
format_of_digits-length : (format : Format) → format_of_digits (id_text_length format) ≡ format
format_of_digits-length Sha1 = refl
format_of_digits-length Sha256 = refl

-- if a text is refused as an id of the format with this number of digits, the text is not the text of any id
pub no_id_of_fault : IdTextsAreDigits → (text : List ℕ) (fault : OidFault) → ReadsId (format_of_digits (length text)) text (Err fault) → NoId text
no_id_of_fault law text Length h = λ id spelt.
    let same : format_of_digits (length text) ≡ format_of id = ap format_of_digits spelt.long ∙ format_of_digits-length (format_of id) in
    h (spelt.long ∙ ap id_text_length (sym same))
no_id_of_fault law text (Digit at) h = λ id spelt. false≢true (sym h.1.bad ∙ (law text id spelt).digits at 0 h.1.inside)

-- if a text is read as an id, the text encodes this id
pub id_text_of_read : IdsHaveOneFormat → (format : Format) (text id : List ℕ) → ReadsId format text (Ok id) → IsIdText text id
id_text_of_read law format text id h =
    rw ((law format id h.1).1) h.0

letter_other : (kind : Kind) → (letter kind ≢ 32) × (letter kind ≢ 10)
letter_other Commit = (λ is. omega arith, λ is. omega arith)
letter_other Tag = (λ is. omega arith, λ is. omega arith)

pub IsPart-letter : (kind : Kind) → IsPart (letter kind ∷ [])
IsPart-letter kind = IsPart-cons (letter kind) [] (letter_other kind).0 (letter_other kind).1 IsPart-nil

-- the letter of a kind is not `e`, the first letter of the last line
pub letter_no_end : (kind : Kind) → letter kind ≢ 101
letter_no_end Commit = λ is. omega arith
letter_no_end Tag = λ is. omega arith

glyph_other : (upper b : Bool) (d : ℕ) → (cond b (48 + d) (cond upper (55 + d) (87 + d)) ≢ 32) × (cond b (48 + d) (cond upper (55 + d) (87 + d)) ≢ 10)
glyph_other upper true d = (λ is. omega arith, λ is. omega arith)
glyph_other true false d = (λ is. omega arith, λ is. omega arith)
glyph_other false false d = (λ is. omega arith, λ is. omega arith)

-- the digits of a number: no separators, and at most `most` digits
record AreDigits (most : ℕ) (text : List ℕ) : Type 0 where
  is : IsPart text
  few : length text ≤ most

AreDigits-onto : (k m base n : ℕ) (text : List ℕ) → AreDigits m text → AreDigits (k + m) (digits_onto k base false n text)
AreDigits-onto zero m base n text h = record { is = h.is; few = omega (arith, h.few) }
AreDigits-onto (suc k) m base n text h =
    let glyph = glyph_other false (ltb (n % base) 10) (n % base) in
    let part = IsPart-cons (digit_glyph false (n % base)) text glyph.0 glyph.1 h.is in
    let once : AreDigits (suc m) (digit_glyph false (n % base) ∷ text) = record { is = part; few = omega (arith, h.few) } in
    let more = AreDigits-onto k (suc m) base (n / base) (digit_glyph false (n % base) ∷ text) once in
    elim (eqb (n / base) 0) as (λ b. AreDigits (suc k + m) (cond b (digit_glyph false (n % base) ∷ text) (digits_onto k base false (n / base) (digit_glyph false (n % base) ∷ text)))) [
      | true ↦ record { is = once.is; few = omega (arith, once.few) }
      | false ↦ record { is = more.is; few = omega (arith, more.few) }
    ]

AreDigits-decimal : (n : ℕ) → AreDigits 64 (decimal n)
unfolding digits
AreDigits-decimal n = AreDigits-onto 64 0 10 n [] (record { is = IsPart-nil; few = omega arith })

-- the digits of a number contain no separator
pub IsPart-decimal : (n : ℕ) → IsPart (decimal n)
IsPart-decimal n = (AreDigits-decimal n).is

pub length-decimal-most : (n : ℕ) → length (decimal n) ≤ 64
length-decimal-most n = (AreDigits-decimal n).few

pub IsPart-end : IsPart (101 ∷ 110 ∷ 100 ∷ [])
IsPart-end =
    IsPart-cons 101 (110 ∷ 100 ∷ []) (λ is. omega arith) (λ is. omega arith)
    (IsPart-cons 110 (100 ∷ []) (λ is. omega arith) (λ is. omega arith) (IsPart-cons 100 [] (λ is. omega arith) (λ is. omega arith) IsPart-nil))

pub IsPart-header : IsPart header
IsPart-header =
    IsPart-cons 71 (80 ∷ 75 ∷ 49 ∷ []) (λ is. omega arith) (λ is. omega arith)
    (IsPart-cons 80 (75 ∷ 49 ∷ []) (λ is. omega arith) (λ is. omega arith)
    (IsPart-cons 75 (49 ∷ []) (λ is. omega arith) (λ is. omega arith) (IsPart-cons 49 [] (λ is. omega arith) (λ is. omega arith) IsPart-nil)))

separator_one : (s t : Separator) → separator_byte s ≡ separator_byte t → s ≡ t
separator_one Space Space h = refl
separator_one LineFeed LineFeed h = refl
separator_one _ _ h = absurd (omega arith)

not_separator : (s : Separator) (byte : ℕ) → (byte ≢ 32) × (byte ≢ 10) → byte ≡ separator_byte s → ⊥
not_separator Space byte h is = h.0 is
not_separator LineFeed byte h is = h.1 is

-- the first part of a text, its separator and the rest of the text are unique
pub part_one : (a b : List ℕ) (s t : Separator) (x y : List ℕ) → IsPart a → IsPart b
    → a ++ separator_byte s ∷ x ≡ b ++ separator_byte t ∷ y → (a ≡ b) × (s ≡ t) × (x ≡ y)
part_one [] [] s t x y h k same =
    let first : separator_byte s ≡ separator_byte t = cc in
    let rests : x ≡ y = cc in
    (refl, separator_one s t first, rests)
part_one [] (c ∷ b) s t x y h k same = let first : c ≡ separator_byte s = cc in absurd (not_separator s c (k 0) first)
part_one (c ∷ a) [] s t x y h k same = let first : c ≡ separator_byte t = cc in absurd (not_separator t c (h 0) first)
part_one (c ∷ a) (d ∷ b) s t x y h k same =
    let first : c ≡ d = cc in
    let others : a ++ separator_byte s ∷ x ≡ b ++ separator_byte t ∷ y = cc in
    let parts = part_one a b s t x y (λ at. h (suc at)) (λ at. k (suc at)) others in
    (ap (λ byte. byte ∷ a) first ∙ ap (λ (text : List ℕ). d ∷ text) parts.0, parts.1, parts.2)

-- if a text begins with bytes without separators, these bytes are not longer than the first part of the text
pub part_long : (a b : List ℕ) (s : Separator) (x y : List ℕ) → IsPart a → a ++ x ≡ b ++ separator_byte s ∷ y → length a ≤ length b
part_long [] b s x y h same = omega arith
part_long (c ∷ a) [] s x y h same = let first : c ≡ separator_byte s = cc in absurd (not_separator s c (h 0) first)
part_long (c ∷ a) (d ∷ b) s x y h same =
    let others : a ++ x ≡ b ++ separator_byte s ∷ y = cc in
    let shorter = part_long a b s x y (λ at. h (suc at)) others in
    omega arith

-- a text that has a separator is not a single part
pub part_none : (a b : List ℕ) (s : Separator) (y : List ℕ) → IsPart a → a ≡ b ++ separator_byte s ∷ y → ⊥
part_none [] [] s y h same = cc
part_none [] (d ∷ b) s y h same = cc
part_none (c ∷ a) [] s y h same = let first : c ≡ separator_byte s = cc in not_separator s c (h 0) first
part_none (c ∷ a) (d ∷ b) s y h same = let others : a ≡ b ++ separator_byte s ∷ y = cc in part_none a b s y (λ at. h (suc at)) others

-- ---- lines

-- a text without separators has no line feed
pub IsInLine-part : (text : List ℕ) → IsPart text → IsInLine text
IsInLine-part text h = λ at. (h at).1

pub IsInLine-cons : (byte : ℕ) (text : List ℕ) → byte ≢ 10 → IsInLine text → IsInLine (byte ∷ text)
IsInLine-cons byte text other h zero = other
IsInLine-cons byte text other h (suc at) = h at

pub IsInLine-append : (a b : List ℕ) → IsInLine a → IsInLine b → IsInLine (a ++ b)
IsInLine-append [] b h k = k
IsInLine-append (byte ∷ a) b h k = IsInLine-cons byte (a ++ b) (h 0) (IsInLine-append a b (λ at. h (suc at)) k)

-- a text that contains a line and its line feed is not within one line
pub not_in_line : (a x : List ℕ) → IsInLine (line a ++ x) → ⊥
not_in_line a x h =
    let at_end : get_or (line a ++ x) (length a) 0 ≡ 10 =
    ap (λ (text : List ℕ). get_or text (length a) 0) (append_assoc a (10 ∷ []) x) ∙ get_or-append_seam a 10 x 0 in
    h (length a) at_end

-- a text has no line feed, or begins with a line and its line feed
pub first_line : (text : List ℕ) → IsInLine text ⊎ ((first : List ℕ) × (rest : List ℕ) × (text ≡ line first ++ rest) × IsInLine first)
first_line [] = inl (IsInLine-part [] IsPart-nil)
first_line (byte ∷ text) =
    elim (cases_eq byte 10) [
      | inl is ↦ inr ([], text, ap (λ b. b ∷ text) is, IsInLine-part [] IsPart-nil)
      | inr other ↦
          elim (first_line text) [
            | inl one ↦ inl (IsInLine-cons byte text other one)
            | inr found ↦ inr (byte ∷ found.0, found.1, ap (λ (t : List ℕ). byte ∷ t) found.2, IsInLine-cons byte found.0 other found.3)
          ]
    ]

-- the first line of a text and the rest of the text are unique
pub line_parts : (a b x y : List ℕ) → IsInLine a → IsInLine b → line a ++ x ≡ line b ++ y → (a ≡ b) × (x ≡ y)
line_parts [] [] x y h k same = (refl, let rests : x ≡ y = cc in rests)
line_parts [] (c ∷ b) x y h k same = let first : c ≡ 10 = cc in absurd (k 0 first)
line_parts (c ∷ a) [] x y h k same = let first : c ≡ 10 = cc in absurd (h 0 first)
line_parts (c ∷ a) (d ∷ b) x y h k same =
    let first : c ≡ d = cc in
    let others : line a ++ x ≡ line b ++ y = cc in
    let parts = line_parts a b x y (λ at. h (suc at)) (λ at. k (suc at)) others in
    (ap (λ byte. byte ∷ a) first ∙ ap (λ (text : List ℕ). d ∷ text) parts.0, parts.1)

-- the text of two lists of lines
pub text_of-append : (lines more : List (List ℕ)) → text_of (lines ++ more) ≡ text_of lines ++ text_of more
text_of-append [] more = refl
text_of-append (first ∷ lines) more =
    ap (λ (text : List ℕ). line first ++ text) (text_of-append lines more) ∙ sym (append_assoc (line first) (text_of lines) (text_of more))

-- the text of some lines, one more line and the rest
pub text_of-push : (lines : List (List ℕ)) (text rest : List ℕ) → text_of (lines ++ text ∷ []) ++ rest ≡ text_of lines ++ (line text ++ rest)
text_of-push lines text rest =
    ap (λ (front : List ℕ). front ++ rest) (text_of-append lines (text ∷ []) ∙ ap (λ (last : List ℕ). text_of lines ++ last) (append-nil (line text)))
    ∙ append_assoc (text_of lines) (line text) rest

-- ---- ids

-- the separator after the first of some ids, and the text after this separator
pub id_follows : (digits others : List ℕ) (ids : List (List ℕ)) (end : Separator) (rest : List ℕ) → IsIdsText others ids
    → (first : Separator) × (after : List ℕ) × ((digits ++ others) ++ separator_byte end ∷ rest ≡ digits ++ separator_byte first ∷ after)
id_follows digits others [] end rest h =
    (end, rest, ap (λ (t : List ℕ). (digits ++ t) ++ separator_byte end ∷ rest) h ∙ ap (λ (t : List ℕ). t ++ separator_byte end ∷ rest) (append-nil digits))
id_follows digits others (id ∷ ids) end rest h =
    (Space, (h.0 ++ h.1) ++ separator_byte end ∷ rest, ap (λ (t : List ℕ). (digits ++ t) ++ separator_byte end ∷ rest) h.2 ∙ append_assoc digits (32 ∷ h.0 ++ h.1) (separator_byte end ∷ rest))

-- the digits of the first id and the text after these digits are unique
ids_first : (d e o p : List ℕ) (a b : List (List ℕ)) (s t : Separator) (x y : List ℕ) → IsPart d → IsPart e → IsIdsText o a → IsIdsText p b
    → (d ++ o) ++ separator_byte s ∷ x ≡ (e ++ p) ++ separator_byte t ∷ y
    → (d ≡ e) × (o ++ separator_byte s ∷ x ≡ p ++ separator_byte t ∷ y)
ids_first d e o p a b s t x y d_is e_is h k same =
    let f = id_follows d o a s x h in
    let g = id_follows e p b t y k in
    let one = part_one d e f.0 g.0 f.1 g.1 d_is e_is (sym f.2 ∙ same ∙ g.2) in
    let moved : d ++ (o ++ separator_byte s ∷ x) ≡ d ++ (p ++ separator_byte t ∷ y) =
    sym (append_assoc d o (separator_byte s ∷ x)) ∙ same ∙ ap (λ (text : List ℕ). (text ++ p) ++ separator_byte t ∷ y) (sym one.0)
    ∙ append_assoc d p (separator_byte t ∷ y) in
    (one.0, append_cancel_left d (o ++ separator_byte s ∷ x) (p ++ separator_byte t ∷ y) moved)

-- the ids up to the end of a line form at most one list
pub IsIdsText-one : IdTextsAreDigits → TextsSpellOneId → (text other : List ℕ) (a b : List (List ℕ)) (x y : List ℕ) → IsIdsText text a → IsIdsText other b
    → text ++ 10 ∷ x ≡ other ++ 10 ∷ y → a ≡ b
IsIdsText-one law one text other [] [] x y h k same = refl
IsIdsText-one law one text other [] (j ∷ b) x y h k same = let whole = rw (h, k.2) at same in grind arith
IsIdsText-one law one text other (i ∷ a) [] x y h k same = let whole = rw (h.2, k) at same in grind arith
IsIdsText-one law one text other (i ∷ a) (j ∷ b) x y h k same =
    let whole = rw (h.2, k.2) at same in
    let inner : (h.0 ++ h.1) ++ 10 ∷ x ≡ (k.0 ++ k.1) ++ 10 ∷ y = cc in
    let f = ids_first h.0 k.0 h.1 k.1 a b LineFeed LineFeed x y (IsPart-id law h.0 i h.3) (IsPart-id law k.0 j k.3) h.4 k.4 inner in
    let spelt : IsIdText h.0 j = rw f.0 k.3 in
    let others : a ≡ b = IsIdsText-one law one h.1 k.1 a b x y h.4 k.4 f.1 in
    ap (λ id. id ∷ a) (one h.0 i j h.3 spelt) ∙ ap (λ ids. j ∷ ids) others

-- if a space follows some ids of a line, the text of another id comes next
pub ids_rest : IdTextsAreDigits → (text other : List ℕ) (a b : List (List ℕ)) (x y : List ℕ) → IsIdsText text a → IsIdsText other b
    → text ++ 32 ∷ x ≡ other ++ 10 ∷ y
    → (digits : List ℕ) × (id : List ℕ) × IsIdText digits id × (end : Separator) × (after : List ℕ) × (x ≡ digits ++ separator_byte end ∷ after)
ids_rest law text other [] [] x y h k same = let whole = rw (h, k) at same in grind arith
ids_rest law text other [] (j ∷ b) x y h k same =
    let whole = rw (h, k.2) at same in
    let inner : x ≡ (k.0 ++ k.1) ++ 10 ∷ y = cc in
    let f = id_follows k.0 k.1 b LineFeed y k.4 in
    (k.0, j, k.3, f.0, f.1, inner ∙ f.2)
ids_rest law text other (i ∷ a) [] x y h k same = let whole = rw (h.2, k) at same in grind arith
ids_rest law text other (i ∷ a) (j ∷ b) x y h k same =
    let whole = rw (h.2, k.2) at same in
    let inner : (h.0 ++ h.1) ++ 32 ∷ x ≡ (k.0 ++ k.1) ++ 10 ∷ y = cc in
    let f = ids_first h.0 k.0 h.1 k.1 a b Space LineFeed x y (IsPart-id law h.0 i h.3) (IsPart-id law k.0 j k.3) h.4 k.4 inner in
    ids_rest law h.1 k.1 a b x y h.4 k.4 f.1

-- the text of some ids and one more id
pub IsIdsText-push : (front digits id : List ℕ) (ids : List (List ℕ)) → IsIdsText front ids → IsIdText digits id
    → IsIdsText (front ++ 32 ∷ digits) (ids ++ id ∷ [])
IsIdsText-push front digits id [] h spelt =
    (digits, [], ap (λ (text : List ℕ). text ++ 32 ∷ digits) h ∙ ap (λ (text : List ℕ). 32 ∷ text) (sym (append-nil digits)), spelt, refl)
IsIdsText-push front digits id (first ∷ ids) h spelt =
    (h.0, h.1 ++ 32 ∷ digits, ap (λ (text : List ℕ). text ++ 32 ∷ digits) h.2 ∙ ap (λ (text : List ℕ). 32 ∷ text) (append_assoc h.0 h.1 (32 ∷ digits)), h.3, IsIdsText-push h.1 digits id ids h.4 spelt)
